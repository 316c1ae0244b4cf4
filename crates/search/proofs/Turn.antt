-- What is known at a rank: of the level that is packed for it, of the row in hand, and of the level without that row.
use Prim.Native.Nat.{ℕ, ◌+◌, ◌≤◌, ◌<◌}
use mathlib.Core.Path.{◌≡◌, ap, ◌∙◌, subst}
use mathlib.Core.Bool.{Bool, true, ◌&&◌}
use mathlib.Core.List.{List}
use native.Mathlib.Omega.{arith}
use Rattle.std.specs.Prelude.{Option, Some, None, IfSome}
use lib.Count.{count_trailing_zeros}
use lib.ListN.{length, get_or, take}
use Rattle.counting.specs.Sum.{without}
use Rattle.marks.specs.inside.Marks.{marked, Both, Placed}
use Rattle.marks.proofs.Marks.{something}
use Rattle.tables.specs.Table.{Table, SoundRow, most_rows}
use Rattle.tables.specs.Plan.{cap}
use Rattle.tables.specs.inside.Rows.{table_in}
use Rattle.tables.specs.declared.task.Tasks.{Tasks}
use Rattle.tables.proofs.Plan.{cap_run}
use Rattle.test.specs.Test.{horizon, upto, load, Active, active_side}
use Rattle.test.proofs.Load.{Positive}
use Rattle.sides.specs.inside.Asks.{nothing, again}
use Rattle.sides.specs.declared.ask.Ask.{Ask}
use Rattle.sides.specs.inside.Level.{active_of, Packed, LeftOut, PutBack}
use Rattle.sides.specs.inside.Found.{Fixed, FixedWithin}
use Rattle.sides.proofs.Asking.{Kept, asking_held, asking_packed}
use Rattle.sides.proofs.Left.{place_within, left_whole, left_few, left_others, back_as_was}
use Rattle.sides.proofs.Level.{Asking}
use Rattle.sides.proofs.Rows.{read_is}
use Rattle.responses.proofs.Jobs.{Working}
use Rattle.search.proofs.Period.{Searchable, positive, period_within, period_first, period_exists, period_found}
use Rattle.search.proofs.Period.{kept_without}

-- the table that tasks hold
abbrev pub table : Tasks → Table
table tasks = table_in tasks.rows tasks.n

-- row i is tried, with the rows at which P passes above it: they ask for `first` in the first tick, and L is its active
-- period, within the bound
pub record Hand (tb : Table) (P : ℕ → Bool) (b i first L bound : ℕ) : Type 0 where
  pub positive : Positive tb
  pub row : i < tb.n
  pub sound : SoundRow tb i
  pub active : Active tb P b i L
  pub in_bound : L ≤ bound
  pub short : L ≤ horizon
  pub first_is : first ≡ active_side tb P b i 1

-- with a length that it may have
pub hand_works : {tb : Table} {P : ℕ → Bool} {b i first L bound q : ℕ} → Hand tb P b i first L bound → 1 ≤ q →
    q ≤ cap tb i → Working tb P b i q L
hand_works {tb} {P} {b} {i} h lo hi =
    record {
      positive = h.positive;
      row = h.row;
      some = lo;
      most = cap_run tb i hi;
      active = h.active;
      within = h.short;
    }

-- the first m rows of the level ask, before the bound, for what the rows at which P passes ask for
pub record Above (tb : Table) (P : ℕ → Bool) (bound : ℕ) (level : List Ask) (m : ℕ) : Type 0 where
  pub asking : Asking tb P bound (take m level)
  pub few : m ≤ most_rows
  pub whole : length level ≡ most_rows

in_room : {m : ℕ} → m ≤ most_rows → (at : Option ℕ) → IfSome at (λ p. p < m) → IfSome at (λ p. p < most_rows)
in_room few (Some p) h = omega arith
in_room few None h = tt

-- the level of a rank: the unplaced rows that are released again are packed at its front, m in number, and `first` is
-- asked for in the first tick
pub record Turn (tb : Table) (asks : List Ask) (unplaced repeats b runs bound set : ℕ) (level : List Ask) (m first : ℕ)
    : Type 0 where
  pub search : Searchable tb asks unplaced repeats b runs bound
  pub both : Both unplaced repeats set
  pub before : List Ask
  pub packed : Packed asks (marked set) before level m
  pub whole : length level ≡ most_rows
  pub first_is : first ≡ b + runs

module _ {tb : Table} {asks : List Ask} {unplaced repeats b runs bound set : ℕ} {level : List Ask} {m first : ℕ}
    (t : Turn tb asks unplaced repeats b runs bound set level m first) where
  abbrev U : ℕ → Bool
  U = marked unplaced

  short_bound : bound ≤ horizon + 1
  short_bound = omega (arith, t.search.within)

  kept : Kept tb U bound (marked set)
  kept j l = t.both j ∙ ap (λ x. U j && x) (t.search.repeat j l)

  asking : Asking tb U bound (take m level)
  asking = asking_packed t.search.sound t.search.asked short_bound kept t.whole t.packed

  asks_runs : first ≡ b + load upto tb U 0
  asks_runs = omega (arith, t.first_is, t.search.first)

  pub turn_level : Above tb U bound level m
  turn_level = record { asking = asking; few = t.packed.few; whole = t.whole }

  pub turn_period : FixedWithin (active_of (take m level) first) 1 first
  turn_period =
      let some = something unplaced t.search.some in
      period_exists t.search (count_trailing_zeros unplaced unplaced) some asking asks_runs

  -- row i is taken in hand
  module _ (i : ℕ) (among : U i ≡ true) where
    inside : i < tb.n
    inside = t.search.inside i among

    asked : i < length asks
    asked = omega (arith, t.search.asked.long, inside)

    pub turn_hand : {L : ℕ} → Fixed (active_of (take m level) first) 1 L →
        Hand tb (without U i) b i first L bound
    turn_hand x =
        let active = period_found t.search i among asking asks_runs x in
        let within = period_within t.search i among active in
        record {
          positive = positive t.search;
          row = inside;
          sound = t.search.sound.row i inside;
          active = active;
          in_bound = within;
          short = omega (arith, within, t.search.within);
          first_is = period_first t.search i among asking asks_runs;
        }

    -- and left out of the level
    module _ (at : Option ℕ) (placed : Placed set i at) where
      pub place_fits : IfSome at (λ p. p < m)
      place_fits = place_within set t.packed t.whole i asked at placed

      pub place_in_room : IfSome at (λ p. p < most_rows)
      place_in_room = in_room t.packed.few at place_fits

      module _ (left : List Ask) (r : ℕ) (o : LeftOut at level m left r) where
        pub left_level : Above tb (without U i) bound left r
        left_level =
            let whole = left_whole set t.packed t.whole i asked at left r o in
            record {
              asking =
                  asking_held t.search.sound t.search.asked short_bound
                  (λ j l. kept_without (marked set) U (again tb bound j) i j (kept j l)) whole
                  (left_others set t.packed t.whole i asked at left r placed o);
              few = left_few set t.packed t.whole i asked at left r o;
              whole = whole;
            }

        -- what it asks with put back, the level is as it was
        pub left_back : (back : List Ask) (a : Ask) → a ≡ get_or asks i a → PutBack at a left back → back ≡ level
        left_back back a read p =
            back_as_was set t.packed t.whole i asked at left back r placed o
            (subst (λ x. PutBack at x left back) (read_is asks a nothing asked read) p)
