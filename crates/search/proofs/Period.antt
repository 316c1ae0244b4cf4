-- Laws of a level that is searched: its rows ask for the same and have the same active period, whichever of them is
-- tried, and with the blocking it lies within the horizon.
use Prim.Native.Nat.{ℕ, ◌+◌, ◌≤◌, ◌<◌}
use mathlib.Core.Path.{◌≡◌, sym, ap, ◌∙◌, subst}
use mathlib.Core.Bool.{Bool, true, ◌&&◌}
use mathlib.Core.List.{List}
use native.Mathlib.Omega.{arith}
use Rattle.counting.specs.Sum.{without}
use Rattle.counting.proofs.Cases.{by_eq}
use Rattle.counting.proofs.Least.{least_unique}
use Rattle.counting.proofs.Sum.{without_same, without_other}
use Rattle.marks.specs.inside.Marks.{marked}
use Rattle.tables.specs.Table.{Table, Sound}
use Rattle.test.specs.Test.{before, upto, load, busy_side, horizon, Busy, Active, active_side}
use Rattle.test.proofs.Load.{Positive, sound_positive}
use Rattle.test.proofs.Sides.{active_side_level}
use Rattle.test.proofs.Plans.{level_active}
use Rattle.sides.specs.inside.Asks.{again, Asks}
use Rattle.sides.specs.declared.ask.Ask.{Ask}
use Rattle.sides.specs.inside.Level.{active_of}
use Rattle.sides.specs.inside.Found.{Fixed, FixedWithin}
use Rattle.sides.proofs.Level.{Asking}
use Rattle.sides.proofs.Lower.{active_first, active_within, active_found}

-- a level of a table that has its busy period: some rows are unplaced, and the blocking and what they ask for is never
-- more than what all rows ask for; the runs of the unplaced rows, the rows that are released again in the busy period,
-- and what the table's rows ask with
pub record Searchable (tb : Table) (asks : List Ask) (unplaced repeats b runs bound : ℕ) : Type 0 where
  pub sound : Sound tb
  pub asked : Asks tb asks
  pub inside : (j : ℕ) → marked unplaced j ≡ true → j < tb.n
  pub some : 0 < unplaced
  pub busy : Busy tb bound
  pub within : bound ≤ horizon
  pub room : (t : ℕ) → 1 ≤ t → b + load before tb (marked unplaced) t ≤ busy_side tb t
  pub repeat : (j : ℕ) → j < tb.n → marked repeats j ≡ again tb bound j
  pub first : runs ≡ load upto tb (marked unplaced) 0

module _ {tb : Table} {asks : List Ask} {unplaced repeats b runs bound : ℕ}
    (s : Searchable tb asks unplaced repeats b runs bound) where
  abbrev U : ℕ → Bool
  U = marked unplaced

  pub positive : Positive tb
  positive = sound_positive tb s.sound

  -- row i of the level
  module _ (i : ℕ) (e : U i ≡ true) where
    exists : (L : ℕ) × Active tb (without U i) b i L × (L ≤ bound)
    exists =
        level_active tb (without U i) b i positive (s.inside i e)
        (record { period = bound; busy = s.busy; within = s.within })
        (λ t h. omega (arith, s.room t h, active_side_level tb U b i t (s.inside i e) e))

    pub period_within : {L : ℕ} → Active tb (without U i) b i L → L ≤ bound
    period_within a = omega (arith, exists.2, least_unique a exists.1)

    module _ {level : List Ask} (a : Asking tb U bound level) {first : ℕ}
        (f : first ≡ b + load upto tb U 0) where
      pub period_first : first ≡ active_side tb (without U i) b i 1
      period_first = active_first a positive b i f (s.inside i e) e

      pub period_exists : FixedWithin (active_of level first) 1 first
      period_exists =
          active_within a positive b i f (s.inside i e) e exists.2 (omega (arith, exists.2, s.within))
          exists.1

      pub period_found : {L : ℕ} → Fixed (active_of level first) 1 L → Active tb (without U i) b i L
      period_found x =
          subst (Active tb (without U i) b i)
          (sym (active_found a positive b i f (s.inside i e) e exists.2
          (omega (arith, exists.2, s.within)) exists.1 x)) exists.1

-- of a level without row i, those rows are kept that are kept of the whole
pub kept_without : (Q W : ℕ → Bool) (r : Bool) (i j : ℕ) → Q j ≡ (W j && r) → without Q i j ≡ (without W i j && r)
kept_without Q W r i j h =
    by_eq j i
    (λ e. rw (e, without_same Q i, without_same W i))
    (λ e. without_other Q i j e ∙ h ∙ ap (λ x. x && r) (sym (without_other W i j e)))
