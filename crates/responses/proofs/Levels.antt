-- The two levels of a ranked row: of it and the rows above it, whose right side gives its active period; and of those
-- above it alone, whose right sides give its starts.
use Rattle.std.proofs.Common.{ℕ, suc, ◌+◌, ◌-◌, ◌*◌, ◌≤◌, ◌<◌, ◌≡◌, List, length, take, Option, IfSome, arith}
use Rattle.std.proofs.Common.{sym, ap, ◌∙◌, subst}
use Rattle.counting.specs.Up.{up}
use Rattle.counting.specs.Sum.{without}
use Rattle.marks.specs.inside.Marks.{marked, Placed, More}
use Rattle.tables.specs.Table.{Table, most_rows}
use Rattle.test.specs.Test.{horizon, jobs, Start, active_side, Response}
use Rattle.sides.specs.declared.ask.Ask.{Ask}
use Rattle.sides.specs.inside.Level.{runs_of, active_of, start_of, Packed, LeftOut}
use Rattle.sides.specs.inside.Found.{Fixed, FixedWithin}
use Rattle.sides.proofs.Level.{Asking}
use Rattle.sides.proofs.Asking.{asking_held, asking_packed, all_again, runs_packed}
use Rattle.sides.proofs.Left.{place_within, left_whole, left_others}
use Rattle.sides.proofs.Lower.{start_within, start_found}
use Rattle.responses.specs.inside.Asked.{Ranked}
use Rattle.responses.proofs.Jobs.{Job, length_first, job_exists, job_base, base_within, job_known}
use Rattle.responses.proofs.Largest.{Passed, passed_all}
use Rattle.responses.proofs.Ranked.{positive, rows, working, others, first, within, found}

-- the m rows of the set `all`, which are row i and those of a set without it, stand at the front of the level
pub record Levelled (asks : List Ask) (set i all m : ℕ) (level : List Ask) : Type 0 where
  pub more : More set i all
  pub before : List Ask
  pub packed : Packed asks (marked all) before level m
  pub whole : length level ≡ most_rows

module _ {tb : Table} {asks : List Ask} {set b i q : ℕ} (r : Ranked tb asks set b i q) where
  -- the row and the rows above it
  module _ {all m : ℕ} {level : List Ask} (v : Levelled asks set i all m level) where
    pub level_asks : Asking tb (marked all) (horizon + 1) (take m level)
    level_asks =
        asking_packed r.sound r.asked (omega arith) (all_again r.sound r.asked (marked all)) v.whole v.packed

    -- the row has its place in it
    row_inside : i < length asks
    row_inside = omega (arith, r.row, rows r)

    pub place_fits : (at : Option ℕ) → Placed all i at → IfSome at (λ p. p < m)
    place_fits = place_within all v.packed v.whole i row_inside

    -- what is asked for in the first tick
    module _ {runs : ℕ} (e : runs ≡ runs_of (take m level)) where
      pub first_is : b + runs ≡ active_side tb (marked set) b i 1
      first_is =
          first r all v.more level_asks (omega (arith, e, runs_packed r.sound r.asked v.whole v.packed))

      pub period_within : FixedWithin (active_of (take m level) (b + runs)) 1 (b + runs)
      period_within =
          within r all v.more level_asks (omega (arith, e, runs_packed r.sound r.asked v.whole v.packed))

      period_is : {t : ℕ} → Fixed (active_of (take m level) (b + runs)) 1 t → t ≡ r.period
      period_is =
          found r all v.more level_asks (omega (arith, e, runs_packed r.sound r.asked v.whole v.packed))

      -- and how many jobs it has
      pub jobs_are : {t n : ℕ} → Fixed (active_of (take m level) (b + runs)) 1 t → n ≡ up t (tb.T i) →
          n ≡ jobs tb (marked set) b i r.period
      jobs_are f e = omega (arith, e, ap (jobs tb (marked set) b i) (period_is f))

    -- the row left out
    pub above_asks : (at : Option ℕ) (rest : ℕ) (left : List Ask) → Placed all i at → LeftOut at level m left rest →
        Asking tb (marked set) (horizon + 1) (take rest left)
    above_asks at rest left here out =
        let held = left_others all v.packed v.whole i row_inside at left rest here out in
        subst (λ P. Asking tb P (horizon + 1) (take rest left)) (sym (others r all v.more))
        (asking_held r.sound r.asked (omega arith) (all_again r.sound r.asked (without (marked all) i))
        (left_whole all v.packed v.whole i row_inside at left rest out) held)

-- what is known of row i when its starts are looked for: what is asked for in the first tick, how many jobs it has, and
-- the level of the m rows above
pub record Ready {tb : Table} {asks : List Ask} {set b i q : ℕ} (r : Ranked tb asks set b i q) (first jobs_of m : ℕ)
    (level : List Ask) : Type 0 where
  pub first_is : first ≡ active_side tb (marked set) b i 1
  pub jobs_are : jobs_of ≡ jobs tb (marked set) b i r.period
  pub asking : Asking tb (marked set) (horizon + 1) (take m level)

module _ {tb : Table} {asks : List Ask} {set b i q first jobs_of m : ℕ} {level : List Ask}
    {r : Ranked tb asks set b i q} (d : Ready r first jobs_of m level)
  where
    pub length_fits : q ≤ first
    length_fits = omega (arith, d.first_is, length_first (working r))

    pub first_low : (s : ℕ) → Start tb (marked set) b i q 1 s → first - q ≤ s
    first_low s st = omega (arith, d.first_is, job_base (working r) 0 st)

    -- with all jobs passed, the largest is the response
    pub responds : {k R : ℕ} → k ≡ jobs_of → Passed tb (marked set) b i q k R → Response tb (marked set) b i q R
    responds e p = passed_all (working r) (rw (e ∙ d.jobs_are) at p)

    -- a job of the active period
    module _ (k : ℕ) (l : k < jobs_of) where
      counts : k < jobs tb (marked set) b i r.period
      counts = omega (arith, d.jobs_are)

      abbrev one : (s : ℕ) × Start tb (marked set) b i q (suc k) s × (s + q ≤ r.period)
      one = job_exists (working r) (suc k) (omega arith) counts

      pub base_fits : first + k * tb.C i - q ≤ horizon
      base_fits = omega (arith, d.first_is, base_within (working r) k counts, r.within)

      module _ {base : ℕ} (e : base ≡ first + k * tb.C i - q) where
        based : base ≡ active_side tb (marked set) b i 1 + k * tb.C i - q
        based = omega (arith, e, d.first_is)

        pub start_low : {low : ℕ} → ((s : ℕ) → Start tb (marked set) b i q (suc k) s → low ≤ s) →
            FixedWithin (start_of (take m level) base) 0 low
        start_low from =
            start_within d.asking (positive r) b i q k r.row r.most based (omega (arith, one.2, r.within))
            (omega (arith, one.2, r.within)) one.1 (from one.0 one.1)

        module _ {s : ℕ} (f : Fixed (start_of (take m level) base) 0 s) where
          pub starts : Start tb (marked set) b i q (suc k) s
          starts =
              subst (Start tb (marked set) b i q (suc k))
              (sym (start_found d.asking (positive r) b i q k r.row r.most based (omega (arith, one.2, r.within))
              (omega (arith, one.2, r.within)) one.1 f)) one.1

          pub started : Job tb i q k s
          started = job_known (working r) k counts starts
