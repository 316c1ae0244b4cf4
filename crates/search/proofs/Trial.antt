-- Laws of one length's trial, job by job: where it is left, the length passes, with its response, or it does not.
use Prim.Native.Nat.{ℕ, suc, ◌+◌, ◌-◌, ◌*◌, max, ◌≤◌, ◌<◌}
use mathlib.Core.Path.{◌≡◌, refl, sym, ap, ◌∙◌, subst}
use mathlib.Core.Bool.{Bool}
use mathlib.Core.List.{List}
use native.Mathlib.Omega.{arith}
use Rattle.std.specs.Prelude.{Some, None}
use native.Mathlib.Nat.{suc-mul}
use native.Mathlib.Numerals.{add-one}
use lib.ListN.{take}
use Rattle.counting.proofs.Cases.{by_eq}
use Rattle.counting.proofs.Up.{up_le, lt_up}
use Rattle.counting.proofs.Least.{Climbing, climbing_below, climbing_step, climbing_stops, least_unique}
use Rattle.tables.specs.Table.{Table}
use Rattle.test.specs.Test.{horizon, upto, jobs, Start, active_side, start_side}
use Rattle.test.proofs.Sides.{start_side_mono}
use Rattle.test.proofs.Starts.{jobs_some, released_within}
use Rattle.sides.specs.declared.ask.Ask.{Ask}
use Rattle.sides.specs.inside.Level.{start_of}
use Rattle.sides.proofs.Level.{start_of_is}
use Rattle.responses.proofs.Jobs.{Working, jobs_few, job_base, job_exists, job_known, next_low}
use Rattle.responses.proofs.Largest.{Passed, passed_none, passed_more, passed_all}
use Rattle.search.proofs.Turn.{Hand, Above}
use Rattle.search.proofs.Lengths.{Tested}

-- job k of row i is due at (k - 1) T + D
abbrev pub due : Table → ℕ → ℕ → ℕ
due tb i k = (k - 1) * tb.T i + tb.D i

-- job k is tried and its start is s or later; the jobs before met their deadlines, and R is their largest response
pub record Trial (tb : Table) (P : ℕ → Bool) (b i q L k s R : ℕ) : Type 0 where
  pub low : 1 ≤ k
  pub high : k ≤ jobs tb P b i L
  pub climbing : Climbing (start_side tb P b i upto q k) 0 s
  pub met : (j t : ℕ) → 1 ≤ j → j < k → Start tb P b i q j t → t + q ≤ due tb i j
  pub passed : Passed tb P b i q (k - 1) R

module _ {tb : Table} {P : ℕ → Bool} {b i q L : ℕ} (w : Working tb P b i q L) where
  abbrev side : ℕ → ℕ → ℕ
  side k = start_side tb P b i upto q k

  from_below : (k s : ℕ) → 1 ≤ k → k ≤ jobs tb P b i L → ((t : ℕ) → Start tb P b i q k t → s ≤ t) →
      Climbing (side k) 0 s
  from_below k s h g le =
      let x = job_exists w k h g in
      climbing_below (side k) 0 s (start_side_mono tb P b i q k) (omega arith) x.1 (omega arith) (le x.0 x.1)

  -- the first job ends no sooner than what is asked for in the first tick
  pub trial_first : (first : ℕ) → first ≡ active_side tb P b i 1 → Trial tb P b i q L 1 (first - q) 0
  trial_first first e =
      let g = jobs_some tb P b i w.positive w.row L w.active in
      record {
        low = omega arith;
        high = g;
        climbing = from_below 1 (first - q) (omega arith) g (λ t st. omega (arith, job_base w 0 st));
        met = λ j t x y. absurd (omega arith);
        passed = passed_none tb P b i q;
      }

  module _ {k s R : ℕ} (t : Trial tb P b i q L k s R) where
    -- the start of job k lies within the active period, and so does every lower bound
    pub trial_within : s + q ≤ L
    trial_within =
        let x = job_exists w k t.low t.high in
        omega (arith, t.climbing.under x.0 (omega arith) x.1.holds)

    -- the jobs are no more than ticks, and each is released within the horizon
    pub trial_few : k ≤ horizon
    trial_few = omega (arith, t.high, jobs_few w)

    pub trial_released : (k - 1) * tb.T i ≤ horizon
    trial_released =
        let from = released_within tb P b i w.positive w.row L (k - 1) (omega (arith, t.low, t.high)) in
        omega (arith, from, w.within)

    -- the next release, which is in the active period unless the job is the last one
    next_release : (k - 1) * tb.T i + tb.T i ≡ k * tb.T i
    next_release =
        let z : suc (k - 1) ≡ k = omega (arith, t.low) in
        sym (suc-mul (k - 1) (tb.T i)) ∙ ap (λ x. x * tb.T i) z

    pub trial_last : L ≤ (k - 1) * tb.T i + tb.T i → k ≡ jobs tb P b i L
    trial_last h =
        let e = next_release in
        omega (arith, t.high, up_le L k (w.positive.T i w.row) (omega arith))

    pub trial_more : (k - 1) * tb.T i + tb.T i < L → k < jobs tb P b i L
    trial_more h = let e = next_release in lt_up L k (w.positive.T i w.row) (omega arith)

    -- the level of the rows above asks for what the start's right side does
    pub trial_side : {first bound base m : ℕ} {level : List Ask} → Hand tb P b i first L bound →
        Above tb P bound level m → base ≡ first + (k - 1) * tb.C i - q →
        start_of (take m level) base s ≡ side k s
    trial_side {first} {bound} {base} h a e =
        let z : suc (k - 1) ≡ k = omega (arith, t.low) in
        let based : base ≡ active_side tb P b i 1 + (k - 1) * tb.C i - q = omega (arith, e, h.first_is) in
        start_of_is a.asking w.positive b i q (k - 1) w.row w.most based s
        (omega (arith, trial_within, w.some, h.in_bound))
        ∙ ap (λ n. start_side tb P b i upto q n s) z

    pub trial_again : Trial tb P b i q L k (side k s) R
    trial_again =
        record {
          low = t.low;
          high = t.high;
          climbing = climbing_step (side k) 0 s (start_side_mono tb P b i q k) t.climbing;
          met = t.met;
          passed = t.passed;
        }

    -- a lower bound of a start that is too late is a miss: the length does not pass
    pub trial_misses : due tb i k < s + q → Tested tb P b i q None
    trial_misses h x =
        let st = job_exists w k t.low t.high in
        let r = x.response in
        let same = least_unique r.active w.active in
        let z : suc (k - 1) ≡ k = omega (arith, t.low) in
        omega (
          arith,
          t.climbing.under st.0 (omega arith) st.1.holds,
          r.highest (k - 1) (st.0 + q) (rw same (omega (arith, t.low, t.high)))
              (record { start = st.0; starts = rw z st.1; ends = refl }),
        )

    -- a value that repeats is the start
    module _ (e : s ≡ side k s) where
      counts : k - 1 < jobs tb P b i L
      counts = omega (arith, t.low, t.high)

      starts : Start tb P b i q (suc (k - 1)) s
      starts = let z : suc (k - 1) ≡ k = omega (arith, t.low) in rw z (climbing_stops t.climbing e)

      -- it ends no sooner than it is released
      pub trial_after : (k - 1) * tb.T i ≤ s + q
      trial_after = omega (arith, (job_known w (k - 1) counts starts).after)

      kept : Passed tb P b i q k (max R (s + q - (k - 1) * tb.T i))
      kept =
          let z : k - 1 + 1 ≡ k = omega (arith, t.low) in
          rw z at (passed_more t.passed starts (job_known w (k - 1) counts starts))

      -- in time: the jobs up to k met their deadlines
      module _ (h : s + q ≤ due tb i k) where
        met_more : (j u : ℕ) → 1 ≤ j → j < k + 1 → Start tb P b i q j u → u + q ≤ due tb i j
        met_more j u x y st =
            by_eq j k
            (λ z.
            let o = least_unique (rw z at st) (climbing_stops t.climbing e) in
            omega (arith, ap (due tb i) z))
            (λ z. t.met j u x (omega arith) st)

        -- the next job starts no sooner than C later
        pub trial_next : k < jobs tb P b i L → {next : ℕ} → next ≡ s + tb.C i →
            Trial tb P b i q L (k + 1) next (max R (s + q - (k - 1) * tb.T i))
        trial_next g later =
            record {
              low = omega arith;
              high = omega arith;
              climbing =
                  from_below (k + 1) _ (omega arith) (omega arith)
                  (λ u st. omega (
                    arith,
                    later,
                    next_low w k t.low (climbing_stops t.climbing e) (rw add-one at st),
                  ));
              met = met_more;
              passed = let z : k + 1 - 1 ≡ k = omega arith in rw z kept;
            }

        -- after the last job the length passes
        pub trial_passes : k ≡ jobs tb P b i L → Tested tb P b i q (Some (max R (s + q - (k - 1) * tb.T i)))
        trial_passes g =
            let r = passed_all w (subst (λ m. Passed tb P b i q m (max R (s + q - (k - 1) * tb.T i))) g kept) in
            let j = r.job in
            let same = least_unique r.active w.active in
            let z : suc j - 1 ≡ j = omega arith in
            let m = met_more (suc j) r.reached.start (omega arith) (omega (arith, rw same at r.counts))
            r.reached.starts in
            (record { R = _; response = r; within = omega (arith, r.reached.ends, ap (λ v. v * tb.T i) z) }, r)
