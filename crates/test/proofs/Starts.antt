-- Laws of the starts within an active period: they exist, lie where they must, and each follows the one before by at
-- least C.
use Prim.Native.Nat.{ℕ, suc, ◌+◌, ◌-◌, ◌*◌, ◌≤◌, ◌<◌}
use mathlib.Core.Bool.{Bool}
use native.Mathlib.Omega.{arith}
use native.Mathlib.Nat.{mul-le-mul_right}
use Rattle.counting.proofs.Cases.{by_le, by_eq}
use Rattle.counting.proofs.Up.{up_le, up_pos}
use Rattle.counting.proofs.Least.{least_bound, least_prefix, least_below, least_unique}
use Rattle.tables.specs.Table.{Table}
use Rattle.test.specs.Test.{upto, load, Active, active_side, jobs, Start, start_side}
use Rattle.test.proofs.Load.{Positive, load_mono, load_upto_mono, load_upto}
use Rattle.test.proofs.Sides.{active_side_is, active_side_mono, active_side_up, start_side_whole}
use Rattle.test.proofs.Sides.{start_side_mono}

module _ (tb : Table) (P : ℕ → Bool) (b i : ℕ) (pos : Positive tb) (l : i < tb.n) where
  -- under the active period the right side raises
  pub active_below : (L u : ℕ) → Active tb P b i L → 1 ≤ u → u < L → u < active_side tb P b i u
  active_below L u a h g = least_below (active_side tb P b i) (active_side_mono tb P b i) 1
      (active_side_up tb P b i pos l) u a h g

  -- an active period has at least one job, and each of its jobs is released within it
  pub jobs_some : (L : ℕ) → Active tb P b i L → 0 < jobs tb P b i L
  jobs_some L a = up_pos _ (pos.T i l) (omega (arith, a.low))

  pub released_within : (L k : ℕ) → k < jobs tb P b i L → k * tb.T i < L
  released_within L k g = by_le L (k * tb.T i) (λ h. absurd (omega (arith, up_le L k (pos.T i l) h))) (λ h. h)

  module _ (q : ℕ) (some : 0 < q) (most : q ≤ tb.C i) where
    -- the first k jobs ask for k whole runs by the last of their finishes
    pub start_low : (k s : ℕ) → 1 ≤ k → Start tb P b i q k s → k * tb.C i ≤ s + q
    start_low k s h st = omega (arith, st.holds, start_side_whole tb P b i q k s h most)

    -- what the right side does not raise is no lower than the start
    pub start_prefix : (k s u : ℕ) → Start tb P b i q k s → start_side tb P b i upto q k u ≤ u → s ≤ u
    start_prefix k s u st h =
        least_prefix (start_side tb P b i upto q k) (start_side_mono tb P b i q k) 0 (omega arith) u st (omega arith) h

    -- each start follows the one before by at least C
    pub start_next : (k s s' : ℕ) → 1 ≤ k → Start tb P b i q k s → Start tb P b i q (suc k) s' → s + tb.C i ≤ s'
    start_next k s s' h st st' =
        let c = tb.C i in
        let w = start_side_whole tb P b i q (suc k) s' (omega arith) most in
        let low : c ≤ s' = omega (arith, mul-le-mul_right c h) in
        let rises = load_upto_mono tb P (s' - c) s' (omega arith) in
        omega (arith, start_prefix k s (s' - c) st (omega (arith, start_side_whole tb P b i q k (s' - c) h most)))

    module _ (L : ℕ) (a : Active tb P b i L) where
      -- every job of the active period has a start, and finishes within it
      pub start_exists : (k : ℕ) → 1 ≤ k → k ≤ jobs tb P b i L → (s : ℕ) × Start tb P b i q k s × (s + q ≤ L)
      start_exists k h g =
          let c = tb.C i in
          let all = active_side_is tb P b i L in
          let one = mul-le-mul_right c (jobs_some L a) in
          let fits : q ≤ L = omega arith in
          let rises = load_mono tb P (suc (L - q)) L (omega arith) in
          let asks = start_side_whole tb P b i q k (L - q) h most in
          let r = least_bound (start_side tb P b i upto q k) (start_side_mono tb P b i q k) 0 (omega arith) (L - q)
          (omega arith) (omega (arith, mul-le-mul_right c g, load_upto tb pos P (L - q))) in
          (r.0, r.1, omega (arith, r.2))

      pub finish_high : (k s : ℕ) → 1 ≤ k → k ≤ jobs tb P b i L → Start tb P b i q k s → s + q ≤ L
      finish_high k s h g st = let r = start_exists k h g in omega (arith, r.2, least_unique st r.1)

      -- no job finishes sooner than C after its release
      pub start_after : (k s : ℕ) → k < jobs tb P b i L → Start tb P b i q (suc k) s → k * tb.T i + tb.C i ≤ s + q
      start_after k s g st =
          let t = k * tb.T i in
          let in_time = released_within L k g in
          let w = start_side_whole tb P b i q (suc k) s (omega arith) most in
          let asks : (u : ℕ) → u ≤ t → 1 ≤ u → u ≤ suc s → u < b + k * tb.C i + load upto tb P s =
          λ u h one le.
          let own = mul-le-mul_right (tb.C i) (up_le u k (pos.T i l) h) in
          let rises = load_mono tb P u (suc s) le in
          omega (arith, active_below L u a one (omega arith), active_side_is tb P b i u, load_upto tb pos P s) in
          by_le (suc s) t
          (λ h. absurd (omega (arith, asks (suc s) h (omega arith) (omega arith))))
          (λ h.
          by_eq t 0
          (λ z. omega (arith, start_low (suc k) s (omega arith) st))
          (λ z. omega (arith, asks t (omega arith) (omega arith) (omega arith))))
