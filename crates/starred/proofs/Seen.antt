-- Tests of busy periods, starts and responses of small tables.
use Prim.Native.Nat.{ℕ, zero, suc, ◌+◌, ◌-◌, ◌*◌, ◌<◌}
use mathlib.Core.Bool.{Bool}
use native.Mathlib.Omega.{arith}
use lib.Dec.{eqb}
use borrow.Author.Tests.{eqb-true, eqb-false}
use Rattle.counting.specs.Sum.{largest}
use Rattle.counting.proofs.Cases.{by_le}
use Rattle.counting.proofs.Search.{first, first_ge, first_before, first_within}
use Rattle.counting.proofs.Least.{Mono, LeastFixed, Climbing, climbing_lo, climbing_step, least_unique}
use Rattle.tables.specs.Table.{Table}
use Rattle.test.specs.Test.{horizon, busy_side, BusyWithin, upto, active_side, start_side, jobs, Finish, Response}
use Rattle.test.proofs.Load.{busy_side_mono}
use Rattle.starred.proofs.Tests.{Test, equal, at_most, less, so, so₂, so₄, each, some}

-- how far a fixed point is looked for
abbrev reach : ℕ
reach = 64

-- the first fixed point from lo on
unfoldable pub look : (ℕ → ℕ) → ℕ → ℕ
look f lo = first (λ t. eqb t (f t)) reach lo

unfoldable pub seen : (f : ℕ → ℕ) (lo : ℕ) → Test (LeastFixed f lo (look f lo) × (look f lo < lo + reach))
unfolding look
seen f lo =
    let P : ℕ → Bool = λ t. eqb t (f t) in
    so (less (first P reach lo) (lo + reach)) (λ h. (
      record {
        low = first_ge P reach lo;
        holds = eqb-true _ _ (first_within P reach lo h);
        least =
            λ v a g. by_le (first P reach lo) v (λ q. q)
            (λ q. absurd (eqb-false v (f v) (first_before P reach lo v a q) g));
      },
      h,
    ))

unfoldable pub busy : (tb : Table) → Test (BusyWithin tb)
busy tb = so (seen (busy_side tb) 1)
    (λ s. record { period = look (busy_side tb) 1; busy = s.0; within = omega (arith, s.1) })

-- k steps from x on pass h: then no fixed point lies up to h
unfoldable pub passes_h : (f : ℕ → ℕ) → Mono f → (lo h k x : ℕ) →
    Test (Climbing f lo x → (t : ℕ) → LeastFixed f lo t → h < t)
passes_h f mono lo h zero x = so (less h x) (λ l c t s. omega (arith, c.under t s.low s.holds))
passes_h f mono lo h (suc k) x = so (passes_h f mono lo h k (f x)) (λ up c. up (climbing_step f lo x mono c))

-- the busy iteration passes the horizon
unfoldable pub overloaded : (tb : Table) → Test (BusyWithin tb → ⊥)
overloaded tb =
    so₂ (at_most 1 (busy_side tb 1)) (passes_h (busy_side tb) (busy_side_mono tb) 1 horizon reach 1)
    (λ up past w. omega (arith, past (climbing_lo (busy_side tb) 1 up) w.period w.busy, w.within))

module _ (tb : Table) (P : ℕ → Bool) (b i : ℕ) where
  unfoldable pub period : ℕ
  period = look (active_side tb P b i) 1

  unfoldable pub start : ℕ → ℕ → ℕ
  start q k = look (start_side tb P b i upto q k) 0

  -- the largest of f − (k−1)T, as it computes
  unfoldable pub value : ℕ → ℕ
  value q = largest (λ k. start q (suc k) + q - k * tb.T i) (jobs tb P b i period)

  -- so many ticks are taken by job k + 1
  unfoldable pub taken : (q k f : ℕ) → Test (Finish tb P b i q (suc k) f)
  unfolding start
  taken q k f = so₂ (seen (start_side tb P b i upto q (suc k)) 0) (equal f (start q (suc k) + q))
      (λ s ends. record { start = start q (suc k); starts = s.0; ends = ends })

  -- R is the response with length q
  unfoldable pub responds : (q R : ℕ) → Test (Response tb P b i q R)
  unfolding period
  responds q R =
      let K = jobs tb P b i period in
      so₄ (seen (active_side tb P b i) 1)
      (each K (λ k. taken q k (start q (suc k) + q)))
      (each K (λ k. at_most (start q (suc k) + q) (R + k * tb.T i)))
      (some K (λ k. taken q k (R + k * tb.T i)))
      (λ active finish high job. record {
        period = period;
        active = active.0;
        job = job.0;
        counts = job.1;
        reached = job.2;
        highest =
            λ k f g x.
            let y = finish k g in
            omega (arith, x.ends, y.ends, least_unique x.starts y.starts, high k g);
      })
