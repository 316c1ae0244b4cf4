-- The jobs of a row's active period: where each is released, starts and ends, and how low its start may be looked for.
use Prim.Native.Nat.{ℕ, suc, ◌+◌, ◌*◌, ◌≤◌, ◌<◌}
use mathlib.Core.Bool.{Bool}
use native.Mathlib.Omega.{arith}
use native.Mathlib.Nat.{mul-le-mul_left}
use Rattle.tables.specs.Table.{Table}
use Rattle.test.specs.Test.{horizon, Active, jobs, Start, active_side}
use Rattle.counting.proofs.Up.{up_le}
use Rattle.test.proofs.Load.{Positive}
use Rattle.test.proofs.Starts.{released_within, start_exists, start_next, start_after, finish_high}
use Rattle.sides.proofs.Lower.{run_first, start_base}

-- row i, of length q, has the active period L up to H
pub record Working (tb : Table) (P : ℕ → Bool) (b i q L : ℕ) : Type 0 where
  pub positive : Positive tb
  pub row : i < tb.n
  pub some : 1 ≤ q
  pub most : q ≤ tb.C i
  pub active : Active tb P b i L
  pub within : L ≤ horizon

-- job k + 1 of row i, which starts at s, ends within H and no sooner than C after it is released
pub record Job (tb : Table) (i q k s : ℕ) : Type 0 where
  pub released : k * tb.T i ≤ horizon
  pub after : k * tb.T i + tb.C i ≤ s + q
  pub ends : s + q ≤ horizon

module _ {tb : Table} {P : ℕ → Bool} {b i q L : ℕ} (w : Working tb P b i q L) where
  pub jobs_few : jobs tb P b i L ≤ horizon
  jobs_few =
      let one = w.positive.T i w.row in
      omega (arith, up_le L L one (omega (arith, mul-le-mul_left L one)), w.within)

  -- what is asked for in the first tick is no less than the length
  pub length_first : q ≤ active_side tb P b i 1
  length_first = omega (arith, w.most, run_first tb P b i w.positive w.row)

  pub job_exists : (k : ℕ) → 1 ≤ k → k ≤ jobs tb P b i L → (s : ℕ) × Start tb P b i q k s × (s + q ≤ L)
  job_exists = start_exists tb P b i w.positive w.row q w.some w.most L w.active

  -- where a job with k others before it may start at the soonest, and so within the active period
  pub job_base : (k : ℕ) {s : ℕ} → Start tb P b i q (suc k) s → active_side tb P b i 1 + k * tb.C i ≤ s + q
  job_base k = start_base tb P b i w.positive w.row k w.most

  pub base_within : (k : ℕ) → k < jobs tb P b i L → active_side tb P b i 1 + k * tb.C i ≤ L
  base_within k counts = let x = job_exists (suc k) (omega arith) counts in omega (arith, job_base k x.1, x.2)

  -- each start but the first is no lower than the one before plus C
  pub next_low : (k : ℕ) {s u : ℕ} → 1 ≤ k → Start tb P b i q k s → Start tb P b i q (suc k) u → s + tb.C i ≤ u
  next_low k {s} {u} = start_next tb P b i w.positive w.row q w.some w.most k s u

  module _ (k : ℕ) (counts : k < jobs tb P b i L) where
    pub job_known : {s : ℕ} → Start tb P b i q (suc k) s → Job tb i q k s
    job_known {s} st =
        let high = finish_high tb P b i w.positive w.row q w.some w.most L w.active (suc k) s in
        record {
          released = omega (arith, released_within tb P b i w.positive w.row L k counts, w.within);
          after = start_after tb P b i w.positive w.row q w.some w.most L w.active k s counts st;
          ends = omega (arith, high (omega arith) counts st, w.within);
        }
