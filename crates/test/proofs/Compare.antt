-- The comparisons of responses: by the load of the level, over two tables; and by the row's own length. What is smaller
-- exists where the larger does.
use Prim.Native.Nat.{ℕ, suc, ◌+◌, ◌-◌, ◌≤◌, ◌<◌}
use mathlib.Core.Path.{◌≡◌}
use mathlib.Core.Bool.{Bool}
use native.Mathlib.Omega.{arith}
use native.Mathlib.Nat.{mul-le-mul, mul-le-mul_left, mul-le-mul_right, le_trans}
use Rattle.counting.proofs.Up.{up_mono, up_anti}
use Rattle.counting.proofs.Least.{least_compare, least_unique}
use Rattle.tables.specs.Table.{Table}
use Rattle.test.specs.Test.{before, upto, load, Active, active_side, jobs, Start, start_side, Response}
use Rattle.test.proofs.Load.{Positive, load_upto, load_upto_mono}
use Rattle.test.proofs.Sides.{active_side_is, active_side_mono, active_side_up, start_side_is, start_side_whole}
use Rattle.test.proofs.Sides.{start_side_mono}
use Rattle.test.proofs.Starts.{start_prefix}
use Rattle.test.proofs.Response.{response_exists, response_unique, finish_by}

-- Load: row i of one table against row i of another that has no smaller C and no larger T there, where the level asks
-- for no less before any t.
module _ (tb tb' : Table) (P P' : ℕ → Bool) (b b' i : ℕ) (pos : Positive tb) (pos' : Positive tb') (l : i < tb.n)
    (l' : i < tb'.n) (leC : tb.C i ≤ tb'.C i) (leT : tb'.T i ≤ tb.T i)
    (le : (t : ℕ) → 1 ≤ t → b + load before tb P t ≤ b' + load before tb' P' t) where
  active_side_le : (t : ℕ) → 1 ≤ t → active_side tb P b i t ≤ active_side tb' P' b' i t
  active_side_le t h =
      let own = mul-le-mul (up_anti t (pos'.T i l') leT) leC in
      omega (arith, active_side_is tb P b i t, active_side_is tb' P' b' i t, le t h)

  start_side_le : (q k s : ℕ) → start_side tb P b i upto q k s ≤ start_side tb' P' b' i upto q k s
  start_side_le q k s =
      let own = mul-le-mul_left k leC in
      let above : load upto tb P s + b ≤ load upto tb' P' s + b' =
      omega (arith, le (suc s) (omega arith), load_upto tb pos P s, load_upto tb' pos' P' s) in
      omega (arith, start_side_is tb P b i q k s, start_side_is tb' P' b' i q k s)

  pub active_compare : (L' : ℕ) → Active tb' P' b' i L' → (L : ℕ) × Active tb P b i L × (L ≤ L')
  active_compare L' a =
      least_compare (active_side tb P b i) (active_side tb' P' b' i) 1 (active_side_mono tb P b i)
      (active_side_up tb P b i pos l) active_side_le a

  pub jobs_compare : (L L' : ℕ) → L ≤ L' → jobs tb P b i L ≤ jobs tb' P' b' i L'
  jobs_compare L L' h = le_trans (up_mono (tb.T i) h) (up_anti L' (pos'.T i l') leT)

  pub start_compare : (q k s s' : ℕ) → Start tb P b i q k s → Start tb' P' b' i q k s' → s ≤ s'
  start_compare q k s s' st st' =
      let r = least_compare (start_side tb P b i upto q k) (start_side tb' P' b' i upto q k) 0
      (start_side_mono tb P b i q k) (omega arith) (λ u _. start_side_le q k u) st' in
      omega (arith, least_unique st r.1, r.2)

  pub response_compare : (q R' : ℕ) → 0 < q → q ≤ tb.C i → Response tb' P' b' i q R' →
      (R : ℕ) × Response tb P b i q R × (R ≤ R')
  response_compare q R' some most r' =
      let a = active_compare r'.period r'.active in
      let x = response_exists tb P b i q pos l some most a.0 a.1 in
      let r = x.1 in
      let k = r.job in
      let same = least_unique r.active a.1 in
      let fewer = jobs_compare r.period r'.period (omega arith) in
      let s = finish_by tb' P' b' i q pos' l' some (omega arith) R' r' k (omega (arith, r.counts)) in
      let sooner = start_compare q (suc k) r.reached.start s.0 r.reached.starts s.1 in
      (x.0, r, omega (arith, r.reached.ends, s.2, mul-le-mul_left k leT))

-- Own region: a longer length of its own never raises a finish, nor the response. Active period and jobs do not depend
-- on it.
module _ (tb : Table) (P : ℕ → Bool) (b i : ℕ) (pos : Positive tb) (l : i < tb.n) (q d : ℕ) (some : 0 < q)
    (most : q + d ≤ tb.C i) where
  pub start_longer : (k s s' : ℕ) → 1 ≤ k → Start tb P b i q k s → Start tb P b i (q + d) k s' → s' + d ≤ s
  start_longer k s s' h st st' =
      let w = start_side_whole tb P b i q k s h (omega arith) in
      let own = mul-le-mul_right (tb.C i) h in
      let rises = load_upto_mono tb P (s - d) s (omega arith) in
      let asks = start_side_whole tb P b i (q + d) k (s - d) h most in
      omega (arith, start_prefix tb P b i pos l (q + d) (omega arith) most k s' (s - d) st' (omega arith))

  pub response_longer : (R : ℕ) → Response tb P b i q R → (S : ℕ) × Response tb P b i (q + d) S × (S ≤ R)
  response_longer R r =
      let x = response_exists tb P b i (q + d) pos l (omega arith) most r.period r.active in
      let y = x.1 in
      let k = y.job in
      let same = least_unique y.active r.active in
      let s = finish_by tb P b i q pos l some (omega arith) R r k (rw same at y.counts) in
      let sooner = start_longer (suc k) s.0 y.reached.start (omega arith) s.1 y.reached.starts in
      (x.0, y, omega (arith, y.reached.ends, s.2))

-- Alike: two levels that ask for the same have the same response.
pub response_alike : (tb : Table) (P P' : ℕ → Bool) (b b' i q R : ℕ) → Positive tb → i < tb.n → 0 < q → q ≤ tb.C i →
    ((t : ℕ) → 1 ≤ t → b + load before tb P t ≡ b' + load before tb P' t) → Response tb P b i q R →
    Response tb P' b' i q R
response_alike tb P P' b b' i q R pos l some most same r =
    let x = response_compare tb tb P' P b' b i pos pos l l (omega arith) (omega arith) (λ t h. omega (arith, same t h))
    q R some most r in
    let y = response_compare tb tb P P' b b' i pos pos l l (omega arith) (omega arith) (λ t h. omega (arith, same t h))
    q x.0 some most x.1 in
    let e : x.0 ≡ R = omega (arith, x.2, y.2, response_unique tb P b i q R y.0 r y.1) in
    rw e at x.1
