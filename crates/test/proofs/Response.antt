-- Laws of the response: it exists where the active period does, there is one only, and it lies between C and the active
-- period.
use Prim.Native.Nat.{ℕ, suc, ◌+◌, ◌-◌, ◌*◌, ◌≤◌, ◌<◌}
use mathlib.Core.Path.{◌≡◌, refl}
use mathlib.Core.Bool.{Bool}
use native.Mathlib.Omega.{arith}
use lib.Dec.{eqb}
use borrow.Author.Tests.{eqb-true, eq-eqb}
use Rattle.counting.specs.Sum.{largest}
use Rattle.counting.proofs.Search.{first, first_found}
use Rattle.counting.proofs.Sum.{largest_ge, largest_cases}
use Rattle.counting.proofs.Least.{least_unique}
use Rattle.tables.specs.Table.{Table}
use Rattle.test.specs.Test.{upto, Active, jobs, Start, start_side, Finish, Response}
use Rattle.test.proofs.Load.{Positive}
use Rattle.test.proofs.Starts.{jobs_some, start_low, start_exists, finish_high, start_after}

module _ (tb : Table) (P : ℕ → Bool) (b i q : ℕ) where
  pub finish_unique : (k f g : ℕ) → Finish tb P b i q k f → Finish tb P b i q k g → f ≡ g
  finish_unique k f g x y = omega (arith, x.ends, y.ends, least_unique x.starts y.starts)

  pub response_unique : (R S : ℕ) → Response tb P b i q R → Response tb P b i q S → R ≡ S
  response_unique R S x y =
      let e = least_unique x.active y.active in
      let y-counts = rw (← e) at y.counts in
      let x-counts = rw e at x.counts in
      omega (arith, x.highest y.job _ y-counts y.reached, y.highest x.job _ x-counts x.reached)

  module _ (pos : Positive tb) (l : i < tb.n) (some : 0 < q) (most : q ≤ tb.C i) where
    module _ (L : ℕ) (a : Active tb P b i L) where
      abbrev K : ℕ
      K = jobs tb P b i L

      -- the start of job k + 1 as a search finds it, and what its finish is after its release
      abbrev start : ℕ → ℕ
      start k = first (λ t. eqb t (start_side tb P b i upto q (suc k) t)) (suc L) 0

      abbrev rest : ℕ → ℕ
      rest k = start k + q - k * tb.T i

      starts : (k : ℕ) → k < K → Start tb P b i q (suc k) (start k)
      starts k g =
          let side = start_side tb P b i upto q (suc k) in
          let s = start_exists tb P b i pos l q some most L a (suc k) (omega arith) g in
          let f = first_found (λ t. eqb t (side t)) (suc L) 0 s.0 (omega arith) (omega (arith, s.2))
          (eq-eqb _ _ s.1.holds) in
          let e : s.0 ≡ start k = omega (arith, f.1, s.1.least (start k) (omega arith) (eqb-true _ _ f.0)) in
          rw e at s.1

      after : (k : ℕ) → k < K → k * tb.T i + tb.C i ≤ start k + q
      after k g = start_after tb P b i pos l q some most L a k (start k) g (starts k g)

      -- the largest over the jobs is reached, since the first job's is not 0
      pub response_exists : (R : ℕ) × Response tb P b i q R
      response_exists =
          let one = jobs_some tb P b i pos l L a in
          largest_cases rest K (λ z. absurd (omega (arith, largest_ge rest K 0 one, after 0 one)))
          (λ j g e. (
            largest rest K,
            record {
              period = L;
              active = a;
              job = j;
              counts = g;
              reached = record { start = start j; starts = starts j g; ends = omega (arith, after j g) };
              highest =
                  λ k f h x.
                  omega (arith, x.ends, least_unique x.starts (starts k h), largest_ge rest K k h, after k h);
            },
          ))

    module _ (R : ℕ) (r : Response tb P b i q R) where
      pub response_high : R ≤ r.period
      response_high =
          let s = r.reached in
          let high = finish_high tb P b i pos l q some most r.period r.active (suc r.job) s.start in
          omega (arith, high (omega arith) r.counts s.starts, s.ends)

      -- every job starts, and finishes no later than R after its release
      pub finish_by : (k : ℕ) → k < jobs tb P b i r.period →
          (s : ℕ) × Start tb P b i q (suc k) s × (s + q ≤ R + k * tb.T i)
      finish_by k g =
          let s = start_exists tb P b i pos l q some most r.period r.active (suc k) (omega arith) g in
          (s.0, s.1, r.highest k (s.0 + q) g (record { start = s.0; starts = s.1; ends = refl }))

      pub response_low : tb.C i ≤ R
      response_low =
          let s = finish_by 0 (jobs_some tb P b i pos l r.period r.active) in
          omega (arith, start_low tb P b i pos l q some most 1 s.0 (omega arith) s.1, s.2)
