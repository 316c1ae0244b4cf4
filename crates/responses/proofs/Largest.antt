-- The largest response over the jobs passed, job by job: where all jobs are passed, it is the response.
use Prim.Native.Nat.{ℕ, suc, ◌+◌, ◌-◌, ◌*◌, max, ◌≤◌, ◌<◌}
use mathlib.Core.Path.{◌≡◌, refl, ap, subst}
use mathlib.Core.Bool.{Bool}
use native.Mathlib.Omega.{arith}
use Rattle.tables.specs.Table.{Table}
use Rattle.test.specs.Test.{jobs, Start, Finish, Response}
use Rattle.counting.proofs.Cases.{by_le, by_eq}
use Rattle.test.proofs.Starts.{jobs_some}
use Rattle.test.proofs.Response.{finish_unique}
use Rattle.responses.proofs.Jobs.{Working, Job, job_exists, job_known}

-- of the first k jobs none has a response above R, and where R is not 0 one of them has it
pub record Passed (tb : Table) (P : ℕ → Bool) (b i q k R : ℕ) : Type 0 where
  pub highest : (j f : ℕ) → j < k → Finish tb P b i q (suc j) f → f ≤ R + j * tb.T i
  pub reached : 0 < R → (j : ℕ) × (j < k) × Finish tb P b i q (suc j) (R + j * tb.T i)

pub passed_none : (tb : Table) (P : ℕ → Bool) (b i q : ℕ) → Passed tb P b i q 0 0
passed_none tb P b i q = record { highest = λ j f h. absurd (omega arith); reached = λ h. absurd (omega arith) }

-- one job more, that starts at s
module _ {tb : Table} {P : ℕ → Bool} {b i q k R s : ℕ} (p : Passed tb P b i q k R) (st : Start tb P b i q (suc k) s)
    (job : Job tb i q k s) where
  finish : Finish tb P b i q (suc k) (s + q)
  finish = record { start = s; starts = st; ends = refl }

  mine : (j f : ℕ) → j ≡ k → Finish tb P b i q (suc j) f → f ≡ s + q
  mine j f e x = finish_unique tb P b i q (suc k) f (s + q) (subst (λ m. Finish tb P b i q (suc m) f) e x) finish

  pub passed_more : Passed tb P b i q (k + 1) (max R (s + q - k * tb.T i))
  passed_more =
      record {
        highest =
            λ j f h x. by_eq j k
            (λ e. omega (arith, mine j f e x, ap (λ m. m * tb.T i) e))
            (λ e. omega (arith, p.highest j f (omega arith) x));
        reached =
            λ h. by_le (s + q - k * tb.T i) R
            (λ less.
            let r = p.reached (omega arith) in
            let e : R ≡ max R (s + q - k * tb.T i) = omega arith in
            (r.0, omega (arith, r.1), subst (λ m. Finish tb P b i q (suc r.0) (m + r.0 * tb.T i)) e r.2))
            (λ more.
            let e : max R (s + q - k * tb.T i) + k * tb.T i ≡ s + q = omega arith in
            (k, omega arith, rw e finish));
      }

-- the same number by another name
pub passed_as : {tb : Table} {P : ℕ → Bool} {b i q k R S : ℕ} → Passed tb P b i q k R → S ≡ R → Passed tb P b i q k S
passed_as p e = rw e p

-- all jobs of the active period are passed
pub passed_all : {tb : Table} {P : ℕ → Bool} {b i q L R : ℕ} → Working tb P b i q L →
    Passed tb P b i q (jobs tb P b i L) R → Response tb P b i q R
passed_all {tb} {P} {b} {i} {q} {L} {R} w p =
    let one = jobs_some tb P b i w.positive w.row L w.active in
    let s = job_exists w 1 (omega arith) one in
    let first = p.highest 0 (s.0 + q) one (record { start = s.0; starts = s.1; ends = refl }) in
    let r = p.reached (omega (arith, (job_known w 0 one s.1).after, w.positive.C i w.row)) in
    record { period = L; active = w.active; job = r.0; counts = r.1; reached = r.2; highest = p.highest }
