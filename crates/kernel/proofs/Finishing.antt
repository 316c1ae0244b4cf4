-- Laws of finish ticks: there is one at most, and every job of a list has one, since no tick is idle while a job is
-- pending.
use Prim.Native.Nat.{ℕ, zero, suc, ◌+◌, ◌-◌, ◌*◌, ◌≤◌, ◌<◌}
use mathlib.Core.Path.{◌≡◌, refl}
use mathlib.Core.Bool.{true}
use native.Mathlib.Omega.{arith}
use native.Mathlib.Nat.{add-suc, mul-le-mul_right}
use lib.Dec.{ltb}
use borrow.Author.Tests.{ltb-true, ltb-false}
use Rattle.counting.specs.Sum.{sum}
use Rattle.counting.proofs.Cases.{by_le}
use Rattle.counting.proofs.Search.{by_any}
use Rattle.counting.proofs.Sum.{sum_le, sum_lt}
use Rattle.tables.specs.Table.{Table, Sound, most}
use Rattle.tables.specs.Plan.{Plan}
use Rattle.tables.specs.Jobs.{Jobs, WellFormedJobs, most_jobs, last_release}
use Rattle.kernel.specs.Rule.{job, Finishes}
use Rattle.kernel.proofs.Rule as R
use Rattle.kernel.proofs.Executed as X

sum_const : (c n : ℕ) → sum (λ _. c) n ≡ n * c
unfolding sum
sum_const c zero = omega arith
sum_const c (suc n) = omega (arith, sum_const c n)

module _ (tb : Table) (p : Plan) (js : Jobs) where
  abbrev E : ℕ → ℕ → ℕ
  E = X.E tb p js

  -- by the finish tick at the latest a job has executed its run, and before it has not
  pub finish_least : (k f t : ℕ) → Finishes tb p js k f → js.run k ≤ E t k → f ≤ t
  finish_least k f t h e =
      by_le f t (λ a. a)
      (λ a. absurd (omega (arith, X.executed_mono tb p js t h.last k (omega (arith, h.after)), h.unfinished)))

  pub finish_unique : (k f g : ℕ) → Finishes tb p js k f → Finishes tb p js k g → f ≡ g
  finish_unique k f g a b =
      let low = finish_least k f g a (omega (arith, b.finished)) in
      let high = finish_least k g f b (omega (arith, a.finished)) in
      omega arith

  -- a job that has executed its run has a finish tick
  pub finish_of : (k t : ℕ) → 1 ≤ js.run k → js.run k ≤ E t k → (f : ℕ) × Finishes tb p js k f × (f ≤ t)
  finish_of k t h e =
      let c = X.crossing tb p js (js.run k - 1) t k (omega arith) in
      let s = X.executed_at tb p js c.0 k c.3 in
      (suc c.0, record { last = c.0; after = refl; unfinished = omega arith; finished = omega arith }, c.1)

  -- the ticks executed before t
  abbrev total : ℕ → ℕ
  total = X.work tb p js (λ _. true)

  -- while a job is pending no tick is idle
  pub pending_runs : (t k : ℕ) → k < js.N → R.Pending tb p js (E t) t k → (l : ℕ) × (X.runs tb p js t ≡ job l)
  pending_runs t k l pe =
      R.rule tb p js (E t) t (λ j _ q _. (j, q)) (λ j _ q _ _. (j, q)) (λ _ _ none. absurd (none k l pe))

  -- All releases lie at r or before.
  module _ (r : ℕ) (soon : (k : ℕ) → k < js.N → js.release k ≤ r) where
    -- d ticks later all jobs are finished, or d ticks have been executed
    busy : (d : ℕ) {Y : Type 0} → (((k : ℕ) → k < js.N → E (r + d) k ≡ js.run k) → Y) → (d ≤ total (r + d) → Y) → Y
    busy zero f g = g (omega arith)
    busy (suc d) f g =
        let t = r + d in
        by_any (λ k. ltb (E t k) (js.run k)) js.N
        (λ none.
        f (λ k l.
        let left = ltb-false (E t k) (js.run k) (none k l) in
        let more = X.executed_mono tb p js t (suc t) k (omega arith) in
        rw (add-suc r d) (omega (arith, X.executed_run tb p js (suc t) k))))
        (λ k l e.
        let left = ltb-true (E t k) (js.run k) e in
        let a = pending_runs t k l (record { since = omega (arith, soon k l); left = left }) in
        busy d
        (λ h. absurd (omega (arith, h k l)))
        (λ h. g (rw (add-suc r d) (omega (arith, X.work_step tb p js (λ _. true) t a.0 a.1)))))

    -- so by r and the sum of the runs every job has executed its run
    pub all_finished : (k : ℕ) → k < js.N → E (r + sum js.run js.N) k ≡ js.run k
    all_finished k l =
        let t = r + sum js.run js.N in
        busy (sum js.run js.N)
        (λ h. h k l)
        (λ h. by_le (js.run k) (E t k)
        (λ q. omega (arith, X.executed_run tb p js t k))
        (λ q. absurd (omega (arith, sum_lt (E t) js.run js.N k (λ j _. X.executed_run tb p js t j) l q))))

-- "It stays below 2^32": the last release, and the worst run of every job behind it
pub finish_exists : (tb : Table) (p : Plan) (js : Jobs) → Sound tb → WellFormedJobs tb js → (k : ℕ) → k < js.N →
    (f : ℕ) × Finishes tb p js k f × (f ≤ last_release + most_jobs * most)
finish_exists tb p js sound wf k l =
    let N = js.N in
    let e = all_finished tb p js last_release wf.soon k l in
    let r = finish_of tb p js k (last_release + sum js.run N) (wf.lawful.run_low k l) (omega arith) in
    let each = sum_le js.run (λ _. most) N
    (λ j h. omega (arith, wf.lawful.run_high j h, (sound.row (js.row j) (wf.lawful.row j h)).C)) in
    (r.0, r.1, omega (arith, sum_const most N, mul-le-mul_right most wf.few))
