-- Laws of the ticks that jobs have executed under the dispatch rule, over any job list.
use Prim.Native.Nat.{ℕ, zero, suc, ◌+◌, ◌-◌, ◌≤◌, ◌<◌}
use mathlib.Core.Path.{◌≡◌, refl, ap, ◌∙◌, subst}
use mathlib.Core.Bool.{Bool, true, false}
use native.Mathlib.Omega.{arith}
use native.Mathlib.Nat.{add-suc, add-zero}
use lib.Dec.{eqb}
use borrow.Author.Tests.{eq-eqb, ne_eqb}
use Rattle.counting.specs.Sum.{given, sum}
use Rattle.counting.proofs.Cases.{by_le, by_eq, not_both}
use Rattle.counting.proofs.Sum.{sum_ext, sum_add, sum_delta}
use Rattle.tables.specs.Table.{Table}
use Rattle.tables.specs.Plan.{Plan, WellFormed}
use Rattle.tables.specs.Jobs.{Jobs, Lawful}
use Rattle.tables.proofs.Plan.{cap_run}
use Rattle.kernel.specs.Rule.{Pick, job, idle, picked, locked, pick, executed}
use Rattle.kernel.proofs.Locked.{not_locked}
use Rattle.kernel.proofs.Rule as R

is_job {ℓ} : {X : Type ℓ} (c : Pick) (k : ℕ) → (c ≡ job k → X) → ((c ≡ job k → ⊥) → X) → X
is_job (job j) k f g = by_eq j k (λ e. f (ap job e)) (λ e. g (λ q. e (cc)))
is_job idle k f g = g (λ q. let z : ◌≡◌ {A = ℕ} 0 1 = cc in omega arith)

picked_not : (c : Pick) (k : ℕ) → (c ≡ job k → ⊥) → picked c k ≡ false
picked_not (job j) k h = ne_eqb j k (λ e. h (ap job e))
picked_not idle k h = refl

-- no job of the list is locked before it has executed
abbrev pub Fresh : Table → Plan → Jobs → Type 0
Fresh tb p js = (k : ℕ) → k < js.N → locked tb p (js.row k) 0 ≡ false

pub fresh_row : (tb : Table) (p : Plan) → WellFormed tb p → (i : ℕ) → i < tb.n → locked tb p i 0 ≡ false
fresh_row tb p wf i l =
    not_locked tb p i 0 (omega (arith, cap_run tb i (wf.len_high i l))) (λ h. absurd (omega arith))

pub fresh : (tb : Table) (p : Plan) (js : Jobs) → WellFormed tb p → Lawful tb js → Fresh tb p js
fresh tb p js wf lawful k l = fresh_row tb p wf (js.row k) (lawful.row k l)

given_suc : (b : Bool) (x : ℕ) → given b (suc x) ≡ given b x + given b 1
given_suc true x = omega arith
given_suc false x = omega arith

module _ (tb : Table) (p : Plan) (js : Jobs) where
  abbrev pub E : ℕ → ℕ → ℕ
  E = executed tb p js

  -- what runs in tick t
  abbrev pub runs : ℕ → Pick
  runs t = pick tb p js (E t) t

  pub runs_job {ℓ} : {X : Type ℓ} (t k : ℕ) → (runs t ≡ job k → X) → ((runs t ≡ job k → ⊥) → X) → X
  runs_job t k = is_job (runs t) k

  pub executed_zero : (k : ℕ) → E zero k ≡ 0
  unfolding executed
  executed_zero k = refl

  executed_step : (t k : ℕ) → E (suc t) k ≡ E t k + given (picked (runs t) k) 1
  unfolding executed
  executed_step t k = refl

  -- the job that runs executes one tick, and no other does
  pub executed_at : (t k : ℕ) → runs t ≡ job k → E (suc t) k ≡ suc (E t k)
  executed_at t k q = rw (executed_step t k, q, eq-eqb k k refl) (omega arith)

  pub executed_not : (t k : ℕ) → (runs t ≡ job k → ⊥) → E (suc t) k ≡ E t k
  executed_not t k q = rw (executed_step t k, picked_not (runs t) k q) (omega arith)

  -- it never falls, and rises by one a tick at most
  executed_more : (d t k : ℕ) → E t k ≤ E (t + d) k
  executed_more zero t k = rw (add-zero t) (omega arith)
  executed_more (suc d) t k = rw (add-suc t d) (omega (arith, executed_more d t k, executed_step (t + d) k))

  pub executed_mono : (a b k : ℕ) → a ≤ b → E a k ≤ E b k
  executed_mono a b k h = subst (λ c. E a k ≤ E c k) (omega arith) (executed_more (b - a) a k)

  pub executed_slow : (d t k : ℕ) → E (t + d) k ≤ E t k + d
  executed_slow zero t k = rw (add-zero t) (omega arith)
  executed_slow (suc d) t k =
      rw (add-suc t d)
      (runs_job (t + d) k
      (λ q. omega (arith, executed_slow d t k, executed_at (t + d) k q))
      (λ q. omega (arith, executed_slow d t k, executed_not (t + d) k q)))

  -- what runs is a job of the list, and unfinished
  pub runs_left : (t k : ℕ) → runs t ≡ job k → (k < js.N) × (E t k < js.run k)
  runs_left t k q = R.rule_of tb p js (E t) t k q (λ l on. (l, on.left)) (λ l _ lead. (l, lead.pends.left))

  -- no job executes more than its run
  pub executed_run : (t k : ℕ) → E t k ≤ js.run k
  executed_run zero k = omega (arith, executed_zero k)
  executed_run (suc t) k =
      runs_job t k
      (λ q. omega (arith, executed_at t k q, runs_left t k q))
      (λ q. omega (arith, executed_not t k q, executed_run t k))

  -- the tick in which a job goes past v
  pub crossing : (v t k : ℕ) → v < E t k → (u : ℕ) × (u < t) × (E u k ≡ v) × (runs u ≡ job k)
  crossing v zero k h = absurd (omega (arith, executed_zero k))
  crossing v (suc t) k h =
      by_le (E t k) v
      (λ a. runs_job t k
      (λ q. (t, omega arith, omega (arith, executed_at t k q), q))
      (λ q. absurd (omega (arith, executed_not t k q))))
      (λ a. let r = crossing v t k a in (r.0, omega arith, r.2, r.3))

  -- the ticks that the jobs of a class have executed before t
  abbrev pub work : (ℕ → Bool) → ℕ → ℕ
  work A t = sum (λ k. given (A k) (E t k)) js.N

  -- a tick in which a job runs is a tick of its classes
  pub work_step : (A : ℕ → Bool) (t c : ℕ) → runs t ≡ job c → work A (suc t) ≡ work A t + given (A c) 1
  work_step A t c q =
      sum_ext (λ k. given (A k) (E (suc t) k)) (λ k. given (A k) (E t k) + given (eqb c k) (given (A c) 1)) js.N
      (λ k l. by_eq c k
      (λ e. rw (eq-eqb c k e, executed_at t k (q ∙ ap job e), e) (given_suc (A k) (E t k)))
      (λ e. rw (ne_eqb c k e, executed_not t k (λ z. e (cc))) (omega arith)))
      ∙ sum_add (λ k. given (A k) (E t k)) (λ k. given (eqb c k) (given (A c) 1)) js.N
      ∙ ap (λ z. work A t + z) (sum_delta (given (A c) 1) c js.N (runs_left t c q).0)

  module _ (new : Fresh tb p js) where
    abbrev On : ℕ → ℕ → Type 0
    On t = R.RunsOn tb p js (E t)

    pub locked_executed : (k e : ℕ) → k < js.N → locked tb p (js.row k) e ≡ true → 0 < e
    locked_executed k zero l h = not_both (locked tb p (js.row k) 0) (new k l) h
    locked_executed k (suc e) l h = omega arith

    -- a job that has executed was released before
    pub released : (t k : ℕ) → 0 < E t k → js.release k < t
    released zero k h = absurd (omega (arith, executed_zero k))
    released (suc t) k h =
        runs_job t k
        (λ q. R.rule_of tb p js (E t) t k q
        (λ l on. omega (arith, released t k (locked_executed k (E t k) l on.held)))
        (λ _ _ lead. omega (arith, lead.pends.since)))
        (λ q. omega (arith, released t k (omega (arith, executed_not t k q))))

    -- what runs is pending
    pub runs_pending : (t k : ℕ) → runs t ≡ job k → R.Pending tb p js (E t) t k
    runs_pending t k q =
        let since = released (suc t) k (omega (arith, executed_at t k q)) in
        record { since = omega arith; left = (runs_left t k q).1 }

    -- one job at most is locked and unfinished: what is so after a tick ran in it
    abbrev Once : ℕ → Type 0
    Once t = (k l : ℕ) → k < js.N → l < js.N → On t k → On t l → k ≡ l

    on_runs : (t k : ℕ) → Once t → k < js.N → On t k → runs t ≡ job k
    on_runs t k once g a =
        R.rule tb p js (E t) t
        (λ l h r b. r ∙ ap job (once l k h g b a))
        (λ l h r free _. absurd (free k g a))
        (λ r free _. absurd (free k g a))

    ran_on : (t k : ℕ) → Once t → k < js.N → On (suc t) k → runs t ≡ job k
    ran_on t k once g a =
        runs_job t k (λ q. q)
        (λ q.
        let s = executed_not t k q in
        on_runs t k once g (record { left = omega (arith, a.left); held = rw s at a.held }))

    pub runs_on_once : (t : ℕ) → Once t
    runs_on_once zero k l g h a b = absurd (omega (arith, executed_zero k, locked_executed k (E 0 k) g a.held))
    runs_on_once (suc t) k l g h a b =
        let e = ran_on t k (runs_on_once t) g a in
        let f = ran_on t l (runs_on_once t) h b in
        cc

    -- and it runs
    pub runs_on : (t k : ℕ) → k < js.N → On t k → runs t ≡ job k
    runs_on t k = on_runs t k (runs_on_once t)

    -- of two jobs of a row the earlier released is finished before the later executes
    pub in_order : (t k l : ℕ) → k < js.N → js.row k ≡ js.row l → js.release k < js.release l → 0 < E t l →
        E t k ≡ js.run k
    in_order zero k l g r d h = absurd (omega (arith, executed_zero l))
    in_order (suc t) k l g r d h =
        let more = executed_mono t (suc t) k (omega arith) in
        let most = executed_run (suc t) k in
        let before : 0 < E t l → E (suc t) k ≡ js.run k = λ y. omega (arith, in_order t k l g r d y) in
        runs_job t l
        (λ q. R.rule_of tb p js (E t) t l q
        (λ a on. before (locked_executed l (E t l) a on.held))
        (λ _ _ lead.
        by_le (js.run k) (E t k)
        (λ y. omega arith)
        (λ y.
        let since = lead.pends.since in
        absurd (omega (arith, lead.earliest k g (record { since = omega arith; left = y }) r)))))
        (λ q. before (omega (arith, executed_not t l q)))
