-- What the jobs of a level, of rank r or higher, and the jobs below it execute under the dispatch rule: the last tick
-- at which the level was settled, the ticks that are busy with it since, and the one job below that may still run in
-- them.
use Prim.Native.Nat.{ℕ, zero, suc, ◌+◌, ◌≤◌, ◌<◌}
use mathlib.Core.Path.{◌≡◌, ap, subst}
use mathlib.Core.Bool.{Bool, true, ◌&&◌}
use native.Mathlib.Omega.{arith}
use native.Mathlib.Nat.{add-suc, add-zero}
use lib.Dec.{ltb, leb}
use borrow.Author.Tests.{lt-ltb, le-ltb, ltb-true, le-leb, lt-leb, leb-true}
use Rattle.counting.specs.Sum.{given}
use Rattle.counting.proofs.Cases.{by_bool, by_le, by_eq, not_both, and_left, and_right, and_both}
use Rattle.counting.proofs.Search.{by_any}
use Rattle.counting.proofs.Sum.{sum_once, sum_le, sum_ext, sum_add, sum_zero}
use Rattle.tables.specs.Table.{Table}
use Rattle.tables.specs.Plan.{Plan}
use Rattle.tables.specs.Jobs.{Jobs}
use Rattle.kernel.specs.Rule.{job, idle, locked}
use Rattle.kernel.specs.Rule as S
use Rattle.kernel.proofs.Rule as R
use Rattle.kernel.proofs.Executed as X
use Rattle.kernel.proofs.Finishing as F

module _ (tb : Table) (p : Plan) (js : Jobs) (r : ℕ) where
  abbrev E : ℕ → ℕ → ℕ
  E = X.E tb p js

  -- the jobs of the level, and those below it
  abbrev pub level : ℕ → Bool
  level k = leb (p.rank (js.row k)) r

  abbrev pub lower : ℕ → Bool
  lower k = ltb r (p.rank (js.row k))

  -- the ticks that the jobs of a class have executed before t
  abbrev pub work : (ℕ → Bool) → ℕ → ℕ
  work = X.work tb p js

  work_idle : (A : ℕ → Bool) (t : ℕ) → X.runs tb p js t ≡ idle → work A (suc t) ≡ work A t
  work_idle A t q =
      sum_ext _ _ js.N
      (λ k l. ap (given (A k)) (X.executed_not tb p js t k (λ z. let o : ◌≡◌ {A = ℕ} 0 1 = cc in omega arith)))

  -- a job is of the level or below it
  one_class : (c : ℕ) → given (level c) 1 + given (lower c) 1 ≡ 1
  one_class c =
      let i = p.rank (js.row c) in
      by_le i r (λ a. rw (le-leb i r a, le-ltb r i a)) (λ a. rw (lt-leb i r a, lt-ltb r i a))

  -- so a tick in which a job runs is a tick of the one or of the other
  one_tick : (t c : ℕ) → X.runs tb p js t ≡ job c →
      work level (suc t) + work lower (suc t) ≡ suc (work level t + work lower t)
  one_tick t c q = omega (arith, X.work_step tb p js level t c q, X.work_step tb p js lower t c q, one_class c)

  -- no more ticks are executed than there are
  pub work_most : (t : ℕ) → work level t + work lower t ≤ t
  work_most zero =
      let none : (A : ℕ → Bool) → work A 0 ≡ 0 =
      λ A. sum_zero _ js.N (λ k _. rw (X.executed_zero tb p js k) (by_bool (A k) (λ e. rw e) (λ e. rw e))) in
      omega (arith, none level, none lower)
  work_most (suc t) =
      R.rule tb p js (E t) t
      (λ c _ q _. omega (arith, work_most t, one_tick t c q))
      (λ c _ q _ _. omega (arith, work_most t, one_tick t c q))
      (λ q _ _. omega (arith, work_most t, work_idle level t q, work_idle lower t q))

  -- the level is settled at t: each of its jobs released before t has finished
  abbrev pub Settled : ℕ → Type 0
  Settled t = (k : ℕ) → k < js.N → p.rank (js.row k) ≤ r → js.release k < t → E t k ≡ js.run k

  -- or one of them has not
  pub record Unsettled (t : ℕ) : Type 0 where
    pub job : ℕ
    pub is : job < js.N
    pub high : p.rank (js.row job) ≤ r
    pub before : js.release job < t
    pub left : E t job < js.run job

  settled_or {ℓ} : {Y : Type ℓ} (t : ℕ) → (Settled t → Y) → (Unsettled t → Y) → Y
  settled_or t f g =
      let early : ℕ → Bool = λ k. ltb (js.release k) t in
      let open-yet : ℕ → Bool = λ k. ltb (E t k) (js.run k) in
      by_any (λ k. level k && (early k && open-yet k)) js.N
      (λ none.
      f (λ k l h b.
      by_le (js.run k) (E t k)
      (λ a. omega (arith, X.executed_run tb p js t k))
      (λ a. not_both _ (none k l) (and_both _ _ (le-leb _ _ h) (and_both _ _ (lt-ltb _ _ b) (lt-ltb _ _ a))))))
      (λ k l e.
      let late = and_right (level k) _ e in
      g (record {
        job = k;
        is = l;
        high = leb-true _ _ (and_left (level k) _ e);
        before = ltb-true _ _ (and_left (early k) _ late);
        left = ltb-true _ _ (and_right (early k) _ late);
      }))

  -- the last tick up to a at which the level is settled
  pub record Last (a : ℕ) : Type 0 where
    pub at : ℕ
    pub upto : at ≤ a
    pub settled : Settled at
    pub after : (t : ℕ) → at < t → t ≤ a → Unsettled t

  pub last : (a : ℕ) → Last a
  last zero =
      record { at = 0; upto = omega arith; settled = λ k l h b. omega arith; after = λ t a b. absurd (omega arith) }
  last (suc a) =
      settled_or (suc a)
      (λ s. record { at = suc a; upto = omega arith; settled = s; after = λ t g h. absurd (omega arith) })
      (λ u.
      let z = last a in
      record {
        at = z.at;
        upto = omega arith;
        settled = z.settled;
        after = λ t g h. by_eq t (suc a) (λ e. rw e u) (λ e. z.after t g (omega arith));
      })

  -- a tick at which a job of the level is pending
  pub record Busy (t : ℕ) : Type 0 where
    pub job : ℕ
    pub is : job < js.N
    pub high : p.rank (js.row job) ≤ r
    pub pends : R.Pending tb p js (E t) t job

  pub unsettled_busy : (t : ℕ) → Unsettled (suc t) → Busy t
  unsettled_busy t u =
      let more = X.executed_mono tb p js t (suc t) u.job (omega arith) in
      record { job = u.job; is = u.is; high = u.high; pends = record { since = omega arith; left = omega arith } }

  -- d busy ticks from t₀ on
  module _ (t₀ : ℕ) where
    -- are d ticks executed
    pub busy_work : (d : ℕ) → ((x : ℕ) → x < d → Busy (t₀ + x)) →
        work level (t₀ + d) + work lower (t₀ + d) ≡ work level t₀ + work lower t₀ + d
    busy_work zero b = rw (add-zero t₀) (omega arith)
    busy_work (suc d) b =
        let t = t₀ + d in
        let u = b d (omega arith) in
        let c = F.pending_runs tb p js t u.job u.is u.pends in
        let before = busy_work d (λ x l. b x (omega arith)) in
        rw (add-suc t₀ d) (omega (arith, one_tick t c.0 c.1))

    -- in them a job below executes only while it is locked
    record Tail (d k : ℕ) : Type 0 where
      many : ℕ
      is : E (t₀ + d) k ≡ E t₀ k + many
      held : (y : ℕ) → y < many → locked tb p (js.row k) (E t₀ k + y) ≡ true

    tail : (d : ℕ) → ((x : ℕ) → x < d → Busy (t₀ + x)) → (k : ℕ) → r < p.rank (js.row k) → Tail d k
    tail zero b k h = record { many = 0; is = rw (add-zero t₀) (omega arith); held = λ y g. absurd (omega arith) }
    tail (suc d) b k h =
        let t = t₀ + d in
        let u = b d (omega arith) in
        let z = tail d (λ x l. b x (omega arith)) k h in
        X.runs_job tb p js t k
        (λ q.
        let lk = R.rule_of tb p js (E t) t k q (λ _ on. on.held)
        (λ _ _ lead. absurd (omega (arith, lead.highest u.job u.is u.pends))) in
        record {
          many = suc z.many;
          is = rw (add-suc t₀ d) (omega (arith, X.executed_at tb p js t k q));
          held = λ y g. by_eq y z.many
              (λ o. subst (λ v. locked tb p (js.row k) v ≡ true) (omega (arith, z.is)) lk)
              (λ o. z.held y (omega arith));
        })
        (λ q.
        let same = X.executed_not tb p js t k q in
        record { many = z.many; is = rw (add-suc t₀ d) (omega arith); held = z.held })

    -- so where no job below stays locked for more than b ticks, the jobs below execute b ticks at most
    pub lower_work : X.Fresh tb p js → (b : ℕ) →
        ((k e n : ℕ) → k < js.N → r < p.rank (js.row k) → e + n ≤ js.run k →
        ((y : ℕ) → y < n → locked tb p (js.row k) (e + y) ≡ true) → n ≤ b) →
        (d : ℕ) → ((x : ℕ) → x < d → Busy (t₀ + x)) → work lower (t₀ + d) ≤ work lower t₀ + b
    lower_work new b short d busy =
        let on : ℕ → Bool = S.runs_on tb p js (E t₀) in
        let each : (k : ℕ) → k < js.N → given (lower k) (E (t₀ + d) k) ≤ given (lower k) (E t₀ k) + given (on k) b =
        λ k l. by_bool (lower k)
        (λ e.
        let h = ltb-true r (p.rank (js.row k)) e in
        let z = tail d busy k h in
        let most = X.executed_run tb p js (t₀ + d) k in
        rw e
        (by_eq z.many 0
        (λ o. omega arith)
        (λ o.
        let held = subst (λ v. locked tb p (js.row k) v ≡ true) (add-zero (E t₀ k)) (z.held 0 (omega arith)) in
        rw (R.runs_on_to tb p js (E t₀) k (record { left = omega arith; held = held }))
        (omega (arith, short k (E t₀ k) z.many l h (omega arith) z.held)))))
        (λ e. rw e (omega arith)) in
        let of : (k : ℕ) → on k ≡ true → R.RunsOn tb p js (E t₀) k = R.runs_on_of tb p js (E t₀) in
        let one = sum_once on b js.N (λ k l g h a c. X.runs_on_once tb p js new t₀ k l g h (of k a) (of l c)) in
        let le = sum_le _ _ js.N each in
        omega (arith, sum_add (λ k. given (lower k) (E t₀ k)) (λ k. given (on k) b) js.N)
