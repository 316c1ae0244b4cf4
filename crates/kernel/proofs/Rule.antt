-- Laws of one tick of the dispatch rule: its cases (a), (b), (c) as statements, one of which holds of what is picked;
-- and that the position of a job in a lawful list never decides.
use Prim.Native.Nat.{ℕ, zero, suc, ◌+◌, ◌*◌, ◌≤◌, ◌<◌}
use mathlib.Core.Path.{◌≡◌, refl, ap, sym, ◌∙◌, subst}
use mathlib.Core.Bool.{Bool, true, false, ◌&&◌}
use mathlib.Core.Logic.{⊎_elim}
use native.Mathlib.Omega.{arith}
use native.Mathlib.Nat.{mul-le-mul_right}
use lib.Dec.{eqb, ltb, leb}
use borrow.Author.Tests.{lt-ltb, ltb-true, le-leb, leb-true, eq-eqb, eqb-true}
use Rattle.counting.proofs.Cases.{by_bool, by_le, by_eq, not_both, and_left, and_right, and_both}
use Rattle.counting.proofs.Cases.{or_cases, or_left, or_right}
use Rattle.counting.proofs.Sum.{count_zero, count_none}
use Rattle.tables.specs.Table.{Table, Sound}
use Rattle.tables.specs.Plan.{Plan, WellFormed}
use Rattle.tables.specs.Jobs.{Jobs, Lawful}
use Rattle.kernel.specs.Rule.{Pick, job, idle, one_of, locked, unfinished, runs_on, pending, ahead, leads, pick}

-- a job that passes, or the other pick where none does
one_of_is {ℓ} : {X : Type ℓ} (P : ℕ → Bool) (n : ℕ) (other : Pick) →
    ((k : ℕ) → k < n → P k ≡ true → one_of P n other ≡ job k → X) →
    (((k : ℕ) → k < n → P k ≡ false) → one_of P n other ≡ other → X) →
    X
unfolding one_of
one_of_is P zero other f g = g (λ k l. absurd (omega arith)) refl
one_of_is P (suc n) other f g =
    by_bool (P n)
    (λ e. f n (omega arith) e (rw (e, one_of)))
    (λ e.
    let m : one_of P (suc n) other ≡ one_of P n other = rw (e, one_of) in
    one_of_is P n other
    (λ k l h q. f k (omega arith) h (m ∙ q))
    (λ h q. g (λ k l. by_eq k n (λ z. ap P z ∙ e) (λ z. h k (omega arith))) (m ∙ q)))

-- no number below n passes, or one that passes has the least value of those that do
by_least {ℓ} : {X : Type ℓ} (P : ℕ → Bool) (f : ℕ → ℕ) (n : ℕ) → (((k : ℕ) → k < n → P k ≡ false) → X) →
    ((k : ℕ) → k < n → P k ≡ true → ((l : ℕ) → l < n → P l ≡ true → f k ≤ f l) → X) → X
by_least P f zero none some = none (λ k l. absurd (omega arith))
by_least P f (suc n) none some =
    by_bool (P n)
    (λ e.
    by_least P f n
    (λ h. some n (omega arith) e
    (λ l g q. by_eq l n (λ z. rw z (omega arith)) (λ z. not_both (P l) (h l (omega arith)) q)))
    (λ k l q low. by_le (f k) (f n)
    (λ a. some k (omega arith) q (λ j g r. by_eq j n (λ z. rw z a) (λ z. low j (omega arith) r)))
    (λ a. some n (omega arith) e
    (λ j g r. by_eq j n (λ z. rw z (omega arith)) (λ z. omega (arith, low j (omega arith) r))))))
    (λ e.
    by_least P f n
    (λ h. none (λ j g. by_eq j n (λ z. ap P z ∙ e) (λ z. h j (omega arith))))
    (λ k l q low. some k (omega arith) q
    (λ j g r. by_eq j n (λ z. not_both (P j) (ap P z ∙ e) r) (λ z. low j (omega arith) r))))

module _ (tb : Table) (p : Plan) (js : Jobs) (x : ℕ → ℕ) where
  -- (a) job k is unfinished and inside one of its regions
  pub record RunsOn (k : ℕ) : Type 0 where
    pub left : x k < js.run k
    pub held : locked tb p (js.row k) (x k) ≡ true

  pub runs_on_of : (k : ℕ) → runs_on tb p js x k ≡ true → RunsOn k
  runs_on_of k e =
      let u = unfinished tb p js x k in record { left = ltb-true _ _ (and_left u _ e); held = and_right u _ e }

  pub runs_on_to : (k : ℕ) → RunsOn k → runs_on tb p js x k ≡ true
  runs_on_to k h = and_both _ _ (lt-ltb _ _ h.left) h.held

  -- a pending job: released and unfinished
  pub record Pending (t k : ℕ) : Type 0 where
    pub since : js.release k ≤ t
    pub left : x k < js.run k

  pub pending_of : (t k : ℕ) → pending tb p js x t k ≡ true → Pending t k
  pending_of t k e =
      let r = leb (js.release k) t in
      record { since = leb-true _ _ (and_left r _ e); left = ltb-true _ _ (and_right r _ e) }

  pub pending_to : (t k : ℕ) → Pending t k → pending tb p js x t k ≡ true
  pending_to t k h = and_both _ _ (le-leb _ _ h.since) (lt-ltb _ _ h.left)

  -- no unfinished job is inside one of its regions: the "otherwise" of (b) and (c)
  abbrev pub Free : Type 0
  Free = (k : ℕ) → k < js.N → RunsOn k → ⊥

  -- (b) job k is pending, and no pending job is ahead of it
  pub record Leads (t k : ℕ) : Type 0 where
    pub pends : Pending t k
    pub highest : (l : ℕ) → l < js.N → Pending t l → p.rank (js.row k) ≤ p.rank (js.row l)
    pub earliest : (l : ℕ) → l < js.N → Pending t l → js.row l ≡ js.row k → js.release k ≤ js.release l

  ahead_release : (l k : ℕ) → js.row l ≡ js.row k → js.release l < js.release k → ahead tb p js x l k ≡ true
  ahead_release l k e h =
      or_right (ltb (p.rank (js.row l)) (p.rank (js.row k))) _ (and_both _ _ (eq-eqb _ _ e) (lt-ltb _ _ h))

  ahead_cases {ℓ} : {X : Type ℓ} (l k : ℕ) → ahead tb p js x l k ≡ true →
      (p.rank (js.row l) < p.rank (js.row k) → X) → (js.row l ≡ js.row k → js.release l < js.release k → X) → X
  ahead_cases l k e f g =
      let same = eqb (js.row l) (js.row k) in
      or_cases (ltb (p.rank (js.row l)) (p.rank (js.row k))) _ e
      (λ h. f (ltb-true _ _ h))
      (λ h. g (eqb-true _ _ (and_left same _ h)) (ltb-true _ _ (and_right same _ h)))

  pub leads_of : (t k : ℕ) → leads tb p js x t k ≡ true → Leads t k
  leads_of t k e =
      let pending = pending tb p js x t in
      let others : ℕ → Bool = λ l. pending l && ahead tb p js x l k in
      let none = count_zero others js.N (eqb-true _ _ (and_right (pending k) _ e)) in
      let not : (l : ℕ) → l < js.N → Pending t l → ahead tb p js x l k ≡ true → ⊥ =
      λ l h pe a. not_both (others l) (none l h) (and_both (pending l) _ (pending_to t l pe) a) in
      record {
        pends = pending_of t k (and_left (pending k) _ e);
        highest = λ l h pe. by_le _ _ (λ g. g) (λ g. absurd (not l h pe (or_left _ _ (lt-ltb _ _ g))));
        earliest = λ l h pe r. by_le _ _ (λ g. g) (λ g. absurd (not l h pe (ahead_release l k r g)));
      }

  pub leads_to : (t k : ℕ) → Leads t k → leads tb p js x t k ≡ true
  leads_to t k h =
      let pending = pending tb p js x t in
      let others : ℕ → Bool = λ l. pending l && ahead tb p js x l k in
      let none : (l : ℕ) → l < js.N → others l ≡ false =
      λ l g. by_bool (others l)
      (λ e.
      let pe = pending_of t l (and_left (pending l) _ e) in
      ahead_cases l k (and_right (pending l) _ e)
      (λ r. absurd (omega (arith, h.highest l g pe)))
      (λ q r. absurd (omega (arith, h.earliest l g pe q))))
      (λ e. e) in
      and_both (pending k) _ (pending_to t k h.pends) (eq-eqb _ _ (count_none others js.N none))

  -- (c) nothing is pending
  abbrev pub Quiet : ℕ → Type 0
  Quiet t = (k : ℕ) → k < js.N → Pending t k → ⊥

  -- otherwise some job leads: of the pending jobs, which are released by t, the one that has the least of
  -- rank (t + 1) + release
  quiet_or_leads {ℓ} : {X : Type ℓ} (t : ℕ) → (Quiet t → X) → ((k : ℕ) → k < js.N → Leads t k → X) → X
  quiet_or_leads t f g =
      let pending = pending tb p js x t in
      let place : ℕ → ℕ = λ k. p.rank (js.row k) * suc t + js.release k in
      by_least pending place js.N
      (λ none. f (λ k l pe. not_both (pending k) (none k l) (pending_to t k pe)))
      (λ k l e least.
      let low : (j : ℕ) → j < js.N → Pending t j → place k ≤ place j = λ j h pj. least j h (pending_to t j pj) in
      g k l (record {
        pends = pending_of t k e;
        highest = λ j h pj. by_le (p.rank (js.row k)) (p.rank (js.row j)) (λ a. a)
            (λ a. absurd (omega (arith, low j h pj, mul-le-mul_right (suc t) a, pj.since)));
        earliest = λ j h pj r. omega (arith, low j h pj, ap (λ i. p.rank i * suc t) r);
      }))

  -- "in this order": what is picked is so by (a), by (b) or by (c)
  pub rule {ℓ} : {X : Type ℓ} (t : ℕ) →
      ((k : ℕ) → k < js.N → pick tb p js x t ≡ job k → RunsOn k → X) →
      ((k : ℕ) → k < js.N → pick tb p js x t ≡ job k → Free → Leads t k → X) →
      (pick tb p js x t ≡ idle → Free → Quiet t → X) →
      X
  unfolding pick
  rule t fa fb fc =
      one_of_is _ js.N _
      (λ k l e q. fa k l q (runs_on_of k e))
      (λ none q.
      let free : Free = λ k l h. not_both (runs_on tb p js x k) (none k l) (runs_on_to k h) in
      one_of_is (leads tb p js x t) js.N idle
      (λ k l e r. fb k l (q ∙ r) free (leads_of t k e))
      (λ no r. quiet_or_leads t (fc (q ∙ r) free) (λ k l h. not_both (leads tb p js x t k) (no k l) (leads_to t k h))))

  -- a job that is picked is picked by (a) or by (b)
  pub rule_of {ℓ} : {X : Type ℓ} (t k : ℕ) → pick tb p js x t ≡ job k → (k < js.N → RunsOn k → X) →
      (k < js.N → Free → Leads t k → X) → X
  rule_of t k q fa fb =
      rule t
      (λ l h r a. let e : l ≡ k = cc in fa (omega arith) (subst RunsOn e a))
      (λ l h r free a. let e : l ≡ k = cc in fb (omega arith) free (subst (Leads t) e a))
      (λ r _ _. let z : ◌≡◌ {A = ℕ} 0 1 = cc in absurd (omega arith))

  -- where nothing runs on and nothing is pending the tick is idle
  pub pick_idle : (t : ℕ) → Free → Quiet t → pick tb p js x t ≡ idle
  pick_idle t free quiet =
      rule t (λ k l _ h. absurd (free k l h)) (λ k l _ _ h. absurd (quiet k l h.pends)) (λ q _ _. q)

-- in a lawful list two jobs of one row released less than T apart are one job
pub near_job : (tb : Table) (js : Jobs) → Lawful tb js → (k l : ℕ) → k < js.N → l < js.N → js.row k ≡ js.row l →
    js.release k < js.release l + tb.T (js.row k) → js.release l < js.release k + tb.T (js.row k) → k ≡ l
near_job tb js lawful k l a b e c d =
    let same = ap tb.T e in
    by_eq k l (λ q. q)
    (λ q. by_le k l
    (λ h. absurd (⊎_elim (λ z. omega arith) (λ z. omega arith) (lawful.apart k l (omega arith) b e)))
    (λ h. absurd (⊎_elim (λ z. omega arith) (λ z. omega arith) (lawful.apart l k h a (sym e)))))

pub same_job : (tb : Table) (js : Jobs) → Sound tb → Lawful tb js → (k l : ℕ) → k < js.N → l < js.N →
    js.row k ≡ js.row l → js.release k ≡ js.release l → k ≡ l
same_job tb js sound lawful k l a b e r =
    let some = (sound.row (js.row k) (lawful.row k a)).T.low in
    near_job tb js lawful k l a b e (omega arith) (omega arith)

module _ (tb : Table) (p : Plan) (js : Jobs) (sound : Sound tb) (wf : WellFormed tb p) (lawful : Lawful tb js)
    (x : ℕ → ℕ) (t : ℕ) where
  -- so one job at most leads
  pub leads_once : (k l : ℕ) → k < js.N → l < js.N → Leads tb p js x t k → Leads tb p js x t l → k ≡ l
  leads_once k l a b f g =
      let row : js.row k ≡ js.row l =
      wf.once (js.row k) (js.row l) (lawful.row k a) (lawful.row l b)
      (omega (arith, f.highest l b g.pends, g.highest k a f.pends)) in
      same_job tb js sound lawful k l a b row
      (omega (arith, f.earliest l b g.pends (sym row), g.earliest k a f.pends row))

  -- and where nothing runs on it is picked, wherever it stands in the list
  pub pick_leads : (k : ℕ) → k < js.N → Free tb p js x → Leads tb p js x t k → pick tb p js x t ≡ job k
  pick_leads k a free f =
      rule tb p js x t
      (λ l b _ h. absurd (free l b h))
      (λ l b q _ g. q ∙ ap job (leads_once l k b a g f))
      (λ _ _ quiet. absurd (quiet k a f.pends))
