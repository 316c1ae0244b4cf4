-- How play stands at a tick, row by row, against the rule's ticks executed; and what one decision makes of it.
use Prim.Native.Nat.{ℕ, zero, suc, ◌+◌, ◌-◌, ◌*◌, ◌≤◌, ◌<◌}
use mathlib.Core.Path.{◌≡◌, refl, sym, ap, ◌∙◌, subst}
use mathlib.Core.Bool.{true, false}
use mathlib.Core.Logic.{◌⊎◌, inl, inr, ⊎_elim}
use native.Mathlib.Omega.{arith}
use native.Mathlib.Nat.{add-suc, add-zero}
use lib.Dec.{leb}
use borrow.Author.Tests.{le-leb, lt-leb, leb-true}
use Rattle.counting.specs.Sum.{given, count}
use Rattle.counting.proofs.Sum.{given_sub, sum_lt}
use Rattle.counting.proofs.Cases.{by_eq, by_le, not_both}
use Rattle.tables.specs.Table.{Table, Sound, most}
use Rattle.tables.specs.Plan.{Plan, WellFormed}
use Rattle.tables.specs.Jobs.{Jobs, WellFormedJobs, most_jobs, last_release}
use Rattle.kernel.specs.Rule.{job, locked, Finishes}
use Rattle.decision.specs.inside.Decision.{Following, Released, Stretch}
use Rattle.kernel.proofs.Rule as R
use Rattle.kernel.proofs.Executed as X
use Rattle.kernel.proofs.Steady as S
use Rattle.kernel.proofs.Finishing as F

-- the jobs before job `next` are released at tick t, and the others are not
pub record Next (js : Jobs) (t next : ℕ) : Type 0 where
  pub high : next ≤ js.N
  pub came : (k : ℕ) → k < next → js.release k ≤ t
  pub later : (k : ℕ) → next ≤ k → k < js.N → t < js.release k

-- `head` gives each row's earliest unfinished job, N where there is none, and `done` the ticks that this job has
-- executed by tick t; the jobs of the row before it have finished, at the ticks that `out` gives, and those after it
-- have not executed; no row's earliest unfinished job is locked
pub record Standing (tb : Table) (p : Plan) (js : Jobs) (t : ℕ) (head done out : ℕ → ℕ) : Type 0 where
  pub high : (i : ℕ) → i < tb.n → head i ≤ js.N
  pub own : (i : ℕ) → i < tb.n → head i < js.N → js.row (head i) ≡ i
  pub finishes : (k : ℕ) → k < js.N → k < head (js.row k) → Finishes tb p js k (out k)
  pub over : (k : ℕ) → k < js.N → k < head (js.row k) → X.E tb p js t k ≡ js.run k
  pub now : (k : ℕ) → k < js.N → k ≡ head (js.row k) → X.E tb p js t k ≡ done (js.row k)
  pub left : (k : ℕ) → k < js.N → k ≡ head (js.row k) → done (js.row k) < js.run k
  pub not_yet : (k : ℕ) → k < js.N → head (js.row k) < k → X.E tb p js t k ≡ 0
  pub unlocked : (i : ℕ) → i < tb.n → locked tb p i (done i) ≡ false

-- the jobs that have not finished
abbrev pub unplayed : Jobs → (ℕ → ℕ) → ℕ
unplayed js head = count (λ k. leb (head (js.row k)) k) js.N

-- the start of play
pub stands : (tb : Table) (p : Plan) (js : Jobs) (head done out : ℕ → ℕ) → WellFormed tb p → WellFormedJobs tb js →
    ((i : ℕ) → i < tb.n → Following js i 0 (head i)) → ((i : ℕ) → i < tb.n → done i ≡ 0) →
    Standing tb p js 0 head done out
stands tb p js head done out wf wfj first zeros =
    record {
      high = λ i h. (first i h).high;
      own = λ i h. (first i h).is;
      finishes = λ k l h. absurd (none k l h);
      over = λ k l h. absurd (none k l h);
      now = λ k l _. X.executed_zero tb p js k ∙ sym (zeros (js.row k) (row k l));
      left = λ k l _. rw (zeros (js.row k) (row k l)) (wfj.lawful.run_low k l);
      not_yet = λ k l _. X.executed_zero tb p js k;
      unlocked = λ i l. rw (zeros i l) (X.fresh_row tb p wf i l);
    }
  where
    row : (k : ℕ) → k < js.N → js.row k < tb.n
    row = wfj.lawful.row

    none : (k : ℕ) → k < js.N → k < head (js.row k) → ⊥
    none k l h = (first (js.row k) (row k l)).none k (omega arith) h refl

-- the releases from tick t to a later tick
pub next_on : (tb : Table) (js : Jobs) → WellFormedJobs tb js → (t u from next : ℕ) → t ≤ u →
    ((k : ℕ) → k < from → js.release k ≤ t) → Released js from u next → Next js u next
next_on tb js wfj t u from next h came r =
    record {
      high = r.high;
      came = λ k l. by_le from k (λ g. r.came k g l) (λ g. omega (arith, came k g));
      later = λ k l g. by_eq k next
          (λ e. rw e (r.waits (omega arith)))
          (λ e. omega (arith, r.waits (omega arith), wfj.order next k (omega arith) g));
    }

module _ {tb : Table} {p : Plan} {js : Jobs} {t next : ℕ} {head done out : ℕ → ℕ} (sound : Sound tb)
    (wf : WellFormed tb p) (wfj : WellFormedJobs tb js) (nx : Next js t next)
    (st : Standing tb p js t head done out) where
  abbrev E : ℕ → ℕ → ℕ
  E = X.E tb p js

  fresh : X.Fresh tb p js
  fresh = X.fresh tb p js wf wfj.lawful

  row : (k : ℕ) → k < js.N → js.row k < tb.n
  row = wfj.lawful.row

  -- the jobs to come are released at job `next`'s release or later
  to_come : (k : ℕ) → next ≤ k → k < js.N → js.release next ≤ js.release k
  to_come k h l = by_eq next k (λ e. rw e (omega arith)) (λ e. wfj.order next k (omega arith) l)

  -- an unfinished job does not stand before its row's head
  unfinished : (k : ℕ) → k < js.N → E t k < js.run k → head (js.row k) ≤ k
  unfinished k l h = by_le (head (js.row k)) k (λ g. g) (λ g. absurd (omega (arith, st.over k l g)))

  -- a pending job's row waits
  waiting : (k : ℕ) → k < js.N → R.Pending tb p js (E t) t k → head (js.row k) < next
  waiting k l pe =
      by_le next k
      (λ h. absurd (omega (arith, nx.later k h l, pe.since)))
      (λ h. omega (arith, unfinished k l pe.left))

  -- nothing runs on: a job that did would have executed, so that it would be its row's head
  free : R.Free tb p js (E t)
  free k l on =
      let e = X.locked_executed tb p js fresh k (E t k) l on.held in
      let u = unfinished k l on.left in
      let is : k ≡ head (js.row k) =
      by_eq k (head (js.row k)) (λ q. q) (λ q. absurd (omega (arith, st.not_yet k l (omega arith)))) in
      not_both _ (st.unlocked (js.row k) (row k l)) (rw (st.now k l is) at on.held)

  -- Of the rows that wait row i has the highest rank.
  module _ (i : ℕ) (il : i < tb.n) (waits : head i < next)
      (first : (j : ℕ) → j < tb.n → head j < next → p.rank i ≤ p.rank j) where
    abbrev c : ℕ
    c = head i

    cl : c < js.N
    cl = omega (arith, nx.high)

    mine : js.row c ≡ i
    mine = st.own i il cl

    same : c ≡ head (js.row c)
    same = sym (ap head mine)

    -- a job of another row, or that is not its row's head, is another job
    elsewhere : (k : ℕ) → (js.row k ≡ i → ⊥) → k ≡ c → ⊥
    elsewhere k e q = e (ap js.row q ∙ mine)

    no_head : (k : ℕ) → (k ≡ head (js.row k) → ⊥) → k ≡ c → ⊥
    no_head k e q = e (q ∙ same ∙ ap (λ r. head (js.row r)) (sym q))

    pub executed_head : E t c ≡ done i
    executed_head = st.now c cl same ∙ ap done mine

    pub left_head : done i < js.run c
    left_head = subst (λ r. done r < js.run c) mine (st.left c cl same)

    leads : R.Leads tb p js (E t) t c
    leads =
        record {
          pends = record { since = nx.came c waits; left = omega (arith, executed_head, left_head) };
          highest = λ k l pe. rw mine (first (js.row k) (row k l) (waiting k l pe));
          earliest = λ k l pe e.
              let g : c ≤ k = omega (arith, unfinished k l pe.left, ap head (e ∙ mine)) in
              by_eq c k (λ q. rw (← q) (omega arith)) (λ q. wfj.order c k (omega arith) l);
        }

    -- so its head runs
    pub runs_head : X.runs tb p js t ≡ job c
    runs_head = R.pick_leads tb p js sound wf wfj.lawful (E t) t c cl free leads

    -- what is left to it lies within the last tick of play
    pub in_time : t + (js.run c - done i) ≤ last_release + most_jobs * most
    in_time =
        let f = F.finish_exists tb p js sound wfj c cl in
        let x = f.0 - t in
        let b = left_head in
        by_le f.0 t
        (λ h. absurd (omega (arith, X.executed_mono tb p js f.0 t c h, f.1.finished, executed_head)))
        (λ h.
        let q : f.0 ≡ t + x = omega arith in
        omega (arith, X.executed_slow tb p js x t c, rw q at f.1.finished, executed_head))

    -- A decision runs its head for d ticks.
    module _ (d : ℕ) (stretch : Stretch tb p js i (done i) (js.run c) next t d) where
      -- up to the release it was not locked at t, and nothing is released; from then on it is locked
      calm : (x : ℕ) → x < d →
          (locked tb p (js.row c) (E t c + x) ≡ true) ⊎ ((locked tb p (js.row c) (E t c) ≡ false) × S.Calm js t x)
      calm x h =
          let quiet : (next < js.N → t + x < js.release next) →
          (locked tb p (js.row c) (E t c) ≡ false) × S.Calm js t x =
          λ to. (
            rw (mine, executed_head) (st.unlocked i il),
            λ k l g. by_le next k
                (λ q. absurd (omega (arith, to (omega arith), to_come k q l)))
                (λ q. nx.came k q),
          ) in
          by_le js.N next
          (λ g. inr (quiet (λ m. absurd (omega arith))))
          (λ m. ⊎_elim
          (λ g. inr (quiet (λ _. g)))
          (λ g. inl (rw (mine, executed_head) g))
          (stretch.calm x h m))

      room : E t c + d ≤ js.run c
      room = omega (arith, executed_head, left_head, stretch.within)

      after : (x : ℕ) → x ≤ d → S.After tb p js sound wf wfj.lawful t c d runs_head room calm x
      after = S.steady tb p js sound wf wfj.lawful t c d runs_head room calm

      -- the job is not finished: it has executed d ticks more
      pub stands_on : (done' : ℕ → ℕ) → done i + d < js.run c → done' i ≡ done i + d →
          ((j : ℕ) → (j ≡ i → ⊥) → done' j ≡ done j) → Standing tb p js (t + d) head done' out
      stands_on done' h at off =
          let a = after d (omega arith) in
          let is : (k : ℕ) → k < js.N → k ≡ head (js.row k) → js.row k ≡ i → k ≡ c = λ k l g e. g ∙ ap head e in
          let loose : locked tb p i (done i + d) ≡ false =
          ⊎_elim (λ q. absurd (omega arith)) (λ q. q.2) stretch.ends in
          record {
            high = st.high;
            own = st.own;
            finishes = st.finishes;
            over = λ k l g. a.other k (no_head k (λ q. omega arith)) ∙ st.over k l g;
            now = λ k l g. by_eq (js.row k) i
                (λ e. rw (is k l g e, mine, at) (omega (arith, a.mine, executed_head)))
                (λ e. a.other k (elsewhere k e) ∙ st.now k l g ∙ sym (off (js.row k) e));
            left = λ k l g. by_eq (js.row k) i
                (λ e. omega (arith, ap done' e, at, ap js.run (is k l g e)))
                (λ e. rw (off (js.row k) e) (st.left k l g));
            not_yet = λ k l g. a.other k (no_head k (λ q. omega arith)) ∙ st.not_yet k l g;
            unlocked = λ j l. by_eq j i (λ e. rw (e, at) loose) (λ e. rw (off j e) (st.unlocked j l));
          }

      -- the job finishes: the row goes on with its following job
      pub stands_after : (head' done' out' : ℕ → ℕ) → done i + d ≡ js.run c → Following js i (c + 1) (head' i) →
          ((j : ℕ) → (j ≡ i → ⊥) → head' j ≡ head j) → done' i ≡ 0 → ((j : ℕ) → (j ≡ i → ⊥) → done' j ≡ done j) →
          out' c ≡ t + d → ((k : ℕ) → (k ≡ c → ⊥) → out' k ≡ out k) → Standing tb p js (t + d) head' done' out'
      stands_after head' done' out' h fol hoff at doff new old =
          let a = after d (omega arith) in
          let b = after (d - 1) (omega arith) in
          let done-head = executed_head in
          let some = stretch.some in
          let fin : Finishes tb p js c (t + d) =
          record { last = t + (d - 1); after = omega arith; unfinished = omega arith; finished = omega arith } in
          let behind : (k : ℕ) → k < js.N → js.row k ≡ i → c < k → E (t + d) k ≡ 0 =
          λ k l e m. a.other k (λ q. omega arith) ∙ st.not_yet k l (omega (arith, ap head e)) in
          let before : (k : ℕ) → k < js.N → k < head' (js.row k) → (k ≡ c → ⊥) → k < head (js.row k) =
          λ k l g ne. by_eq (js.row k) i
          (λ e. by_le k c
          (λ q. omega (arith, ap head e))
          (λ q. absurd (fol.none k (omega arith) (omega (arith, ap head' e)) e)))
          (λ e. omega (arith, hoff (js.row k) e)) in
          record {
            high = λ j l. by_eq j i (λ e. rw e fol.high) (λ e. rw (hoff j e) (st.high j l));
            own = λ j l. by_eq j i (λ e. rw e fol.is) (λ e. rw (hoff j e) (st.own j l));
            finishes = λ k l g. by_eq k c
                (λ q. rw (q, new) fin)
                (λ q. rw (old k q) (st.finishes k l (before k l g q)));
            over = λ k l g. by_eq k c
                (λ q. rw q fin.finished)
                (λ q. a.other k q ∙ st.over k l (before k l g q));
            now = λ k l g. by_eq (js.row k) i
                (λ e. behind k l e (omega (arith, ap head' e, fol.low)) ∙ sym (ap done' e ∙ at))
                (λ e. a.other k (elsewhere k e) ∙ st.now k l (g ∙ hoff (js.row k) e) ∙ sym (doff (js.row k) e));
            left = λ k l g. by_eq (js.row k) i
                (λ e. omega (arith, ap done' e, at, wfj.lawful.run_low k l))
                (λ e. rw (doff (js.row k) e) (st.left k l (g ∙ hoff (js.row k) e)));
            not_yet = λ k l g. by_eq (js.row k) i
                (λ e. behind k l e (omega (arith, ap head' e, fol.low)))
                (λ e. a.other k (elsewhere k e) ∙ st.not_yet k l (omega (arith, hoff (js.row k) e)));
            unlocked = λ j l. by_eq j i
                (λ e. rw (e, at) (X.fresh_row tb p wf i il))
                (λ e. rw (doff j e) (st.unlocked j l));
          }

      -- and one job fewer is unfinished
      pub fewer : (head' : ℕ → ℕ) → Following js i (c + 1) (head' i) → ((j : ℕ) → (j ≡ i → ⊥) → head' j ≡ head j) →
          unplayed js head' < unplayed js head
      unfolding count
      fewer head' fol hoff =
          sum_lt (λ k. given (leb (head' (js.row k)) k) 1) (λ k. given (leb (head (js.row k)) k) 1) js.N c
          (λ k l. given_sub (leb (head' (js.row k)) k) (leb (head (js.row k)) k) 1
          (λ h. le-leb (head (js.row k)) k (by_eq (js.row k) i
          (λ e. omega (arith, leb-true (head' (js.row k)) k h, ap head e, ap head' e, fol.low))
          (λ e. omega (arith, leb-true (head' (js.row k)) k h, hoff (js.row k) e)))))
          cl
          (rw (mine, lt-leb (head' i) c (omega (arith, fol.low)), le-leb c c (omega arith)) (omega arith))

  -- No row waits.
  module _ (none : (j : ℕ) → j < tb.n → head j < next → ⊥) where
    -- up to the next release nothing runs
    idles : next < js.N → (x : ℕ) → t + x ≤ js.release next → (k : ℕ) → E (t + x) k ≡ E t k
    idles m zero h k = ap (λ u. E u k) (add-zero t)
    idles m (suc x) h k =
        let u = t + x in
        let s : (l : ℕ) → E u l ≡ E t l = idles m x (omega (arith, add-suc t x)) in
        let still : R.Free tb p js (E u) =
        λ l g on. free l g (record { left = rw (s l) at on.left; held = rw (s l) at on.held }) in
        let quiet : R.Quiet tb p js (E u) u =
        λ l g pe.
        none (js.row l) (row l g)
        (by_le next l
        (λ q. absurd (omega (arith, to_come l q g, pe.since, add-suc t x)))
        (λ q. omega (arith, unfinished l g (omega (arith, s l, pe.left))))) in
        let q = R.pick_idle tb p js (E u) u still quiet in
        ap (λ v. E v k) (add-suc t x)
        ∙ X.executed_not tb p js u k (λ r. let z : ◌≡◌ {A = ℕ} 0 1 = cc in omega arith)
        ∙ s k

    pub stands_idle : next < js.N → Standing tb p js (js.release next) head done out
    stands_idle m =
        let later = nx.later next (omega arith) m in
        let x = js.release next - t in
        let same : t + x ≡ js.release next = omega arith in
        let e : (k : ℕ) → E (js.release next) k ≡ E t k = λ k. rw same at (idles m x (omega arith) k) in
        search (e, st.over, st.now, st.not_yet)

    -- and past the last release every job has finished
    pub all_played : next ≡ js.N → (k : ℕ) → k < js.N → Finishes tb p js k (out k)
    all_played e k l =
        st.finishes k l (by_le next (head (js.row k)) (λ h. omega arith) (λ h. absurd (none (js.row k) (row k l) h)))
