-- One turn of play's loop, over the rows that it keeps: how play stands after it, and that at most two turns a job
-- are made.
use Prim.Native.Nat.{ℕ, ◌+◌, ◌-◌, ◌*◌, ◌≤◌, ◌<◌}
use mathlib.Core.Path.{◌≡◌, refl, sym, ap, subst, ◌∙◌}
use mathlib.Core.Logic.{◌⊎◌, inl, inr, ⊎_elim}
use mathlib.Core.List.{List}
use native.Mathlib.Omega.{arith}
use borrow.Author.Rules.{rules}
use lib.ListN.{length, get_or, set, take, drop}
use Rattle.std.proofs.Common.{None}
use Rattle.std.proofs.lemmas.List.{get_or-take, length-take-le}
use lib.Seq.{get_or-set_same, get_or-set_other, drop-set-lt}
use lib.Dec.{leb}
use Rattle.counting.proofs.Sum.{count_le}
use Rattle.counting.proofs.Cases.{by_eq}
use Rattle.tables.specs.Table.{Table, Sound, most, most_rows}
use Rattle.tables.specs.Plan.{Plan, WellFormed}
use Rattle.tables.specs.Jobs.{Jobs, WellFormedJobs, most_jobs, last_release}
use Rattle.kernel.specs.Answers.{PlayGiven}
use Rattle.decision.specs.declared.Head.{Head}
use Rattle.decision.specs.inside.Decision.{no, job_in, done_in, Following, Heads, Released, ByRank, Stretch}
use Rattle.decision.specs.inside.Decision.{FirstWaiting, Foremost}
use Rattle.decision.proofs.Order.{foremost_first}
use Rattle.play.proofs.Standing as S

-- a row's place in the order, and a job's place in the output
abbrev pub at : List ℕ → ℕ → ℕ
at l i = get_or l i 0

-- play at tick t, with the rows' heads that it keeps and the output as it came, `out₀`, and as it is
pub record Playing (tb : Table) (p : Plan) (js : Jobs) (out₀ : List ℕ) (t : ℕ) (heads : List Head) (out : List ℕ) :
    Type 0 where
  pub places : length heads ≡ most_rows
  pub standing : S.Standing tb p js t (job_in heads) (done_in heads) (at out)
  pub whole : length out ≡ length out₀
  pub rest : drop js.N out ≡ drop js.N out₀

-- what a turn gains: a job has finished, or the next release is reached
pub record Gained (js : Jobs) (next t t' : ℕ) (heads heads' : List Head) : Type 0 where
  pub later : t ≤ t'
  pub gain :
      (S.unplayed js (job_in heads') < S.unplayed js (job_in heads))
      ⊎ ((S.unplayed js (job_in heads') ≡ S.unplayed js (job_in heads)) × (next < js.N) × (js.release next ≤ t'))

-- the turns that may still come: one for each unfinished job and one for each release to come
abbrev pub turns : Jobs → List Head → ℕ → ℕ
turns js heads next = S.unplayed js (job_in heads) + (js.N - next)

-- two a job at most
pub turns_most : (js : Jobs) (heads : List Head) (next : ℕ) → turns js heads next ≤ 2 * js.N
turns_most js heads next = omega (arith, count_le (λ k. leb (job_in heads (js.row k)) k) js.N)

pub turns_fall : (js : Jobs) (next t t' next' : ℕ) (heads heads' : List Head) → Gained js next t t' heads heads' →
    Released js next t' next' → turns js heads' next' < turns js heads next
turns_fall js next t t' next' heads heads' g r =
    elim g.gain [
      | inl h ↦ omega (arith, r.low)
      | inr h ↦ by_eq next' next
          (λ e. absurd (omega (arith, r.waits (omega arith), ap js.release e)))
          (λ e. omega (arith, r.low))
    ]

-- row i's earliest unfinished job runs
pub record Runs (tb : Table) (js : Jobs) (t : ℕ) (heads : List Head) (i : ℕ) : Type 0 where
  pub row : i < tb.n
  pub place : i < most_rows
  pub job : job_in heads i < js.N
  pub left : done_in heads i < js.run (job_in heads i)
  pub small : js.run (job_in heads i) ≤ most
  pub in_time : t + (js.run (job_in heads i) - done_in heads i) ≤ last_release + most_jobs * most

-- what becomes of play where no row waits: it is over, or it goes on to the next release
pub record Idle (tb : Table) (p : Plan) (js : Jobs) (out₀ : List ℕ) (t next : ℕ) (heads : List Head) (out : List ℕ) :
    Type 0 where
  pub over : js.N ≤ next → PlayGiven tb p js out₀ js.N out
  pub idles : next < js.N →
      Playing tb p js out₀ (js.release next) heads out × Gained js next t (js.release next) heads heads

-- what becomes of play by a decision for row i: the row's job has executed d ticks more, or it has finished and job k
-- is the row's following one
pub record Decided (tb : Table) (p : Plan) (js : Jobs) (out₀ : List ℕ) (t next : ℕ) (heads : List Head)
    (out : List ℕ) (i : ℕ) : Type 0 where
  pub runs : Runs tb js t heads i
  pub goes_on : (d : ℕ) → Stretch tb p js i (done_in heads i) (js.run (job_in heads i)) next t d →
      done_in heads i + d < js.run (job_in heads i) →
      let heads' = set heads i (record { job = job_in heads i; done = done_in heads i + d }) in
      Playing tb p js out₀ (t + d) heads' out × Gained js next t (t + d) heads heads'
  pub finishes : (d k : ℕ) → Stretch tb p js i (done_in heads i) (js.run (job_in heads i)) next t d →
      js.run (job_in heads i) ≤ done_in heads i + d → js.N ≤ length out → Following js i (job_in heads i + 1) k →
      let heads' = set heads i (record { job = k; done = 0 }) in
      Playing tb p js out₀ (t + d) heads' (set out (job_in heads i) (t + d)) × Gained js next t (t + d) heads heads'

module _ (tb : Table) (p : Plan) (js : Jobs) (sound : Sound tb) (wf : WellFormed tb p) (wfj : WellFormedJobs tb js)
    (out₀ : List ℕ) where
  pub starts : (heads : List Head) (next : ℕ) → Heads js tb.n heads → Released js 0 0 next →
      Playing tb p js out₀ 0 heads out₀ × S.Next js 0 next
  starts heads next h r = (
    record {
      places = h.places;
      standing = S.stands tb p js (job_in heads) (done_in heads) (at out₀) wf wfj h.first (λ i _. h.fresh i);
      whole = refl;
      rest = refl;
    },
    S.next_on tb js wfj 0 0 0 next (omega arith) (λ k l. absurd (omega arith)) r,
  )

  module _ (t next : ℕ) (heads : List Head) (out : List ℕ) (nx : S.Next js t next)
      (pl : Playing tb p js out₀ t heads out) (order : List ℕ) (ranks : ByRank tb p order) where
    -- no row of the first r ranks waits
    abbrev pub NoneBefore : ℕ → Type 0
    NoneBefore r = (s : ℕ) → s < r → next ≤ job_in heads (at order s)

    -- no row waits: play goes to the next release, or is over
    module _ (none_waits : NoneBefore tb.n) where
      none : (j : ℕ) → j < tb.n → job_in heads j < next → ⊥
      none j h w = omega (arith, foremost_first wf ranks heads next tb.n (omega arith) none_waits j h w, wf.rank_high j h)

      turn_idle : next < js.N →
          Playing tb p js out₀ (js.release next) heads out × Gained js next t (js.release next) heads heads
      turn_idle m =
          let st = S.stands_idle sound wf wfj nx pl.standing none m in
          let later = nx.later next (omega arith) m in
          (search rules, record { later = omega arith; gain = inr (refl, m, omega arith) })

      turn_last : js.N ≤ next → PlayGiven tb p js out₀ js.N out
      turn_last m =
          let all = S.all_played sound wf wfj nx pl.standing none (omega (arith, nx.high)) in
          search rules

      stays : Idle tb p js out₀ t next heads out
      stays = record { over = turn_last; idles = turn_idle }

    -- the row at place r is the first that waits, and its head runs
    module _ (r : ℕ) (rl : r < tb.n) (waits : job_in heads (at order r) < next) (none_before : NoneBefore r) where
      abbrev i : ℕ
      i = at order r

      abbrev c : ℕ
      c = job_in heads i

      il : i < tb.n
      il = ranks.row r rl

      place : i < most_rows
      place = omega (arith, il, sound.few)

      first : (j : ℕ) → j < tb.n → job_in heads j < next → p.rank i ≤ p.rank j
      first j h w =
          omega (arith, foremost_first wf ranks heads next r (omega arith) none_before j h w, ranks.rank r rl)

      running : Runs tb js t heads i
      running =
          let job : c < js.N = omega (arith, nx.high) in
          record {
            row = il;
            place = place;
            job = job;
            left = S.left_head sound wf wfj nx pl.standing i il waits first;
            small = omega (arith, wfj.lawful.run_high c job, (sound.row (js.row c) (wfj.lawful.row c job)).C);
            in_time = S.in_time sound wf wfj nx pl.standing i il waits first;
          }

      -- the row's head becomes v
      head_same : (v : Head) → get_or (set heads i v) i no ≡ v
      head_same v = get_or-set_same heads i v no (omega (arith, pl.places, place))

      head_other : (v : Head) (j : ℕ) → (j ≡ i → ⊥) → get_or (set heads i v) j no ≡ get_or heads j no
      head_other v j = get_or-set_other heads i j v no

      module _ (d : ℕ) (stretch : Stretch tb p js i (done_in heads i) (js.run c) next t d) where
        abbrev e : ℕ
        e = done_in heads i

        turn_on : e + d < js.run c →
            let heads' = set heads i (record { job = c; done = e + d }) in
            Playing tb p js out₀ (t + d) heads' out × Gained js next t (t + d) heads heads'
        turn_on h =
            let v : Head = record { job = c; done = e + d } in
            let heads' = set heads i v in
            let done : done_in heads' i ≡ e + d = ap (λ q. q.done) (head_same v) in
            let done_off : (j : ℕ) → (j ≡ i → ⊥) → done_in heads' j ≡ done_in heads j =
            λ j q. ap (λ q. q.done) (head_other v j q) in
            let job : (j : ℕ) → job_in heads j ≡ job_in heads' j =
            λ j. by_eq j i
            (λ q. rw q (sym (ap (λ q. q.job) (head_same v))))
            (λ q. sym (ap (λ q. q.job) (head_other v j q))) in
            let jobs : job_in heads ≡ job_in heads' = λ x j. job j x in
            let st = S.stands_on sound wf wfj nx pl.standing i il waits first d stretch (done_in heads') h done
            done_off in
            let standing : S.Standing tb p js (t + d) (job_in heads') (done_in heads') (at out) =
            subst (λ f. S.Standing tb p js (t + d) f (done_in heads') (at out)) jobs st in
            let same : S.unplayed js (job_in heads') ≡ S.unplayed js (job_in heads) = sym (ap (S.unplayed js) jobs) in
            let gained : Gained js next t (t + d) heads heads' = record {
              later = omega arith;
              gain = ⊎_elim (λ q. absurd (omega arith)) (λ q. inr (same, q.0, q.1)) stretch.ends;
            } in
            (search rules, gained)

        turn_after : (k : ℕ) → js.run c ≤ e + d → js.N ≤ length out → Following js i (c + 1) k →
            let heads' = set heads i (record { job = k; done = 0 }) in
            Playing tb p js out₀ (t + d) heads' (set out c (t + d)) × Gained js next t (t + d) heads heads'
        turn_after k h room fol =
            let v : Head = record { job = k; done = 0 } in
            let heads' = set heads i v in
            let job : job_in heads' i ≡ k = ap (λ q. q.job) (head_same v) in
            let job_off : (j : ℕ) → (j ≡ i → ⊥) → job_in heads' j ≡ job_in heads j =
            λ j q. ap (λ q. q.job) (head_other v j q) in
            let done : done_in heads' i ≡ 0 = ap (λ q. q.done) (head_same v) in
            let done_off : (j : ℕ) → (j ≡ i → ⊥) → done_in heads' j ≡ done_in heads j =
            λ j q. ap (λ q. q.done) (head_other v j q) in
            let follows : Following js i (c + 1) (job_in heads' i) = rw job fol in
            let new = get_or-set_same out c (t + d) 0 (omega (arith, running)) in
            let old : (j : ℕ) → (j ≡ c → ⊥) → at (set out c (t + d)) j ≡ at out j =
            λ j. get_or-set_other out c j (t + d) 0 in
            let st = S.stands_after sound wf wfj nx pl.standing i il waits first d stretch (job_in heads')
            (done_in heads') (at (set out c (t + d))) (omega (arith, stretch.within, running)) follows job_off done
            done_off new old in
            let fewer = S.fewer sound wf wfj nx pl.standing i il waits first d stretch (job_in heads') follows job_off
            in
            let rest : drop js.N (set out c (t + d)) ≡ drop js.N out₀ =
            drop-set-lt js.N out c (t + d) running.job ∙ pl.rest in
            (search rules, record { later = omega arith; gain = inl fewer })

      turns_row : Decided tb p js out₀ t next heads out i
      turns_row = record { runs = running; goes_on = turn_on; finishes = λ d k st. turn_after d st k }

    -- the foremost is looked for in the front of the order, the places of the rows
    abbrev front : List ℕ
    front = take tb.n order

    fits : length front ≡ tb.n
    fits = length-take-le tb.n order (omega (arith, ranks.places, sound.few))

    same : (s : ℕ) → s < tb.n → at front s ≡ at order s
    same s l = get_or-take tb.n order s 0 l

    pub idle : Foremost front heads next None → Idle tb p js out₀ t next heads out
    idle none = stays (λ s l. rw (sym (same s l)) (none s (omega (arith, fits))))

    pub decided : (r : ℕ) → FirstWaiting front heads next r → Decided tb p js out₀ t next heads out (at order r)
    decided r fm =
        let rl : r < tb.n = omega (arith, fm.high, fits) in
        turns_row r rl (rw (same r rl) at fm.waits) (λ s l. rw (sym (same s (omega arith))) (fm.none s l))
