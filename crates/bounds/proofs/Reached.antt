-- Demand 3, the bound is reached: a list in which a job of the row takes exactly its response. At t₀ the level is
-- released, while a job below has the whole blocking still to run.
use Prim.Native.Nat.{ℕ, zero, suc, ◌+◌, ◌-◌, ◌*◌, ◌≤◌, ◌<◌}
use mathlib.Core.Path.{◌≡◌, refl, ap, sym, ◌∙◌, subst}
use mathlib.Core.Bool.{Bool, true, false, ◌&&◌}
use native.Mathlib.Omega.{arith}
use native.Mathlib.Nat.{add-sub_cancel_left, mul-le-mul_right, mul-mod_left, le_of_mul-le-mul_right}
use lib.Dec.{eqb, ltb}
use borrow.Author.Tests.{lt-ltb, le-ltb, ltb-true, le-leb, eq-eqb, ne_eqb, eqb-true}
use Rattle.counting.specs.Sum.{given, sum}
use Rattle.counting.proofs.Cases.{by_eq, by_le, not_both}
use Rattle.counting.proofs.Up.{le_up}
use Rattle.counting.proofs.Sum.{given_yes, sum_le, sum_delta, sum_ge}
use Rattle.tables.specs.Table.{Table, Sound}
use Rattle.tables.specs.Plan.{Plan, WellFormed, blocks}
use Rattle.tables.specs.Jobs.{Jobs, Lawful}
use Rattle.tables.proofs.Plan.{cap_run, cap_end, longer_is}
use Rattle.test.specs.Test.{before, upto, load, Start, above, longest, blocking, ResponseOf}
use Rattle.test.proofs.Load.{Positive, sound_positive, load_upto, load_part}
use Rattle.test.proofs.Sides.{start_side_whole}
use Rattle.test.proofs.Starts.{start_prefix, start_after}
use Rattle.test.proofs.Plans.{blocking_is, longest_cases}
use Rattle.kernel.specs.Rule.{job, locked, executed, Finishes}
use Rattle.kernel.proofs.Locked.{locked_final, locked_middle, locked_cases}
use Rattle.kernel.proofs.Rule as R
use Rattle.kernel.proofs.Executed as X
use Rattle.kernel.proofs.Finishing as F
use Rattle.kernel.proofs.Level as Lv
use Rattle.bounds.proofs.Listing.{sum_three}
use Rattle.bounds.proofs.Worst as Wo
use Rattle.bounds.proofs.Upper.{in_time}

module _ (tb : Table) (sound : Sound tb) (p : Plan) (wf : WellFormed tb p) (i : ℕ) (il : i < tb.n) where
  abbrev r : ℕ
  r = p.rank i

  abbrev q : ℕ
  q = p.len i

  abbrev B : ℕ
  B = blocking tb p r

  pos : Positive tb
  pos = sound_positive tb sound

  -- The opening rows are of lower rank; job κ + 1 of the row starts at s; the list goes up to t₀ + s.
  module _ (opening : ℕ → Bool) (low : (h : ℕ) → opening h ≡ true → r < p.rank h) (t₀ κ s : ℕ) where
    abbrev js : Jobs
    js = Wo.worst tb p r opening t₀ (suc (t₀ + s))

    lawful : Lawful tb js
    lawful = Wo.worst_lawful tb p r opening t₀ (suc (t₀ + s)) pos sound.some low

    new : X.Fresh tb p js
    new = X.fresh tb p js wf lawful

    abbrev E : ℕ → ℕ → ℕ
    E = executed tb p js

    abbrev level : ℕ → Bool
    level = Lv.level tb p js r

    abbrev lower : ℕ → Bool
    lower = Lv.lower tb p js r

    abbrev work : (ℕ → Bool) → ℕ → ℕ
    work = Lv.work tb p js r

    -- whenever nothing is locked from t₀ on, the jobs below have spent the blocking
    abbrev Held : Type 0
    Held = (t : ℕ) → t₀ ≤ t → R.Free tb p js (E t) → t₀ + B ≤ work lower t

    module _ (st : Start tb (above p r) B i q (suc κ) s) (room : κ * tb.T i ≤ s) (held : Held) where
      -- the job in question, J
      abbrev J : Wo.Job tb p r opening t₀ (suc (t₀ + s)) (t₀ + κ * tb.T i) i
      J =
          Wo.level_job tb p r opening t₀ (suc (t₀ + s)) (t₀ + κ * tb.T i) i il (omega arith)
          (rw (add-sub_cancel_left t₀ (κ * tb.T i)) (mul-mod_left κ (tb.T i))) (omega arith) (omega arith)

      abbrev j : ℕ
      j = J.job

      -- what a job of the level has executed by a tick t₀ + x in which J goes past C − length
      abbrev part : ℕ → ℕ → ℕ
      part x k =
          given (above p r (js.row k) && ltb (js.release k) (t₀ + suc x)) (tb.C (js.row k))
          + (given (eqb (js.row k) i && ltb (js.release k) (t₀ + κ * tb.T i)) (tb.C (js.row k))
          + given (eqb j k) (tb.C i - q))

      part_le : (x k : ℕ) → k < js.N → E (t₀ + x) j ≡ tb.C i - q → R.Leads tb p js (E (t₀ + x)) (t₀ + x) j →
          part x k ≤ given (level k) (E (t₀ + x) k)
      part_le x k kl ej lead =
          let t = t₀ + x in
          let h = js.row k in
          let y = t₀ + κ * tb.T i in
          let jr = ap p.rank J.row in
          let released = J.release in
          let not_above = le-ltb r r (omega arith) in
          let of-level = le-leb r r (omega arith) in
          let by-now = t₀ + suc x in
          -- a job that is not pending has finished
          let finished : (E t k < js.run k → ⊥) → js.run k ≤ E t k =
          λ no. by_le (js.run k) (E t k) (λ a. a) (λ a. absurd (no a)) in
          by_eq j k
          (λ e.
          let row : h ≡ i = ap js.row (sym e) ∙ J.row in
          let at : js.release k ≡ y = ap js.release (sym e) ∙ J.release in
          let not-sooner = le-ltb (js.release k) y (omega arith) in
          rw (row, not_above, eq-eqb i i refl, not-sooner, eq-eqb j k e, of-level) (omega (arith, ap (E t) e)))
          (λ ne. by_eq h i
          (λ row. by_le y (js.release k)
          (λ g. rw (row, not_above, eq-eqb i i refl, le-ltb (js.release k) y g, ne_eqb j k ne) (omega arith))
          (λ g.
          let since = lead.pends.since in
          let own = row ∙ sym J.row in
          let all = finished (λ a. omega (arith, lead.earliest k kl (record { since = omega arith; left = a }) own)) in
          rw (row, not_above, eq-eqb i i refl, lt-ltb (js.release k) y g, ne_eqb j k ne, of-level)
          (omega (arith, ap tb.C row))))
          (λ row. rw (ne_eqb h i row, ne_eqb j k ne)
          (by_le r (p.rank h)
          (λ g. rw (le-ltb (p.rank h) r g) (omega arith))
          (λ g. rw (lt-ltb (p.rank h) r g, le-leb (p.rank h) r (omega arith))
          (by_le by-now (js.release k)
          (λ b. rw (le-ltb (js.release k) by-now b) (omega arith))
          (λ b.
          let all = finished (λ a. omega (arith, lead.highest k kl (record { since = omega arith; left = a }))) in
          rw (lt-ltb (js.release k) by-now b) (omega arith)))))))

      -- what rows of the level ask for before t₀ + y
      asks : (A : ℕ → Bool) → ((h : ℕ) → h < tb.n → A h ≡ true → p.rank h ≤ r) → (y : ℕ) → t₀ + y ≤ suc (t₀ + s) →
          load before tb A y ≤ sum (λ k. given (A (js.row k) && ltb (js.release k) (t₀ + y)) (tb.C (js.row k)))
          js.N
      asks = Wo.worst_load tb p r opening t₀ (suc (t₀ + s)) pos sound.some low

      part_ge : (x : ℕ) → x < s → load upto tb (above p r) x + κ * tb.C i + (tb.C i - q) ≤ sum (part x) js.N
      part_ge x h =
          let N = js.N in
          let f₁ : ℕ → ℕ = λ k. given (above p r (js.row k) && ltb (js.release k) (t₀ + suc x)) (tb.C (js.row k)) in
          let f₂ : ℕ → ℕ = λ k. given (eqb (js.row k) i && ltb (js.release k) (t₀ + κ * tb.T i))
          (tb.C (js.row k)) in
          let f₃ : ℕ → ℕ = λ k. given (eqb j k) (tb.C i - q) in
          let own : ℕ → Bool = λ h. eqb h i in
          let y = κ * tb.T i in
          let enough = le_of_mul-le-mul_right {k = tb.T i} (le_up y (pos.T i il)) (pos.T i il) in
          let higher = asks (above p r) (λ h _ a. omega (arith, ltb-true (p.rank h) r a)) (suc x) (omega arith) in
          let sooner = asks own (λ h _ a. omega (arith, ap p.rank (eqb-true h i a))) y (omega arith) in
          let one = load_part tb before own i y il (eq-eqb i i refl) in
          let sums = sum_three f₁ f₂ f₃ N in
          let times = mul-le-mul_right (tb.C i) enough in
          omega (arith, sum_delta (tb.C i - q) j N J.is, load_upto tb pos (above p r) x)

      -- no tick before t₀ + s takes J past C − length
      not_before : (t : ℕ) → t < t₀ + s → E t j ≡ tb.C i - q → X.runs tb p js t ≡ job j → ⊥
      not_before t h ej run =
          let cap = cap_run tb i (wf.len_high i il) in
          R.rule_of tb p js (E t) t j run
          (λ _ on.
          let ends = cap_end tb i (wf.len_low i il) (wf.len_high i il) in
          locked_cases tb p i (E t j) (rw J.row at on.held) (λ past. omega arith) (λ _ past. omega arith))
          (λ _ free lead.
          let x = t - t₀ in
          let same : t₀ + x ≡ t = omega (arith, lead.pends.since, J.release) in
          let leadx : R.Leads tb p js (E (t₀ + x)) (t₀ + x) j = rw same lead in
          let ex : E (t₀ + x) j ≡ tb.C i - q = rw same ej in
          let parts = sum_le (part x) _ js.N (λ k kl. part_le x k kl ex leadx) in
          let side = start_side_whole tb (above p r) B i q (suc κ) x (omega arith) cap in
          let below = held t (omega arith) free in
          let most = Lv.work_most tb p js r t in
          let early = start_prefix tb (above p r) B i pos il q (wf.len_low i il) cap (suc κ) s x st
          (omega (arith, ap (work level) same, part_ge x (omega arith))) in
          omega arith)

      -- so J is unfinished in the tick before t₀ + s + length
      late : E (t₀ + s + (q - 1)) j < js.run j
      late =
          let slow = X.executed_slow tb p js (q - 1) (t₀ + s) j in
          by_le (js.run j) (E (t₀ + s + (q - 1)) j)
          (λ h.
          let c = X.crossing tb p js (tb.C i - q) (t₀ + s) j
          (omega (arith, J.run, wf.len_low i il, cap_run tb i (wf.len_high i il))) in
          absurd (not_before c.0 c.1 c.2 c.3))
          (λ h. h)

      -- and takes exactly what is said of it
      taken : (R : ℕ) → ResponseOf tb p i R → R + κ * tb.T i ≡ s + q → Finishes tb p js j (js.release j + R)
      taken R x e =
          record {
            last = t₀ + s + (q - 1);
            after = omega (arith, J.release, wf.len_low i il);
            unfinished = late;
            finished = in_time tb sound p wf js lawful j J.is R (subst (λ h. ResponseOf tb p h R) (sym J.row) x);
          }

  -- the row l alone opens the list
  abbrev opens : ℕ → ℕ → Bool
  opens l h = eqb h l

  opens_low : (l : ℕ) → r < p.rank l → (h : ℕ) → opens l h ≡ true → r < p.rank h
  opens_low l lt h e = omega (arith, ap p.rank (eqb-true h l e))

  -- Row l is below; at t₀ its job has the blocking still to run, and is locked all that time.
  module _ (l : ℕ) (ll : l < tb.n) (lt : r < p.rank l) (t₀ κ s : ℕ)
      (held : (y : ℕ) → y < B → locked tb p l (t₀ + y) ≡ true)
      (fits : t₀ + B ≤ tb.C l) where
    abbrev jl : Jobs
    jl = js (opens l) (opens_low l lt) t₀ κ s

    abbrev lawl : Lawful tb jl
    lawl = lawful (opens l) (opens_low l lt) t₀ κ s

    abbrev D : ℕ → ℕ → ℕ
    D = executed tb p jl

    abbrev O : Wo.Job tb p r (opens l) t₀ (suc (t₀ + s)) 0 l
    O = Wo.opening_job tb p r (opens l) t₀ (suc (t₀ + s)) l ll (eq-eqb l l refl) (omega arith)

    -- nothing else is released before t₀
    only : (k : ℕ) → k < jl.N → jl.release k < t₀ → k ≡ O.job
    only k kl h =
        let o = Wo.opens_only tb p r (opens l) t₀ (suc (t₀ + s)) pos sound.some (opens_low l lt) k kl h in
        R.same_job tb jl sound lawl k O.job kl O.is (eqb-true (jl.row k) l o.1 ∙ sym O.row)
        (o.0 ∙ sym O.release)

    alone : (t : ℕ) → t ≤ t₀ → D t O.job ≡ t
    alone zero h = X.executed_zero tb p jl O.job
    alone (suc t) h =
        let so_far = alone t (omega arith) in
        let c = F.pending_runs tb p jl t O.job O.is
        (record { since = omega (arith, O.release); left = omega (arith, O.run) }) in
        let since = (X.runs_pending tb p jl (new (opens l) (opens_low l lt) t₀ κ s) t c.0 c.1).since in
        let one = only c.0 (X.runs_left tb p jl t c.0 c.1).0 (omega arith) in
        X.executed_at tb p jl t O.job (c.1 ∙ ap job one) ∙ ap suc so_far

    blocked : Held (opens l) (opens_low l lt) t₀ κ s
    blocked t h free =
        let k = O.job in
        let from : t₀ ≤ D t k = omega (arith, alone t₀ (omega arith), X.executed_mono tb p jl t₀ t k h) in
        let spent : t₀ + B ≤ D t k =
        by_le (t₀ + B) (D t k) (λ a. a)
        (λ a.
        let locks = subst (λ e. locked tb p l e ≡ true) (omega arith) (held (D t k - t₀) (omega arith)) in
        absurd (free k O.is (record { left = omega (arith, O.run); held = rw O.row locks }))) in
        let below = Lv.lower tb p jl r in
        let lower = lt-ltb r (p.rank (jl.row k)) (omega (arith, ap p.rank O.row)) in
        omega (arith, sum_ge (λ k. given (below k) (D t k)) jl.N k O.is, given_yes (below k) (D t k) lower)

  -- a lawful list, in the order that play asks for, in which a job of the row takes exactly R
  abbrev pub Exactly : ℕ → Type 0
  Exactly R =
      (js : Jobs)
      × Lawful tb js
      × ((k l : ℕ) → k < l → l < js.N → js.release k ≤ js.release l)
      × (k : ℕ)
      × (k < js.N)
      × (js.row k ≡ i)
      × Finishes tb p js k (js.release k + R)

  module _ (R : ℕ) (x : ResponseOf tb p i R) where
    abbrev s : ℕ
    s = x.reached.start

    build : (opening : ℕ → Bool) (low : (h : ℕ) → opening h ≡ true → r < p.rank h) (t₀ : ℕ) →
        Held opening low t₀ x.job s → Exactly R
    build opening low t₀ held =
        let κ = x.job in
        let st = x.reached.starts in
        let cap = cap_run tb i (wf.len_high i il) in
        let some = wf.len_low i il in
        let after = start_after tb (above p r) B i pos il q some cap x.period x.active κ s x.counts st in
        let room : κ * tb.T i ≤ s = omega arith in
        let o = J opening low t₀ κ s st room held in (
          js opening low t₀ κ s,
          lawful opening low t₀ κ s,
          Wo.worst_order tb p r opening t₀ (suc (t₀ + s)) pos sound.some low,
          o.job,
          o.is,
          o.row,
          taken opening low t₀ κ s st room held R x x.reached.ends,
        )

    -- at t₀ a job of row l, alone till then, is one tick into the longer of its two regions
    opened : (l : ℕ) → l < tb.n → r < p.rank l → longest tb p r ≡ blocks tb p l → Exactly R
    opened l ll lt z =
        let b = blocking_is tb p r in
        let ends = cap_end tb l (wf.len_low l ll) (wf.len_high l ll) in
        let some = wf.len_low l ll in
        let region = longer_is tb l (p.len l) in
        by_le (tb.M l) (p.len l)
        (λ final.
        let t₀ = tb.C l - p.len l + 1 in
        build (opens l) (opens_low l lt) t₀
        (blocked l ll lt t₀ x.job s (λ y h. locked_final tb p l (t₀ + y) (omega arith)) (omega arith)))
        (λ middle.
        let t₀ = tb.S l + 1 in
        build (opens l) (opens_low l lt) t₀
        (blocked l ll lt t₀ x.job s (λ y h. locked_middle tb p l (t₀ + y) (omega arith) (omega arith))
        (omega arith)))

    -- the response is reached
    pub reached : Exactly R
    reached =
        let b = blocking_is tb p r in
        longest_cases tb p r
        (λ z. build (λ _. false) (λ h e. not_both false refl e) 0 (λ t _ _. omega arith))
        opened
