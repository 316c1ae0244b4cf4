-- Demand 3, the upper bound: under the dispatch rule each job of a lawful list has executed its run by its release and
-- its row's response. The level of the job is settled last at t₀; from there on every tick is busy with the level until
-- the job finishes.
use Prim.Native.Nat.{ℕ, suc, ◌+◌, ◌-◌, ◌*◌, ◌/◌, ◌≤◌, ◌<◌}
use mathlib.Core.Path.{◌≡◌, refl, ap, sym}
use mathlib.Core.Bool.{Bool, true, ◌&&◌}
use mathlib.Core.Logic.{inl}
use native.Mathlib.Omega.{arith}
use native.Mathlib.Nat.{mul-le-mul_right, div-mul-le_self}
use lib.Dec.{eqb, ltb, leb}
use borrow.Author.Tests.{lt-ltb, ltb-true, le-leb, leb-true, eq-eqb, ne_eqb, eqb-true}
use Rattle.counting.specs.Sum.{given, without, sum, count}
use Rattle.counting.proofs.Cases.{by_bool, by_le, by_eq, and_left, and_right, and_both}
use Rattle.counting.proofs.Up.{lt_up}
use Rattle.counting.proofs.Sum.{without_elim, sum_le, sum_lt, sum_add, sum_mul, sum_delta}
use Rattle.tables.specs.Table.{Table, Sound, region_end}
use Rattle.tables.specs.Plan.{Plan, WellFormed}
use Rattle.tables.specs.Jobs.{Jobs, Lawful}
use Rattle.tables.proofs.Plan.{cap_run, cap_end, longer_is}
use Rattle.test.specs.Test.{before, upto, load, Active, jobs, Start, above, blocking, ResponseOf}
use Rattle.test.proofs.Load.{Positive, sound_positive, load_mono, load_upto, load_sub}
use Rattle.test.proofs.Sides.{active_side_is, active_side_level, start_side_whole}
use Rattle.test.proofs.Starts.{start_exists}
use Rattle.test.proofs.Plans.{blocking_is, longest_ge}
use Rattle.kernel.specs.Rule.{locked, executed}
use Rattle.kernel.proofs.Locked.{locked_final, locked_cases}
use Rattle.kernel.proofs.Rule as R
use Rattle.kernel.proofs.Executed as X
use Rattle.kernel.proofs.Steady as S
use Rattle.kernel.proofs.Level as Lv
use Rattle.bounds.proofs.Listing.{sum_three}
use Rattle.bounds.proofs.Window as W

-- a job below rank r is locked for no more ticks than the blocking: while it is locked it stays in one region, since
-- the middle one ends before the final one begins
pub locked_short : (tb : Table) (p : Plan) (js : Jobs) → WellFormed tb p → Lawful tb js → (r k e n : ℕ) → k < js.N →
    r < p.rank (js.row k) → e + n ≤ js.run k → ((y : ℕ) → y < n → locked tb p (js.row k) (e + y) ≡ true) →
    n ≤ blocking tb p r
locked_short tb p js wf lawful r k e n l h fits held =
    let i = js.row k in
    let il = lawful.row k l in
    let longest = longest_ge tb p r i il h in
    let longer = longer_is tb i (p.len i) in
    let less = blocking_is tb p r in
    let ends = cap_end tb i (wf.len_low i il) (wf.len_high i il) in
    by_eq n 0
    (λ z. omega arith)
    (λ z.
    locked_cases tb p i (e + 0) (held 0 (omega arith))
    (λ final. omega (arith, lawful.run_high k l))
    (λ begun on.
    by_le n (tb.M i - 1)
    (λ short. omega arith)
    (λ long.
    let y = region_end tb i - e in
    absurd (locked_cases tb p i (e + y) (held y (omega arith)) (λ f. omega arith) (λ _ f. omega arith)))))

module _ (tb : Table) (sound : Sound tb) (p : Plan) (wf : WellFormed tb p) (js : Jobs) (lawful : Lawful tb js)
    (j : ℕ) (jl : j < js.N) where
  abbrev i : ℕ
  i = js.row j

  abbrev r : ℕ
  r = p.rank i

  abbrev B : ℕ
  B = blocking tb p r

  il : i < tb.n
  il = lawful.row j jl

  pos : Positive tb
  pos = sound_positive tb sound

  new : X.Fresh tb p js
  new = X.fresh tb p js wf lawful

  abbrev E : ℕ → ℕ → ℕ
  E = executed tb p js

  -- the last tick up to the release at which the level is settled
  abbrev z : Lv.Last tb p js r (js.release j)
  z = Lv.last tb p js r (js.release j)

  abbrev t₀ : ℕ
  t₀ = z.at

  abbrev within : ℕ → ℕ → Bool
  within = W.within tb js lawful pos t₀

  abbrev level : ℕ → Bool
  level = Lv.level tb p js r

  abbrev work : (ℕ → Bool) → ℕ → ℕ
  work = Lv.work tb p js r

  abbrev Busy : ℕ → Type 0
  Busy = Lv.Busy tb p js r

  -- up to the release all ticks from t₀ on are busy
  early : (t : ℕ) → t₀ ≤ t → t < js.release j → Busy t
  early t a b = Lv.unsettled_busy tb p js r t (z.after (suc t) (omega arith) b)

  -- d busy ticks are d ticks executed, and B of them at most by jobs below the level
  level_work : (d : ℕ) → ((x : ℕ) → x < d → Busy (t₀ + x)) → work level t₀ + d ≤ work level (t₀ + d) + B
  level_work d b =
      let below = Lv.lower_work tb p js r t₀ new B (locked_short tb p js wf lawful r) d b in
      omega (arith, Lv.busy_work tb p js r t₀ d b)

  -- a bound on what the jobs of the level execute since t₀, for each term of their sum; and where one stays below it
  each : (t : ℕ) (f : ℕ → ℕ) → ((k : ℕ) → k < js.N → p.rank (js.row k) ≤ r → E t k ≤ E t₀ k + f k) →
      (k : ℕ) → k < js.N → given (level k) (E t k) ≤ given (level k) (E t₀ k) + f k
  each t f h k l = by_bool (level k) (λ e. rw e (h k l (leb-true _ _ e))) (λ e. rw e (omega arith))

  less : (t k x : ℕ) → p.rank (js.row k) ≤ r → E t k < E t₀ k + x →
      given (level k) (E t k) < given (level k) (E t₀ k) + x
  less t k x high h = rw (le-leb (p.rank (js.row k)) r high) h

  -- what job k may ask for if it is of the level and released in t₀, .., t₀ + x
  abbrev rows : ℕ → Bool
  rows h = leb (p.rank h) r

  abbrev share : ℕ → ℕ → ℕ
  share x k = given (rows (js.row k) && within x k) (tb.C (js.row k))

  share_in : (x k : ℕ) → p.rank (js.row k) ≤ r → t₀ ≤ js.release k → js.release k ≤ t₀ + x →
      share x k ≡ tb.C (js.row k)
  share_in x k high a b =
      rw (le-leb (p.rank (js.row k)) r high, W.within_to tb js lawful pos t₀ x k (record { from = a; upto = b }))

  -- it has executed since t₀ only if it was released since
  grown : (t k x : ℕ) → t ≤ suc (t₀ + x) → k < js.N → p.rank (js.row k) ≤ r → E t k ≤ E t₀ k + share x k
  grown t k x h l high =
      by_le t₀ (js.release k)
      (λ a. by_eq (E t k) 0
      (λ o. omega arith)
      (λ o.
      let since = X.released tb p js new t k (omega arith) in
      omega (arith, X.executed_run tb p js t k, lawful.run_high k l, share_in x k high a (omega arith))))
      (λ a. omega (arith, z.settled k l high a, X.executed_run tb p js t k))

  -- and all of it only if it is finished
  short : (t k x : ℕ) → js.release k ≤ t₀ + x → k < js.N → p.rank (js.row k) ≤ r → E t k < js.run k →
      E t k < E t₀ k + share x k
  short t k x h l high f =
      by_le t₀ (js.release k)
      (λ a. omega (arith, lawful.run_high k l, share_in x k high a h))
      (λ a. omega (arith, z.settled k l high a))

  -- The active period L of the row.
  module _ (L : ℕ) (act : Active tb (above p r) B i L) where
    -- what the level asks for within it
    level_load : load upto tb rows (L - 1) + B ≤ L
    level_load =
        let others = load_sub tb before (without rows i) (above p r)
        (λ h l e. without_elim rows i h e (λ ne u.
        by_eq (p.rank h) r
        (λ o. absurd (ne (wf.once h i l il o)))
        (λ o. lt-ltb (p.rank h) r (omega (arith, leb-true (p.rank h) r u))))) L in
        let whole = active_side_level tb rows B i L il (le-leb r r (omega arith)) in
        let sides = active_side_is tb (without rows i) B i L in
        let grows = load_mono tb rows (suc (L - 1)) L (omega (arith, act.low)) in
        omega (arith, act.holds, act.low, active_side_is tb (above p r) B i L, load_upto tb pos rows (L - 1))

    -- the release lies within it
    soon : js.release j < t₀ + L
    soon =
        by_le (t₀ + L) (js.release j)
        (λ h.
        let t = t₀ + L in
        let one = act.low in
        let u = z.after t (omega arith) h in
        let k = u.job in
        let b : (x : ℕ) → x < L → Busy (t₀ + x) = λ x l. early (t₀ + x) (omega arith) (omega arith) in
        let le = each t (share (L - 1)) (λ k. grown t k (L - 1) (omega arith)) in
        let lt = less t k (share (L - 1) k) u.high (short t k (L - 1) (omega arith) u.is u.high u.left) in
        let sums = sum_lt _ _ js.N k le u.is lt in
        let both = sum_add (λ k. given (level k) (E t₀ k)) (share (L - 1)) js.N in
        absurd (omega (arith, W.window_load tb js lawful pos t₀ rows (L - 1), level_load, level_work L b)))
        (λ h. h)

  -- the jobs of the row released from t₀ on and before this one
  abbrev x₀ : ℕ
  x₀ = js.release j - t₀

  abbrev earlier : ℕ → Bool
  earlier k = eqb (js.row k) i && (leb t₀ (js.release k) && ltb (js.release k) (js.release j))

  record Earlier (k : ℕ) : Type 0 where
    row : js.row k ≡ i
    from : t₀ ≤ js.release k
    until : js.release k < js.release j

  earlier_to : (k : ℕ) → Earlier k → earlier k ≡ true
  earlier_to k h = and_both _ _ (eq-eqb _ _ h.row) (and_both _ _ (le-leb _ _ h.from) (lt-ltb _ _ h.until))

  earlier_of : (k : ℕ) → earlier k ≡ true → Earlier k
  earlier_of k e =
      let own = eqb (js.row k) i in
      let from = leb t₀ (js.release k) in
      record {
        row = eqb-true _ _ (and_left own _ e);
        from = leb-true _ _ (and_left from _ (and_right own _ e));
        until = ltb-true _ _ (and_right from _ (and_right own _ e));
      }

  abbrev κ : ℕ
  κ = count earlier js.N

  -- they and this one are T apart
  κ_apart : κ * tb.T i ≤ x₀
  unfolding count
  κ_apart =
      let mine = W.mine tb js lawful pos t₀ i x₀ in
      let each : (k : ℕ) → k < js.N → given (earlier k) 1 + given (eqb j k) 1 ≤ given (mine k) 1 =
      λ k l.
      let in-it : js.row k ≡ i → t₀ ≤ js.release k → js.release k ≤ js.release j → mine k ≡ true =
      λ e a b. and_both _ _ (eq-eqb _ _ e)
      (W.within_to tb js lawful pos t₀ x₀ k (record { from = a; upto = omega (arith, z.upto) })) in
      by_bool (earlier k)
      (λ e.
      let o = earlier_of k e in
      rw (e, ne_eqb j k (λ q. omega (arith, ap js.release q)), in-it o.row o.from (omega arith)) (omega arith))
      (λ e. by_eq j k
      (λ q.
      let same = ap js.release q in
      rw (e, eq-eqb j k q, in-it (ap js.row (sym q)) (omega (arith, z.upto)) (omega arith)) (omega arith))
      (λ q. rw (e, ne_eqb j k q) (omega arith))) in
      let le = sum_le _ _ js.N each in
      let both = sum_add (λ k. given (earlier k) 1) (λ k. given (eqb j k) 1) js.N in
      let few : κ ≤ x₀ / tb.T i =
      omega (arith, sum_delta 1 j js.N jl, W.count_window tb js lawful pos t₀ i x₀ il) in
      omega (arith, mul-le-mul_right (tb.T i) few, div-mul-le_self x₀ (tb.T i))

  abbrev q : ℕ
  q = p.len i

  -- The start s of job κ + 1 of the row's active period.
  module _ (s : ℕ) (st : Start tb (above p r) B i q (suc κ) s) where
    abbrev t₁ : ℕ
    t₁ = t₀ + suc s

    -- what a job of the level has executed by t₁, while this one is unfinished
    abbrev part : ℕ → ℕ
    part k =
        given (above p r (js.row k) && within s k) (tb.C (js.row k))
        + (given (earlier k) 1 * tb.C i + given (eqb j k) (E t₁ j))

    part_bound : E t₁ j < js.run j → (k : ℕ) → k < js.N → p.rank (js.row k) ≤ r → E t₁ k ≤ E t₀ k + part k
    part_bound f k l high =
        by_eq (E t₁ k) 0
        (λ o. omega arith)
        (λ o.
        let since = X.released tb p js new t₁ k (omega arith) in
        let run = X.executed_run tb p js t₁ k in
        let worst = lawful.run_high k l in
        by_le t₀ (js.release k)
        (λ a.
        by_eq (js.row k) i
        (λ e.
        by_eq j k
        (λ o'. rw (eq-eqb j k o') (omega (arith, ap (E t₁) o')))
        (λ ne.
        by_le (js.release j) (js.release k)
        (λ g.
        by_eq (js.release j) (js.release k)
        (λ same. absurd (ne (R.same_job tb js sound lawful j k jl l (sym e) same)))
        (λ later. absurd (omega (arith, X.in_order tb p js new t₁ j k jl (sym e) (omega arith) (omega arith)))))
        (λ g. rw (earlier_to k (record { row = e; from = a; until = g })) (omega (arith, ap tb.C e)))))
        (λ e.
        let higher : p.rank (js.row k) < r =
        by_eq (p.rank (js.row k)) r (λ o'. absurd (e (wf.once (js.row k) i (lawful.row k l) il o')))
        (λ o'. omega arith) in
        let in-it = W.within_to tb js lawful pos t₀ s k (record { from = a; upto = omega arith }) in
        rw (lt-ltb (p.rank (js.row k)) r higher, in-it) (omega arith)))
        (λ a. omega (arith, z.settled k l high a)))

    part_sum : sum part js.N ≤ load upto tb (above p r) s + κ * tb.C i + E t₁ j
    unfolding count
    part_sum =
        let N = js.N in
        let f₁ : ℕ → ℕ = λ k. given (above p r (js.row k) && within s k) (tb.C (js.row k)) in
        let f₂ : ℕ → ℕ = λ k. given (earlier k) 1 * tb.C i in
        let f₃ : ℕ → ℕ = λ k. given (eqb j k) (E t₁ j) in
        let sums = sum_three f₁ f₂ f₃ N in
        let higher = W.window_load tb js lawful pos t₀ (above p r) s in
        omega (arith, sum_mul (λ k. given (earlier k) 1) (tb.C i) N, sum_delta (E t₁ j) j N jl)

    -- so by t₁ it is past C − length
    past : E t₁ j < js.run j → tb.C i < E t₁ j + q
    past f =
        let b : (x : ℕ) → x < suc s → Busy (t₀ + x) =
        λ x l. by_le (js.release j) (t₀ + x)
        (λ h.
        let more = X.executed_mono tb p js (t₀ + x) t₁ j (omega arith) in
        record { job = j; is = jl; high = omega arith; pends = record { since = h; left = omega arith } })
        (λ h. early (t₀ + x) (omega arith) h) in
        let le = sum_le _ _ js.N (each t₁ part (part_bound f)) in
        let both = sum_add (λ k. given (level k) (E t₀ k)) part js.N in
        let side = start_side_whole tb (above p r) B i q (suc κ) s (omega arith) (cap_run tb i (wf.len_high i il)) in
        omega (arith, level_work (suc s) b, part_sum, st.holds)

    -- and done by t₀ + s + length
    done : E (t₀ + s + q) j ≡ js.run j
    done =
        let u = t₀ + s + q in
        let some = wf.len_low i il in
        let most = X.executed_run tb p js u j in
        by_le (js.run j) (E t₁ j)
        (λ h. omega (arith, X.executed_mono tb p js t₁ u j (omega arith)))
        (λ h.
        let a = past h in
        let d = js.run j - E t₁ j in
        let on = X.runs_on tb p js new t₁ j jl (record { left = h; held = locked_final tb p i (E t₁ j) a }) in
        let after = S.steady tb p js sound wf lawful t₁ j d on (omega arith)
        (λ x _. inl (locked_final tb p i (E t₁ j + x) (omega arith))) d (omega arith) in
        omega (arith, after.mine, X.executed_mono tb p js (t₁ + d) u j (omega (arith, lawful.run_high j jl))))

  -- demand 3, the upper bound
  pub in_time : (R : ℕ) → ResponseOf tb p i R → E (js.release j + R) j ≡ js.run j
  in_time R x =
      let L = x.period in
      let apart = κ_apart in
      let counts : κ < jobs tb (above p r) B i L =
      lt_up L κ (pos.T i il) (omega (arith, soon L x.active, z.upto)) in
      let s = start_exists tb (above p r) B i pos il q (wf.len_low i il) (cap_run tb i (wf.len_high i il)) L
      x.active
      (suc κ) (omega arith) counts in
      let most = x.highest κ (s.0 + q) counts (record { start = s.0; starts = s.1; ends = refl }) in
      let u = js.release j + R in
      let more = X.executed_mono tb p js (t₀ + s.0 + q) u j (omega (arith, z.upto)) in
      omega (arith, done s.0 s.1, X.executed_run tb p js u j)
