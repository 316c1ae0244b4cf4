-- Laws of a plan's rows: blocking, and that under a busy period within H every active period and every response exists,
-- within it.
use Prim.Native.Nat.{ℕ, pred, suc, ◌+◌, ◌≤◌, ◌<◌}
use mathlib.Core.Path.{◌≡◌, refl, ap, ◌∙◌}
use mathlib.Core.Bool.{Bool, false}
use native.Mathlib.Omega.{arith}
use lib.Dec.{leb, ltb}
use borrow.Author.Tests.{ltb-true, leb-true, le-leb, lt-ltb}
use Rattle.counting.specs.Sum.{given, without}
use Rattle.counting.proofs.Cases.{by_bool, not_both}
use Rattle.counting.proofs.Sum.{without_intro, given_yes, given_no, largest_ge, largest_cases}
use Rattle.counting.proofs.Least.{least_bound, least_unique}
use Rattle.tables.specs.Table.{Table, Sound}
use Rattle.tables.specs.Plan.{Plan, WellFormed, cap, blocks}
use Rattle.tables.proofs.Plan.{cap_run, longer_ge, longer_mono, longer_run}
use Rattle.test.specs.Test.{horizon, before, load, every_row, busy_side, BusyWithin, Active, active_side}
use Rattle.test.specs.Test.{above, below, longest, blocking, ResponseOf}
use Rattle.test.specs.Answers.{Bounded}
use Rattle.test.proofs.Load.{Positive, sound_positive, load_sub, load_ext, load_without, run_asked}
use Rattle.test.proofs.Compare.{response_alike}
use Rattle.test.proofs.Sides.{active_side_is, active_side_mono, active_side_up, active_side_level}
use Rattle.test.proofs.Response.{response_exists, response_high, response_low}

module _ (tb : Table) (p : Plan) (r : ℕ) where
  pub blocking_is : blocking tb p r ≡ pred (longest tb p r)
  unfolding blocking
  blocking_is = refl

  -- no row below blocks with more than the longest
  pub longest_ge : (j : ℕ) → j < tb.n → r < p.rank j → blocks tb p j ≤ longest tb p r
  unfolding longest
  longest_ge j l h =
      let counts = given_yes (below p r j) (blocks tb p j) (lt-ltb r _ (omega arith)) in
      omega (arith, largest_ge (λ k. given (below p r k) (blocks tb p k)) tb.n j l)

  -- where there is something below, nothing is cut off
  pub blocking_some : (j : ℕ) → j < tb.n → r < p.rank j → 1 ≤ p.len j → suc (blocking tb p r) ≡ longest tb p r
  blocking_some j l h one = omega (arith, blocking_is, longest_ge j l h, longer_ge tb j (p.len j))

  -- the longest is what a row below blocks with, or there is none
  pub longest_cases {ℓ} : {X : Type ℓ} → (longest tb p r ≡ 0 → X) →
      ((j : ℕ) → j < tb.n → r < p.rank j → longest tb p r ≡ blocks tb p j → X) → X
  unfolding longest
  longest_cases none some =
      largest_cases (λ j. given (below p r j) (blocks tb p j)) tb.n none
      (λ j l e.
      by_bool (below p r j)
      (λ t. some j l (omega (arith, ltb-true r _ t)) (e ∙ given_yes (below p r j) (blocks tb p j) t))
      (λ f. none (e ∙ given_no (below p r j) (blocks tb p j) f)))

-- where each row below is below in another plan too, and no longer, the longest is no longer
pub longest_le : (tb : Table) (p p' : Plan) (r r' : ℕ) →
    ((j : ℕ) → j < tb.n → r < p.rank j → (r' < p'.rank j) × (p.len j ≤ p'.len j)) →
    longest tb p r ≤ longest tb p' r'
longest_le tb p p' r r' h =
    longest_cases tb p r (λ e. omega arith)
    (λ j l below e. let x = h j l below in omega (arith, longer_mono tb j x.1, longest_ge tb p' r' j l x.0))

-- the blocking and the rows of U, none of them below r, ask for no more than all the rows
pub room : (tb : Table) (p : Plan) (r : ℕ) (U : ℕ → Bool) → Positive tb →
    ((j : ℕ) → j < tb.n → r < p.rank j → (U j ≡ false) × (1 ≤ p.len j) × (p.len j ≤ cap tb j)) →
    (t : ℕ) → 1 ≤ t → blocking tb p r + load before tb U t ≤ busy_side tb t
unfolding busy_side
room tb p r U pos out t h =
    let all = load_sub tb before U every_row (λ _ _ _. refl) t in
    longest_cases tb p r
    (λ e. omega (arith, all, blocking_is tb p r))
    (λ j l below e.
    let o = out j l below in
    let others = load_sub tb before U (without every_row j)
    (λ k _ u. without_intro every_row j k (λ q. not_both (U k) (ap U q ∙ o.0) u) refl) t in
    omega (
      arith,
      longer_run tb j o.1 o.2,
      blocking_is tb p r,
      load_without tb before every_row j t l refl,
      run_asked tb pos j t l h,
    ))

-- every active period of a level of U exists, within the busy period
pub level_active : (tb : Table) (P : ℕ → Bool) (b i : ℕ) → Positive tb → i < tb.n → (w : BusyWithin tb) →
    ((t : ℕ) → 1 ≤ t → active_side tb P b i t ≤ busy_side tb t) →
    (L : ℕ) × Active tb P b i L × (L ≤ w.period)
level_active tb P b i pos l w le =
    let m = w.busy in
    least_bound (active_side tb P b i) (active_side_mono tb P b i) 1 (active_side_up tb P b i pos l) w.period
    m.low
    (omega (arith, le w.period m.low, m.holds))

module _ (tb : Table) (sound : Sound tb) (w : BusyWithin tb) (p : Plan) (wf : WellFormed tb p) (i : ℕ) (l : i < tb.n)
  where
    abbrev P : ℕ → Bool
    P = above p (p.rank i)

    abbrev B : ℕ
    B = blocking tb p (p.rank i)

    -- the rows of no lower rank than i
    abbrev level : ℕ → Bool
    level j = leb (p.rank j) (p.rank i)

    pos : Positive tb
    pos = sound_positive tb sound

    plan_side : (t : ℕ) → 1 ≤ t → active_side tb P B i t ≤ busy_side tb t
    plan_side t h =
        let r = p.rank i in
        let out : (j : ℕ) → r < p.rank j → level j ≡ false =
        λ j lower. by_bool (level j) (λ e. absurd (omega (arith, leb-true (p.rank j) r e))) (λ e. e) in
        let all = room tb p r level pos (λ j g lower. (out j lower, wf.len_low j g, wf.len_high j g)) t h in
        let higher = load_sub tb before P (without level i)
        (λ j _ e.
        let lt = ltb-true (p.rank j) r e in
        without_intro level i j (λ q. omega (arith, ap p.rank q)) (le-leb (p.rank j) r (omega arith))) t in
        let own = active_side_level tb level B i t l (le-leb r r (omega arith)) in
        omega (arith, active_side_is tb P B i t, active_side_is tb (without level i) B i t)

    -- every row of a well-formed plan has an active period, within H
    pub plan_active : (L : ℕ) × Active tb P B i L × (L ≤ horizon)
    plan_active =
        let r = level_active tb P B i pos l w plan_side in
        (r.0, r.1, omega (arith, r.2, w.within))

    -- every response exists
    pub plan_response : (R : ℕ) × ResponseOf tb p i R
    plan_response =
        let a = plan_active in
        response_exists tb P B i (p.len i) pos l (wf.len_low i l) (cap_run tb i (wf.len_high i l)) a.0 a.1

    -- every response is within H, and never below C
    pub plan_bounded : (R : ℕ) → ResponseOf tb p i R → Bounded tb p i R
    plan_bounded R x =
        let a = plan_active in
        let q = p.len i in
        let low = wf.len_low i l in
        let high = cap_run tb i (wf.len_high i l) in
        let same = least_unique x.active a.1 in
        record {
          period = a.0;
          active = a.1;
          within = a.2;
          low = response_low tb P B i q pos l low high R x;
          high = omega (arith, response_high tb P B i q pos l low high R x, a.2);
        }

-- Two plans with the same ranks and lengths in the rows of the table have the same responses.
module _ (tb : Table) (p p' : Plan) (same : (j : ℕ) → j < tb.n → (p.rank j ≡ p'.rank j) × (p.len j ≡ p'.len j))
  where
    longest_same : (r : ℕ) → longest tb p r ≡ longest tb p' r
    longest_same r =
        let up = longest_le tb p p' r r (λ j l h. (omega (arith, same j l), omega (arith, same j l))) in
        let down = longest_le tb p' p r r (λ j l h. (omega (arith, same j l), omega (arith, same j l))) in
        omega arith

    pub plan_alike : (i R : ℕ) → Positive tb → i < tb.n → 1 ≤ p.len i → p.len i ≤ tb.C i → ResponseOf tb p i R →
        ResponseOf tb p' i R
    plan_alike i R pos l low high x =
        let r = p.rank i in
        let b : blocking tb p r ≡ blocking tb p' r =
        omega (arith, blocking_is tb p r, blocking_is tb p' r, longest_same r) in
        let load = load_ext tb before (above p r) (above p' r) (λ j g. ap (λ k. ltb k r) (same j g).0) in
        rw (← (same i l).0, ← (same i l).1)
        (response_alike tb (above p r) (above p' r) (blocking tb p r) (blocking tb p' r) i (p.len i) R pos l low high
        (λ t _. omega (arith, load t)) x)
