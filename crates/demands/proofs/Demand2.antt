-- Demand 2 is met: the theorems of the statements in specs/Demand2.antt.
use Prim.Native.Nat.{ℕ, ◌<◌}
use mathlib.Core.Path.{◌≡◌, sym, ◌∙◌}
use mathlib.Core.Logic.{⊎_elim}
use mathlib.Core.List.{List}
use native.Mathlib.Omega.{arith}
use Rattle.tables.specs.Table.{Table, table_of}
use Rattle.tables.specs.Plan.{Plan, plan_of}
use Rattle.tables.specs.Refusal.{Result}
use Rattle.tables.proofs.Answered.{beyond}
use Rattle.tables.proofs.Plan.{cap_run}
use Rattle.tables.proofs.Clear.{clear_of_sound, plan_of_clear, clear_of_plan}
use Rattle.test.specs.Test.{horizon, BusyWithin, ResponseOf, Passes}
use Rattle.test.specs.Answers.{Bounded, time_in}
use Rattle.test.proofs.Load.{Positive, sound_positive}
use Rattle.test.proofs.Response.{response_unique}
use Rattle.test.proofs.Plans.{plan_alike, plan_bounded}
use Rattle.choice.specs.Choice.{Stopped}
use Rattle.choice.specs.Answers.{planned_of, response_in}
use Rattle.choice.proofs.Complete.{chosen_passes, chosen_shortest, stopped_no_plan}
use Rattle.demands.specs.Demand2.{TimesAreTheTests, PlannedAreTheTests, Accepted, RefusedExactlyIfNonePasses}
use Rattle.demands.specs.Demand2.{TestsResponse, Given, ShortestAtEachRank, Columns, Agrees}
use Rattle.demands.specs.Demand2.{PlanTimesVerdictAgree}
use Rattle.demands.proofs.Gave.{Gave, PlanGave, plan_gave, times_gave, under_busy}
use Rattle.demands.proofs.Columns.{columns_exist}

-- a response that was given is the test's
tests_response : {xs : List ℕ} {p : Plan} {Given : ℕ → List ℕ → Type 0} {r : Result} → Gave xs p Given r → (i R : ℕ) →
    i < (table_of xs).n → ResponseOf (table_of xs) p i R → TestsResponse (table_of xs) p i R
tests_response {xs} {p} g i R l x =
    let tb = table_of xs in
    let bounded : BusyWithin tb → Bounded tb p i R = λ busy.
    plan_bounded tb g.table.sound busy p g.plan i l R x in
    record {
      is = x;
      only = λ S y. response_unique tb _ _ i _ S R y x;
      low = under_busy xs g.busy (tb.C i) R (λ busy. (bounded busy).low);
      high = under_busy xs g.busy R horizon (λ busy. (bounded busy).high);
    }

-- the response times are those of the test
pub times_are_the_tests : TimesAreTheTests
times_are_the_tests xs ps out r a zero i l =
    let g = times_gave xs ps out r a zero in tests_response g i (time_in r.out i) l (g.given.responses i l)

pub planned_are_the_tests : PlannedAreTheTests
planned_are_the_tests xs out r a zero i l =
    let g = plan_gave xs out r a zero in tests_response g i (response_in r.out i) l (g.given.responses i l)

module _ (xs out : List ℕ) (r : Result) (done : PlanGave xs out r) where
  abbrev tb : Table
  tb = table_of xs

  abbrev p : Plan
  p = planned_of r.out

  pos : Positive tb
  pos = sound_positive tb done.table.sound

  passes : Passes tb p
  passes = chosen_passes tb pos p done.given.chosen

  -- a given plan is well formed, passes, and has the shortest regions
  given_of : Given tb p
  given_of =
      record {
        well_formed = done.plan;
        passes = passes;
        shortest = chosen_shortest tb pos p done.given.chosen;
      }

  -- the columns of a planned table are a well-formed plan with the same responses, and pass
  module _ (ps : List ℕ) (c : Columns tb r.out ps) where
    columns_accepted : Accepted xs ps
    columns_accepted =
        let w = done.plan in
        clear_of_plan tb ps c.whole
        (record {
          rank_low = λ i l. omega (arith, c.rank i l, w.rank_low i l);
          rank_high = λ i l. omega (arith, c.rank i l, w.rank_high i l);
          once = λ i j l m e. w.once i j l m (c.rank i l ∙ e ∙ sym (c.rank j m));
          len_low = λ i l. omega (arith, c.len i l, w.len_low i l);
          len_high = λ i l. omega (arith, c.len i l, w.len_high i l);
        })

    pub columns_response : (i R : ℕ) → i < tb.n → ResponseOf tb p i R → ResponseOf tb (plan_of ps) i R
    columns_response i R l x =
        plan_alike tb p (plan_of ps) (λ j m. (c.rank j m, c.len j m)) i R pos l (done.plan.len_low i l)
        (cap_run tb i (done.plan.len_high i l)) x

    columns_pass : Passes tb (plan_of ps)
    columns_pass i l =
        let x = passes i l in
        record { R = x.R; response = columns_response i x.R l x.response; within = x.within }

    -- so times and verdict answer for them, past every check
    agrees : Agrees xs ps r.out
    agrees =
        let t = done.table in
        record {
          accepted = columns_accepted;
          times =
              λ lent s enough a.
              let room = beyond columns_accepted (beyond t.ranged (beyond t.shaped a)) in
              let g = beyond done.busy (beyond (λ place h. omega (arith, h.1)) room) in (
                g.number,
                λ i l. response_unique tb _ _ i _ _ _ (g.given.responses i l)
                    (columns_response i (response_in r.out i) l (done.given.responses i l)),
              );
          verdict =
              λ s a.
              let g = beyond done.busy (beyond columns_accepted (beyond t.ranged (beyond t.shaped a))) in
              (g.number, ⊎_elim (λ yes. yes.0) (λ no. absurd (no.1 columns_pass)) g.given.said);
        }

pub shortest_at_each_rank : ShortestAtEachRank
shortest_at_each_rank xs out r a zero = given_of xs out r (plan_gave xs out r a zero)

-- Complete
pub refused_exactly_if_none_passes : RefusedExactlyIfNonePasses
refused_exactly_if_none_passes xs out r able a = (
  λ five ps ok passes.
      cases
      (λ _ s. stopped_no_plan tb (sound_positive tb able.sound) s (plan_of ps) (plan_of_clear tb ps ok).1 passes)
      (λ zero. omega arith),
  λ none.
      cases (λ five _. five)
      (λ zero.
      let done = plan_gave xs out r a zero in
      let c = columns_exist tb r.out in
      absurd (none c.0 (columns_accepted xs out r done c.0 c.1) (columns_pass xs out r done c.0 c.1))),
)
  where
    tb : Table
    tb = table_of xs

    -- past the checks that the assumptions rule out: stopped, or given
    cases : {X : Type 0} → (r.number ≡ 5 → Stopped tb → X) → (r.number ≡ 0 → X) → X
    cases f g =
        let clear = clear_of_sound xs able.whole able.sound in
        let room = beyond clear.1 (beyond clear.0 a) in
        let busy = beyond (λ place h. omega (arith, h.1, able.room)) room in
        ⊎_elim (λ w. f w.number w.place.1) (λ w. g w.1.number) (beyond (λ place h. h.1 able.busy) busy)

-- Together
pub plan_times_verdict_agree : PlanTimesVerdictAgree
plan_times_verdict_agree xs out r a zero =
    (columns_exist (table_of xs) r.out, agrees xs out r (plan_gave xs out r a zero))
