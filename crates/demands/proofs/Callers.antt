-- Demand 3 in the caller's words, proved.
use Prim.Native.Nat.{ℕ, ◌+◌, ◌≤◌, ◌<◌}
use mathlib.Core.Path.{◌≡◌, refl}
use mathlib.Core.Logic.{⊎_elim}
use mathlib.Core.List.{List}
use native.Mathlib.Omega.{arith}
use lib.ListN.{get_or}
use Rattle.tables.specs.Table.{table_of}
use Rattle.tables.specs.Plan.{Plan, plan_of}
use Rattle.tables.specs.Jobs.{jobs_of}
use Rattle.tables.specs.Refusal.{Result}
use Rattle.test.specs.Test.{ResponseOf}
use Rattle.test.specs.Answers.{time_in}
use Rattle.choice.specs.Answers.{response_in}
use Rattle.kernel.specs.Answers.{PlayAnswer}
use Rattle.kernel.proofs.Finishing.{finish_least}
use Rattle.bounds.proofs.Upper.{in_time}
use Rattle.demands.specs.Callers.{TimesAreExact, PlanIsExact, VerdictDecides, TimesHoldInPlay, PlanHoldsInPlay}
use Rattle.demands.specs.Callers.{VerdictHoldsInPlay}
use Rattle.demands.specs.Demand3.{NeverLonger, TakesExactly}
use Rattle.demands.proofs.Gave.{Gave, PlayGave, plan_gave, times_gave, verdict_gave, play_gave}
use Rattle.demands.proofs.Demand2.{columns_response}
use Rattle.demands.proofs.Demand3.{no_job_takes_longer, some_job_takes_exactly, passing_meets, the_test_decides}

-- a response that was given is exact
exact : {xs : List ℕ} {p : Plan} {Given : ℕ → List ℕ → Type 0} {r : Result} → Gave xs p Given r → (i R : ℕ) →
    i < (table_of xs).n → ResponseOf (table_of xs) p i R → NeverLonger (table_of xs) p i R × TakesExactly (table_of xs) p i R
exact {xs} {p} g i R l x =
    let sound = g.table.sound in (
      no_job_takes_longer (table_of xs) sound p g.plan i R l x,
      some_job_takes_exactly (table_of xs) sound p g.plan i R l x,
    )

pub times_are_exact : TimesAreExact
times_are_exact xs ps out r a zero i l =
    let g = times_gave xs ps out r a zero in exact g i (time_in r.out i) l (g.given.responses i l)

pub plan_is_exact : PlanIsExact
plan_is_exact xs out r a zero i l =
    let g = plan_gave xs out r a zero in exact g i (response_in r.out i) l (g.given.responses i l)

pub verdict_decides : VerdictDecides
verdict_decides xs ps r a zero =
    let tb = table_of xs in
    let p = plan_of ps in
    let g = verdict_gave xs ps r a zero in
    let sound = g.table.sound in (
      λ yes. ⊎_elim (λ said. passing_meets tb sound p g.plan said.1) (λ said. absurd (omega (arith, said.0)))
          g.given.said,
      λ meets.
          ⊎_elim (λ said. said.0)
          (λ said. absurd (g.busy 0 (refl, λ busy. said.1 ((the_test_decides tb sound busy p g.plan).needs meets))))
          g.given.said,
    )

-- where play answered with 0, a finish that it wrote is no later than release plus any response of the row
module _ (xs ps js out : List ℕ) (play : Result) (a : PlayAnswer xs ps js out play) (zero : play.number ≡ 0) (k : ℕ)
    (l : k < (jobs_of js).N) where
  abbrev i : ℕ
  i = (jobs_of js).row k

  y : PlayGave xs ps js out play
  y = play_gave xs ps js out play a zero

  row : i < (table_of xs).n
  row = y.jobs.row k l

  in_play : (R : ℕ) → ResponseOf (table_of xs) (plan_of ps) i R → get_or play.out k 0 ≤ (jobs_of js).release k + R
  in_play R x =
      let tb = table_of xs in
      let p = plan_of ps in
      let J = jobs_of js in
      finish_least tb p J k (get_or play.out k 0) (J.release k + R) (y.given.finishes k l)
      (omega (arith, in_time tb y.table.sound p y.plan J y.jobs k l R x))

pub times_hold_in_play : TimesHoldInPlay
times_hold_in_play xs ps js lent out times play ta tz a z k l =
    in_play xs ps js out play a z k l (time_in times.out ((jobs_of js).row k))
    ((times_gave xs ps lent times ta tz).given.responses ((jobs_of js).row k) (row xs ps js out play a z k l))

pub plan_holds_in_play : PlanHoldsInPlay
plan_holds_in_play xs ps js lent out plan play la lz same a z k l =
    let g = plan_gave xs lent plan la lz in
    let i = (jobs_of js).row k in
    let R = response_in plan.out i in
    in_play xs ps js out play a z k l R
    (columns_response xs lent plan g ps same i R (row xs ps js out play a z k l)
    (g.given.responses i (row xs ps js out play a z k l)))

pub verdict_holds_in_play : VerdictHoldsInPlay
verdict_holds_in_play xs ps js out verdict play va vz one a z k l =
    ⊎_elim
    (λ yes.
    let x = yes.1 ((jobs_of js).row k) (row xs ps js out play a z k l) in
    omega (arith, x.within, in_play xs ps js out play a z k l x.R x.response))
    (λ no. absurd (omega (arith, no.0)))
    (verdict_gave xs ps verdict va vz).given.said
