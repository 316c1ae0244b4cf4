-- What `plan` gives, once the checks are clear, from what the filling says.
use Prim.Native.Nat.{ℕ, ◌+◌, ◌*◌, ◌≤◌, ◌<◌}
use mathlib.Core.Path.{◌≡◌, refl, sym, ap}
use mathlib.Core.Logic.{◌⊎◌, inl}
use mathlib.Core.List.{List, ◌++◌}
use native.Mathlib.Omega.{arith}
use lib.Dec.{ltb}
use lib.ListN.{length, drop}
use Rattle.tables.specs.Table.{Table, Sound}
use Rattle.tables.specs.Plan.{Plan, plan_of}
use Rattle.tables.specs.Refusal.{Clear, bare, Refused, Granted}
use Rattle.tables.specs.Answer.{result_of}
use Rattle.std.proofs.Common.{Ok, Err}
use Rattle.tables.specs.declared.answer.Refusal.TheVariants.{NoPlan}
use Rattle.tables.proofs.Result.{refuse}
use Rattle.test.specs.Test.{ResponseOf}
use Rattle.test.proofs.Load.{sound_positive}
use Rattle.responses.specs.inside.Asked.{Responses}
use Rattle.responses.proofs.Same.{response_same}
use Rattle.choice.specs.Choice.{Chosen, Stopped}
use Rattle.choice.specs.Answers.{planned_width, planned_of, no_plan, PlanGiven}
use Rattle.choice.proofs.Filled.{Same, same_agree, agree_alike, filled_same, chosen_not_stopped}
use Rattle.planned.specs.inside.Planned.{planned}
use Rattle.planned.proofs.Written.{written_whole, written_rest, written_at}

-- the responses of plans that have the same ranks and lengths
pub response_plans : {tb : Table} (p p' : Plan) {i R : ℕ} → Same tb p p' → i < tb.n → ResponseOf tb p i R →
    ResponseOf tb p' i R
response_plans {tb} p p' {i} same l r =
    let s = p.rank i in
    rw (← (same i l).0, ← (same i l).1)
    (response_same (λ j g. ap (λ x. ltb x s) (same j g).0)
    (agree_alike tb p p' s (same_agree tb p p' s same)).blocking r)

pub stopped_refuses : {X : Type 0} {tb : Table} (out : List ℕ) → Stopped tb →
    Refused bare (no_plan tb) out (result_of (Err NoPlan) out) ⊎ X
stopped_refuses {X} {tb} out s = inl (refuse (no_plan tb) out NoPlan refl (refl, s))

module _ {tb : Table} (sound : Sound tb) (plan times out : List ℕ) (chosen : Chosen tb (plan_of plan)) where
  pub chosen_clear : Clear (no_plan tb)
  chosen_clear place h = chosen_not_stopped tb (plan_of plan) (sound_positive tb sound) chosen h.1

  -- the planned table
  module _ (fits : planned_width * tb.n ≤ length out) (rights : Responses tb (plan_of plan) times) where
    abbrev after : List ℕ
    after = planned plan times tb.n ++ drop (planned_width * tb.n) out

    written_same : Same tb (plan_of plan) (planned_of after)
    written_same j l =
        let e : planned_width * j ≡ planned_width * j + 0 = omega arith in (
          sym (rw e (written_at plan times tb.n out fits j 0 l (omega arith))),
          sym (written_at plan times tb.n out fits j 1 l (omega arith)),
        )

    given : PlanGiven tb out (planned_width * tb.n) after
    given =
        record {
          many = refl;
          chosen = filled_same tb (plan_of plan) (planned_of after) 0 (sound_positive tb sound) written_same chosen;
          responses = λ i l. rw (written_at plan times tb.n out fits i 2 l (omega arith))
              (response_plans (plan_of plan) (planned_of after) written_same l (rights.each i l));
          whole = written_whole plan times tb.n out fits;
          rest = written_rest plan times tb.n out fits;
        }

    pub plan_given : Granted (PlanGiven tb out) (result_of (Ok (planned_width * tb.n)) after)
    plan_given = record { number = refl; place = refl; given = given }
