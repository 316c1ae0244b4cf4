-- Any two answers that the promise of `plan` allows are equal.
use Prim.Native.Nat.{ℕ, ◌+◌, ◌*◌, ◌/◌, ◌<◌}
use mathlib.Core.Path.{◌≡◌, sym, ◌∙◌}
use mathlib.Core.List.{List}
use native.Mathlib.Omega.{arith}
use lib.ListN.{get_or}
use lib.Seq.{ext_get_or}
use Rattle.counting.proofs.Cases.{by_le, by_eq}
use Rattle.tables.specs.Table.{Table, table_of}
use Rattle.tables.specs.Refusal.{Result}
use Rattle.tables.proofs.Answered.{OnePlace, bare_one, answered_unique, same_rest, shape_place, range_place, room_place}
use Rattle.tables.proofs.Clear.{sound_of_clear}
use Rattle.test.proofs.Load.{Positive, sound_positive}
use Rattle.test.proofs.Response.{response_unique}
use Rattle.times.proofs.Unique.{no_busy_place}
use Rattle.choice.specs.Answers.{planned_width, planned_of, response_in, no_plan, PlanGiven, plan_checks, PlanAnswer}
use Rattle.choice.proofs.Filled.{Same, chosen_unique}
use Rattle.plan.proofs.Answers.{response_plans}

no_plan_place : (tb : Table) → OnePlace (no_plan tb)
no_plan_place tb a b h g = h.0 ∙ sym g.0

module _ (tb : Table) (out : List ℕ) (pos : Positive tb) (v w : ℕ) (l m : List ℕ) (a : PlanGiven tb out v l)
    (b : PlanGiven tb out w m) where
  same_plan : Same tb (planned_of l) (planned_of m)
  same_plan = chosen_unique tb (planned_of l) (planned_of m) pos a.chosen b.chosen

  same_response : (i : ℕ) → i < tb.n → response_in l i ≡ response_in m i
  same_response i h =
      response_unique tb _ _ i _ (response_in l i) (response_in m i)
      (response_plans (planned_of l) (planned_of m) same_plan h (a.responses i h)) (b.responses i h)

  -- a number of the planned rows is a rank, a length or a response
  same_front : (k : ℕ) → k < planned_width * tb.n → get_or l k 0 ≡ get_or m k 0
  same_front k h =
      let i = k / planned_width in
      let g : i < tb.n = omega arith in
      by_eq k (planned_width * i)
      (λ e. rw e (same_plan i g).0)
      (λ c.
      by_eq k (planned_width * i + 1)
      (λ e. rw e (same_plan i g).1)
      (λ d. let e : k ≡ planned_width * i + 2 = omega arith in rw e (same_response i g)))

  plan_given_one : (v ≡ w) × (l ≡ m)
  plan_given_one = (
    a.many ∙ sym b.many,
    ext_get_or 0 l m (a.whole ∙ sym b.whole)
        (λ k _. by_le (planned_width * tb.n) k
        (λ h. same_rest (planned_width * tb.n) l m (a.rest ∙ sym b.rest) k h)
        (λ h. same_front k h)),
  )

pub plan_unique : (xs out : List ℕ) (r s : Result) → PlanAnswer xs out r → PlanAnswer xs out s → r ≡ s
plan_unique xs out r s =
    let tb = table_of xs in
    answered_unique bare_one (plan_checks xs out) (PlanGiven tb out) out r s
    (search (shape_place, range_place, room_place, no_busy_place, no_plan_place, tt))
    (λ clear. plan_given_one tb out (sound_positive tb (sound_of_clear xs clear.0 clear.1.0)))
