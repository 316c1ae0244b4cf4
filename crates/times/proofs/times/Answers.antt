-- `times` meets its contract: the checks 1, 3, 6, 2 and 4 in this order, then the responses.
use Prim.Native.Nat.{ℕ}
use mathlib.Core.List.{List, [], ◌∷◌}
use Rattle.std.proofs.lemmas.Result.{err_from_is_err_and}
use Rattle.tables.proofs.Answered.{◌past◌}
use Rattle.tables.proofs.Front.{front_refuses, rest_answers, room_refuses, room_clear}
use Rattle.tables.specs.Table.{Table}
use Rattle.tables.specs.Plan.{plan_of}
use Rattle.tables.specs.Refusal.{Result, bare, Answered}
use Rattle.tables.specs.inside.Rows.{table_in}
use Rattle.test.specs.Answers.{no_busy, TimesAnswer, TimesGiven, times_rest}
use Rattle.times.proofs.Answers.{times_given}
use Rattle.times.proofs.Busy.{busy_clear}
use Rattle.times.proofs.times.Goals as goal
use Rattle.times.proofs.times.Goals.{In_ok-tasks}

-- times, after the checks 1 and 3
abbrev TimesRest : List ℕ → List ℕ → Table → Result → Type 0
TimesRest ps out tb r = Answered bare (times_rest ps out tb) (TimesGiven tb (plan_of ps) out) out r

-- an answer for the table of the rows is the operation's
over : (c : In_ok-tasks) {r : Result} →
    TimesRest c.args.plan.now c.args.out.now (table_in c.in_ok-tasks.tasks.rows c.in_ok-tasks.tasks.n) r →
    TimesAnswer c.args.table.now c.args.plan.now c.args.out.now r
over c =
    rest_answers c.args.table.now c.args.out.now c.in_ok-tasks.tasks c.in_ok-tasks.ensures
    (TimesRest c.args.plan.now c.args.out.now)

pub returns-then-out-places : goal.returns-then-out-places
returns-then-out-places c =
    over (goal.at.returns-then-out-places c).In_ok-tasks
    (c.in_ok-check_plan.ensures past room_refuses _ _ c.if-out-places.true)

pub returns-in_err-times : goal.returns-in_err-times
returns-in_err-times c =
    let t = c.in_ok-tasks.tasks in
    let p = err_from_is_err_and c.from_residual-in_err-times.result c.from_residual-in_err-times.ensures.1 in
    rw (p.1, p.2)
    (over (goal.at.returns-in_err-times c).In_ok-tasks
    (c.in_ok-check_plan.ensures past room_clear _ _ c.if-out-places.false
    past front_refuses (no_busy (table_in t.rows t.n) ∷ []) c.args.out.now _ _ c.in_err-times.ensures))

pub returns : goal.returns
returns c =
    let w = c.in_ok-times.ensures in
    over (goal.at.returns c).In_ok-tasks
    (c.in_ok-check_plan.ensures past room_clear _ _ c.if-out-places.false past busy_clear w.0.busy
    past times_given w.0 w.1 c.write.ensures)
