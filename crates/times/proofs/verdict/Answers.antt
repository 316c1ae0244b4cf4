-- `verdict` meets its contract: the checks 1, 3, 6 and 4 in this order, then the responses against the deadlines.
use Prim.Native.Nat.{ℕ}
use mathlib.Core.List.{List, [], ◌∷◌}
use Rattle.std.proofs.lemmas.Result.{err_from_is_err_and}
use Rattle.tables.proofs.Answered.{◌past◌}
use Rattle.tables.proofs.Front.{front_refuses, rest_answers}
use Rattle.tables.specs.inside.Rows.{table_in}
use Rattle.tables.specs.Table.{Table}
use Rattle.tables.specs.Plan.{plan_of}
use Rattle.tables.specs.Refusal.{Result, bare, Answered}
use Rattle.test.specs.Answers.{no_busy, VerdictAnswer, VerdictGiven, verdict_rest}
use Rattle.times.proofs.Answers.{verdict_given}
use Rattle.times.proofs.Busy.{busy_clear}
use Rattle.times.proofs.verdict.Goals as goal
use Rattle.times.proofs.verdict.Goals.{In_ok-tasks}

-- verdict, after the checks 1 and 3
abbrev VerdictRest : List ℕ → Table → Result → Type 0
VerdictRest ps tb r = Answered bare (verdict_rest ps tb) (VerdictGiven tb (plan_of ps)) [] r

-- an answer for the table of the rows is the operation's
over : (c : In_ok-tasks) {r : Result} →
    VerdictRest c.args.plan.now (table_in c.in_ok-tasks.tasks.rows c.in_ok-tasks.tasks.n) r →
    VerdictAnswer c.args.table.now c.args.plan.now r
over c = rest_answers c.args.table.now [] c.in_ok-tasks.tasks c.in_ok-tasks.ensures (VerdictRest c.args.plan.now)

pub returns-in_err-times : goal.returns-in_err-times
returns-in_err-times c =
    let t = c.in_ok-tasks.tasks in
    let p = err_from_is_err_and c.from_residual-in_err-times.result c.from_residual-in_err-times.ensures.1 in
    rw (p.1, p.2)
    (over (goal.at.returns-in_err-times c).In_ok-tasks
    (c.in_ok-check_plan.ensures
    past front_refuses (no_busy (table_in t.rows t.n) ∷ []) [] _ _ c.in_err-times.ensures))

pub returns : goal.returns
returns c =
    let w = c.in_ok-times.ensures in
    over (goal.at.returns c).In_ok-tasks
    (c.in_ok-check_plan.ensures past busy_clear w.0.busy
    past verdict_given w.1 c.from.result c.in_time.result c.from.ensures c.in_time.ensures)
