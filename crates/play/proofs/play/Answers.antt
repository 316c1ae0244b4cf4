-- `play` meets its contract: the checks in their order, then what `finish_all` gives.
use Prim.Native.Nat.{ℕ, ◌≤◌, ◌<◌}
use mathlib.Core.Path.{◌≡◌, refl, subst}
use mathlib.Core.List.{List, [], ◌∷◌}
use native.Mathlib.Omega.{arith}
use lib.ListN.{length, take}
use Rattle.std.proofs.Common.{Result, Ok, Err, rules}
use Rattle.tables.specs.Jobs.{jobs_of}
use Rattle.tables.specs.Checks.{jobs_shape, job_rules}
use Rattle.tables.specs.Answer.{result_of}
use Rattle.tables.specs.inside.Rows.{table_in}
use Rattle.tables.proofs.Clear.{plan_of_clear, jobs_of_clear}
use Rattle.tables.proofs.Answered.{◌past◌}
use Rattle.tables.proofs.Front.{Front, front_refuses, rest_answers, room_refuses, room_clear}
use Rattle.tables.specs.Table.{Table}
use Rattle.tables.specs.Refusal.{Result as Called}
use Rattle.kernel.specs.Answers.{PlayAnswer}
use Rattle.tables.specs.declared.answer.Refusal.{Refusal}
use Rattle.tables.specs.declared.task.Tasks.{Tasks}
use Rattle.tables.specs.inside.Checked.{Holds}
use Rattle.tables.proofs.Rows.{table_front}
use Rattle.joblist.specs.inside.Listed.{ListSaid}
use Rattle.play.specs.inside.Rest.{PlayRest}
use Rattle.play.proofs.play.Goals as goal
use Rattle.play.proofs.play.Goals.{In_ok-tasks, In_ok-many}

-- a refusal of the check of the job list answers
list_refuses : (tb : Table) (js out : List ℕ) (r : Refusal) {X : Type 0} → ListSaid tb js (Err r) →
    Front (jobs_shape js ∷ job_rules tb js ∷ []) out (result_of (Err r) out) X
list_refuses tb js out r {X} = front_refuses (jobs_shape js ∷ job_rules tb js ∷ []) out r X

-- what is said of the list against the rows is said of it against the table
listed : (tasks : Tasks) (xs js : List ℕ) (a : Result ℕ Refusal) → Holds xs tasks →
    ListSaid (table_in (take tasks.n tasks.rows) (length (take tasks.n tasks.rows))) js a →
    ListSaid (table_in tasks.rows tasks.n) js a
listed tasks xs js a h =
    subst (λ tb. ListSaid tb js a) (table_front tasks.rows xs tasks.n tasks.sound h.whole h.same)

-- an answer for the table of the rows is the operation's
over : (c : In_ok-tasks) {r : Called} →
    PlayRest c.args.plan.now c.args.jobs.now c.args.out.now (table_in c.in_ok-tasks.tasks.rows c.in_ok-tasks.tasks.n) r →
    PlayAnswer c.args.table.now c.args.plan.now c.args.jobs.now c.args.out.now r
over c =
    rest_answers c.args.table.now c.args.out.now c.in_ok-tasks.tasks c.in_ok-tasks.ensures
    (PlayRest c.args.plan.now c.args.jobs.now c.args.out.now)

-- the list of a clear check
heard : (c : In_ok-many) → ListSaid (table_in c.in_ok-tasks.tasks.rows c.in_ok-tasks.tasks.n) c.args.jobs.now
    (Ok c.in_ok-many.many)
heard c = listed c.in_ok-tasks.tasks _ _ (Ok c.in_ok-many.many) c.in_ok-tasks.ensures.1 c.in_ok-many.ensures

pub returns-in_err-many : goal.returns-in_err-many
returns-in_err-many c =
    let tasks = c.in_ok-tasks.tasks in
    let handed : c.from_residual-in_err-many.result ≡ Err c.in_err-many.field-0.0 = search rules in
    over (goal.at.returns-in_err-many c).In_ok-tasks
    (c.in_ok-check_plan.ensures past rw handed (list_refuses (table_in tasks.rows tasks.n) c.args.jobs.now _ _
    (listed tasks _ c.args.jobs.now (Err c.in_err-many.field-0.0) c.in_ok-tasks.ensures.1 c.in_err-many.ensures)))

pub returns-then-out-many : goal.returns-then-out-many
returns-then-out-many c =
    let many = heard (goal.at.returns-then-out-many c).In_ok-many in
    let short : length c.args.out.now < (jobs_of c.args.jobs.now).N = omega (arith, many.0, c.if-out-many.true) in
    over (goal.at.returns-then-out-many c).In_ok-tasks
    (c.in_ok-check_plan.ensures past many.1.0 past many.1.1.0 past room_refuses _ _ short)

pub invariant_of-ruled : goal.invariant_of-ruled
invariant_of-ruled c =
    let p = plan_of_clear (table_in c.in_ok-tasks.tasks.rows c.in_ok-tasks.tasks.n) c.args.plan.now c.in_ok-check_plan.ensures in
    record { whole = p.0; formed = p.1 }

pub finish_all-requires : goal.finish_all-requires
finish_all-requires c =
    let many = heard (goal.at.finish_all-requires c).In_ok-many in (
      jobs_of_clear (table_in c.in_ok-tasks.tasks.rows c.in_ok-tasks.tasks.n) c.args.jobs.now many.1.0 many.1.1.0,
      omega (arith, many.0, c.if-out-many.false),
    )

pub returns : goal.returns
returns c =
    let many = heard (goal.at.returns c).In_ok-many in
    let room : (jobs_of c.args.jobs.now).N ≤ length c.args.out.now = omega (arith, many.0, c.if-out-many.false) in
    over (goal.at.returns c).In_ok-tasks
    (c.in_ok-check_plan.ensures past many.1.0 past many.1.1.0 past room_clear _ _ room
    past record { number = refl; place = refl; given = rw many.0 c.finish_all.ensures })
