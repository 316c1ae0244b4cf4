-- `finish_all` meets its contract: each turn of the loop is one decision, or goes on to the next release.
use Prim.Native.Nat.{ℕ, ◌≤◌}
use native.Mathlib.Omega.{arith}
use lib.ListN.{length, take}
use Rattle.std.proofs.Common.{None}
use Rattle.tables.specs.Plan.{plan_of}
use Rattle.tables.specs.Jobs.{jobs_of}
use Rattle.tables.specs.inside.Rows.{table_in}
use Rattle.decision.specs.inside.Decision.{FirstWaiting, Foremost}
use Rattle.play.proofs.Standing.{next_on}
use Rattle.play.proofs.Turn.{at, Playing, Gained, Idle, Decided, starts, idle, decided, turns_fall}
use Rattle.play.proofs.finish_all.Goals as goal
use Rattle.play.proofs.finish_all.Goals.{After-foremost, After-released-next-in-loop-t}
use Rattle.play.proofs.finish_all.Goals.{in-None+else-many-next, in-Some+then-e-d, in-Some+else-e-d}

pub loop-t-init : goal.loop-t-init
loop-t-init c =
    let ruled = c.args.ruled.now in
    starts (table_in ruled.tasks.now.rows ruled.tasks.now.n) (plan_of ruled.plan.now) (jobs_of c.args.jobs.now)
    ruled.tasks.now.sound ruled.formed c.requires.0 c.args.out.now c.first_jobs-heads.result c.released-next.result
    c.first_jobs-heads.ensures c.released-next.ensures

-- no row waits
idles : (c : After-foremost) →
    let ruled = c.args.ruled.now in
    let l = c.loop-t in
    Foremost (take ruled.tasks.now.n c.by_rank-order.result) l.heads l.next None →
    Idle (table_in ruled.tasks.now.rows ruled.tasks.now.n) (plan_of ruled.plan.now) (jobs_of c.args.jobs.now)
    c.args.out.now l.t l.next l.heads l.out
idles c =
    let ruled = c.args.ruled.now in
    let l = c.loop-t in
    idle (table_in ruled.tasks.now.rows ruled.tasks.now.n) (plan_of ruled.plan.now) (jobs_of c.args.jobs.now)
    ruled.tasks.now.sound ruled.formed c.requires.0 c.args.out.now l.t l.next l.heads l.out l.invariant.1
    l.invariant.0 c.by_rank-order.result c.by_rank-order.ensures

-- the row at place r of the rows by rank is the first that waits
runs : (c : After-foremost) →
    let ruled = c.args.ruled.now in
    let l = c.loop-t in
    (r : ℕ) → FirstWaiting (take ruled.tasks.now.n c.by_rank-order.result) l.heads l.next r →
    Decided (table_in ruled.tasks.now.rows ruled.tasks.now.n) (plan_of ruled.plan.now) (jobs_of c.args.jobs.now)
    c.args.out.now l.t l.next l.heads l.out (at c.by_rank-order.result r)
runs c =
    let ruled = c.args.ruled.now in
    let l = c.loop-t in
    decided (table_in ruled.tasks.now.rows ruled.tasks.now.n) (plan_of ruled.plan.now) (jobs_of c.args.jobs.now)
    ruled.tasks.now.sound ruled.formed c.requires.0 c.args.out.now l.t l.next l.heads l.out l.invariant.1
    l.invariant.0 c.by_rank-order.result c.by_rank-order.ensures

pub returns-then-many-next : goal.returns-then-many-next
returns-then-many-next c =
    (idles (goal.at.returns-then-many-next c).After-foremost c.in-None.ensures).over c.if-many-next.true

pub invariant_of-job : goal.invariant_of-job
invariant_of-job c =
    let running = (runs (goal.at.invariant_of-job c).After-foremost c.in-Some.r c.in-Some.ensures).runs in
    record { small = running.small; left = running.left }

pub overflow_add-t-in-Some : goal.overflow_add-t-in-Some
overflow_add-t-in-Some c =
    let running = (runs (goal.at.overflow_add-t-in-Some c).After-foremost c.in-Some.r c.in-Some.ensures).runs in
    omega (arith, running, c.stretch-d.ensures)

-- after the turn
turned : (c : After-released-next-in-loop-t) →
    let ruled = c.args.ruled.now in
    let m = c.match-foremost in
    Playing (table_in ruled.tasks.now.rows ruled.tasks.now.n) (plan_of ruled.plan.now) (jobs_of c.args.jobs.now)
    c.args.out.now m.t m.heads m.out
    × Gained (jobs_of c.args.jobs.now) c.loop-t.next c.loop-t.t m.t c.loop-t.heads m.heads
turned c =
    let q = (goal.at.loop-t-smaller c).After-foremost in
    let l = c.loop-t in
    let room : (jobs_of c.args.jobs.now).N ≤ length l.out = omega (arith, c.requires.1, l.invariant.0.whole) in
    elim c.match-foremost.branch [
      | in-None+else-many-next w ↦
          rw (w.t-is, w.heads-is, w.out-is) ((idles q w.in-None.ensures).idles w.if-many-next.false)
      | in-Some+then-e-d w ↦
          let row = runs q w.in-Some.r w.in-Some.ensures in
          rw (w.t-is, w.heads-is, w.out-is) (row.goes_on w.stretch-d.result w.stretch-d.ensures w.if-e-d.true)
      | in-Some+else-e-d w ↦
          let row = runs q w.in-Some.r w.in-Some.ensures in
          rw (w.t-is, w.heads-is, w.out-is)
          (row.finishes w.stretch-d.result w.following.result w.stretch-d.ensures w.if-e-d.false room w.following.ensures)
    ]

pub loop-t-smaller : goal.loop-t-smaller
loop-t-smaller c =
    let l = c.loop-t in
    turns_fall _ l.next l.t _ _ l.heads _
    (turned (goal.at.loop-t-smaller c).After-released-next-in-loop-t).1
    c.released-next-in-loop-t.ensures

pub loop-t-preserved : goal.loop-t-preserved
loop-t-preserved c =
    let ruled = c.args.ruled.now in
    let d = turned (goal.at.loop-t-preserved c).After-released-next-in-loop-t in
    let came = c.loop-t.invariant.1.came in (
      d.0,
      next_on (table_in ruled.tasks.now.rows ruled.tasks.now.n) (jobs_of c.args.jobs.now) c.requires.0 _ _ _ _ d.1.later came
          c.released-next-in-loop-t.ensures,
    )
