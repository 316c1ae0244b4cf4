-- The loop's invariant is `Playing`: how play stands at tick t; its measure is the turns that may still come.
use Rattle.tables.specs.Plan.{plan_of}
use Rattle.tables.specs.Jobs.{jobs_of}
use Rattle.tables.specs.inside.Rows.{table_in}
use Rattle.play.proofs.Standing.{Next}
use Rattle.play.proofs.Turn.{Playing, turns}
use Rattle.play.proofs.finish_all.Given as goal

abbrev pub invariant-loop-t : goal.invariant-loop-t
invariant-loop-t l =
    Playing (table_in l.ruled.tasks.now.rows l.ruled.tasks.now.n) (plan_of l.ruled.plan.now) (jobs_of l.jobs)
    l.initial.out l.t l.heads l.out
    × Next (jobs_of l.jobs) l.t l.next

abbrev pub decreases-loop-t : goal.decreases-loop-t
decreases-loop-t l = turns (jobs_of l.jobs) l.heads l.next
