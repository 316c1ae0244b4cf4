-- The loop's invariant is `Walked`: no job before k is at fault, and what the walk keeps of them shows a fault of
-- job k.
use Prim.Native.Nat.{◌≤◌, ◌-◌}
use lib.ListN.{length}
use Rattle.tables.specs.inside.Rows.{table_in}
use Rattle.tables.specs.Jobs.{jobs_of}
use Rattle.joblist.proofs.Walk.{Walked}
use Rattle.joblist.proofs.check_jobs.Given as goal

abbrev pub invariant-loop-k : goal.invariant-loop-k
invariant-loop-k l = (l.k ≤ l.many) × Walked (table_in l.rows (length l.rows)) (jobs_of l.jobs) l.k l.last l.earliest

abbrev pub decreases-loop-k : goal.decreases-loop-k
decreases-loop-k l = l.many - l.k
