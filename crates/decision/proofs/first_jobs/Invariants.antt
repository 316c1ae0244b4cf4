-- `first_jobs` meets its contract: the rows before row i have their first jobs, and from row i on there is 0.
use Prim.Native.Nat.{ℕ, ◌≤◌, ◌<◌, ◌-◌}
use mathlib.Core.Path.{◌≡◌}
use lib.ListN.{length}
use Rattle.tables.specs.Jobs.{jobs_of}
use Rattle.tables.specs.Table.{most_rows}
use Rattle.decision.specs.inside.Decision.{Following, job_in, done_in}
use Rattle.decision.proofs.first_jobs.Given as goal

abbrev pub invariant-loop-i : goal.invariant-loop-i
invariant-loop-i l =
    (l.i ≤ l.n)
    × (length l.heads ≡ most_rows)
    × ((j : ℕ) → j < l.i → Following (jobs_of l.jobs) j 0 (job_in l.heads j))
    × ((j : ℕ) → l.i ≤ j → job_in l.heads j ≡ 0)
    × ((j : ℕ) → done_in l.heads j ≡ 0)

abbrev pub decreases-loop-i : goal.decreases-loop-i
decreases-loop-i l = l.n - l.i
