-- `blocking_of` meets its contract: the most that a row below blocks with, of the rows passed.
use Rattle.std.proofs.Common.{◌≡◌}
use Rattle.tables.specs.Plan.{plan_of}
use Rattle.responses.proofs.Plans.{longest_in}
use Rattle.responses.proofs.blocking_of.Given as goal

abbrev pub invariant-loop-i : goal.invariant-loop-i
invariant-loop-i l = l.longest ≡ longest_in (plan_of l.plan) l.blocks l.rank l.i
