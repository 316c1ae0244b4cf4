-- `above_of` meets its contract: the set marks the rows passed that are of higher rank.
use Rattle.tables.specs.Plan.{plan_of}
use Rattle.responses.specs.inside.Asked.{Above}
use Rattle.responses.proofs.above_of.Given as goal

abbrev pub invariant-loop-i : goal.invariant-loop-i
invariant-loop-i l = Above (plan_of l.plan) l.i l.rank l.set
