-- `again_of` meets its contract: the set marks the rows passed that are released again.
use Rattle.marks.specs.inside.Marks.{Where}
use Rattle.sides.specs.inside.Asks.{repeated}
use Rattle.sides.proofs.again_of.Given as goal

abbrev pub invariant-loop-i : goal.invariant-loop-i
invariant-loop-i l = Where (repeated l.asks l.t) l.i l.set
