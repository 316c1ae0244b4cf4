-- `runs_of` meets its contract.
use Rattle.std.proofs.Common.{rules}
use Rattle.sides.specs.inside.Level.{runs_of}
use Rattle.sides.proofs.runs_of.Goals as goal

pub returns : goal.returns
unfolding runs_of
returns c = search rules
