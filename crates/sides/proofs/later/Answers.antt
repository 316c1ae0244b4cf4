-- `later` meets its contract.
use Rattle.std.proofs.Common.{rules}
use Rattle.sides.specs.inside.Level.{later}
use Rattle.sides.proofs.later.Goals as goal

pub returns : goal.returns
unfolding later
returns c = search rules
