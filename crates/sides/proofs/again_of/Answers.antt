-- `again_of` meets its contract: the set marks the rows passed that are released again.
use Rattle.marks.proofs.Where.{where_none}
use Rattle.sides.proofs.again_of.Goals as goal

pub loop-i-init : goal.loop-i-init
loop-i-init c = where_none _
