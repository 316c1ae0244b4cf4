-- `both` meets its contract.
use Rattle.marks.proofs.Marks.{both_by_and}
use Rattle.marks.proofs.both.Goals as goal

pub returns : goal.returns
returns c = both_by_and c.args.a c.args.b
