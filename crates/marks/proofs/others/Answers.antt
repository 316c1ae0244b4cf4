-- `others` meets its contract: the set and one less have all marks in common but the first.
use Rattle.marks.proofs.Marks.{others_by_and}
use Rattle.marks.proofs.others.Goals as goal

pub returns : goal.returns
returns c i n = others_by_and c.args.set i c.requires c.ranges.set.fits n
