-- `next` meets its contract: the trailing zeros lead to the lowest digit that is 1.
use Rattle.marks.proofs.Marks.{next_by_zeros}
use Rattle.marks.proofs.next.Goals as goal

pub returns : goal.returns
returns c = next_by_zeros c.args.set c.requires c.ranges.set.fits
