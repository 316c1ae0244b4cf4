-- `size` meets its contract: the count of ones is the number of marks.
use Rattle.marks.proofs.Marks.{ones_count}
use Rattle.marks.proofs.size.Goals as goal

pub returns : goal.returns
returns c = ones_count 32 c.args.set c.ranges.set.fits
