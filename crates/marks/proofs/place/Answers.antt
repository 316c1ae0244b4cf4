-- `place` meets its contract: of the digits below i the ones are counted.
use Rattle.marks.proofs.Marks.{one_shl, ones_before}
use Rattle.marks.proofs.place.Goals as goal

pub returns : goal.returns
returns c = rw (one_shl c.args.i c.requires) (ones_before c.args.i c.args.set)
