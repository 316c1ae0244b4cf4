-- `less` meets its contract: a mark i is worth 2 ^ i, so the difference takes away that mark and no other.
use Rattle.marks.proofs.Marks.{one_shl, worth, less_by_worth}
use Rattle.marks.proofs.less.Goals as goal

pub overflow_sub-result : goal.overflow_sub-result
overflow_sub-result c = rw (one_shl c.args.i c.requires.0) (worth c.args.i c.args.set c.requires.1)

pub returns : goal.returns
returns c = rw (one_shl c.args.i c.requires.0) (less_by_worth c.args.i c.args.set c.requires.1)
