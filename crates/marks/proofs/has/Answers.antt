-- `has` meets its contract: the digit of row i, shifted down.
use mathlib.Core.Path.{sym}
use Rattle.marks.proofs.Marks.{digit_at}
use Rattle.marks.proofs.has.Goals as goal

pub returns : goal.returns
returns c = sym (digit_at c.args.i c.args.set)
