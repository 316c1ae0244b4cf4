-- `whole` meets its contract: all 32 marks shifted down to n of them.
use mathlib.Core.Path.{sym, subst}
use Rattle.marks.specs.inside.Marks.{Whole}
use Rattle.marks.proofs.Marks.{shifted, whole_by_power}
use Rattle.marks.proofs.whole.Goals as goal

pub returns : goal.returns
returns c = subst (Whole c.args.n) (sym (shifted c.args.n c.requires.1)) (whole_by_power c.args.n)
