-- `width` meets its contract: a digit more than a tenth of the number has.
use mathlib.Core.Path.{sym}
use native.Mathlib.Omega.{arith}
use Rattle.decimal.proofs.Decimal.{length_small, length_big, few}
use Rattle.decimal.proofs.+width.Goals as goal

pub returns-then-x-lt10 : goal.returns-then-x-lt10
returns-then-x-lt10 t c = (sym (length_small c.args.x c.if-x-lt10.true), omega arith)

pub returns : goal.returns
returns t c =
    let longer = length_big c.args.x c.if-x-lt10.false in
    (omega (arith, longer), omega (arith, longer, few 9 c.args.x (omega arith)))
