-- `plan_bytes` meets its contract. The loop's invariant: the bytes of the first line and of the rows passed.
use mathlib.Core.Path.{◌≡◌}
use native.Mathlib.Omega.{arith}
use lib.ListN.{length-append}
use Rattle.printing.proofs.Printed.{length_plan_line, rows_none, rows_more, length_text}
use Rattle.printing.proofs.plan_bytes.Goals as goal

pub loop-i-init : goal.loop-i-init
loop-i-init c = (rw (rows_none, length_plan_line) (omega arith), omega arith)

pub loop-i-preserved : goal.loop-i-preserved
loop-i-preserved c =
    let line = rw c.row.ensures at c.row_bytes-bytes.ensures.0 in
    (rw (rows_more _ c.loop-i.i, length-append) (omega (arith, line)), omega arith)

pub returns : goal.returns
returns c =
    let l = c.loop-i in
    let planned = c.args.planned.now in
    let e : l.i ≡ planned.n = omega arith in
    (rw (length_text planned.numbers.now planned.n planned.whole) (rw e at l.invariant.0), omega arith)
