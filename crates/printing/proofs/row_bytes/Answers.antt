-- `row_bytes` meets its contract.
use native.Mathlib.Omega.{arith}
use Rattle.printing.proofs.Printed.{length_row_line}
use Rattle.printing.proofs.row_bytes.Goals as goal

pub returns : goal.returns
returns c =
    let a = c.args in (omega (arith, length_row_line a.i a.row.rank a.row.len a.row.response), omega arith)
