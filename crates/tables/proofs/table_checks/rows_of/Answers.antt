-- `rows_of` meets its contract: the array holds the rows passed, and zeros after them.
use Prim.Native.Nat.{◌/◌}
use mathlib.Core.Path.{◌≡◌, refl}
use native.Mathlib.Omega.{arith}
use lib.ListN.{length}
use Rattle.tables.specs.Table.{row_width}
use Rattle.tables.specs.inside.Rows.{no, row_at}
use Rattle.tables.proofs.Rows.{holds_none, holds_more, table_rows, five_row}
use borrow.Author.Rules.{rules}
use Rattle.tables.proofs.table_checks.rows_of.Goals as goal

pub loop-row-init : goal.loop-row-init
loop-row-init c =
    let e : c.default-rows.result ≡ no = search rules in
    (refl, rw e (holds_none no (row_at c.args.table.now) 32))

pub loop-row-preserved : goal.loop-row-preserved
loop-row-preserved c =
    let xs = c.args.table.now in
    let e : c.from.result ≡ row_at xs c.loop-row.row =
    five_row xs _ _ c.loop-row.row _ c.as_chunks.ensures.front (omega arith) c.from.ensures in
    (search rules, rw e (holds_more no (row_at xs) c.loop-row.invariant.1 (omega arith)))

pub returns : goal.returns
returns c =
    let e : c.loop-row.row ≡ length c.args.table.now / row_width = omega arith in
    table_rows _ c.args.table.now _ c.requires.whole (rw e at c.loop-row.invariant.1)
