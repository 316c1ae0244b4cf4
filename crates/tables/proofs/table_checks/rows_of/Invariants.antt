-- `rows_of` meets its contract: the array holds the rows passed, and zeros after them.
use Rattle.std.proofs.Common.{◌≡◌, length}
use Rattle.tables.specs.inside.Rows.{no, row_at}
use Rattle.tables.proofs.Rows.{Holds}
use Rattle.tables.proofs.table_checks.rows_of.Given as goal

abbrev pub invariant-loop-row : goal.invariant-loop-row
invariant-loop-row l = (length l.rows ≡ 32) × Holds no (row_at l.table) l.rows l.row
