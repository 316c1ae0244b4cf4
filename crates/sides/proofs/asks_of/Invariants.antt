-- `asks_of` meets its contract: the rows passed have stored theirs.
use Rattle.tables.specs.inside.Rows.{table_in}
use Rattle.sides.proofs.Asks.{Stored}
use Rattle.sides.proofs.asks_of.Given as goal

abbrev pub invariant-loop-i : goal.invariant-loop-i
invariant-loop-i l = Stored (table_in l.tasks.rows l.tasks.n) l.asks l.i
