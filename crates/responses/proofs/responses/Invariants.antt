-- `responses` meets its contract: each row passed has its response in its place, and the places not reached hold 0.
use Rattle.std.proofs.Common.{◌≡◌, length}
use Rattle.tables.specs.Table.{most_rows}
use Rattle.tables.specs.Plan.{plan_of}
use Rattle.tables.specs.inside.Rows.{table_in}
use Rattle.test.specs.Test.{ResponseOf}
use Rattle.responses.specs.inside.Asked.{Column}
use Rattle.responses.proofs.responses.Given as goal

abbrev pub invariant-loop-i : goal.invariant-loop-i
invariant-loop-i l =
    Column l.i (ResponseOf (table_in l.tasks.rows l.tasks.n) (plan_of l.plan)) l.times × (length l.level ≡ most_rows)
