-- `check_plan` meets its contract: no row passed is at fault.
use Rattle.std.proofs.Common.{ℕ, ◌<◌}
use Rattle.tables.specs.Plan.{plan_of}
use Rattle.tables.specs.Checks.{RowAtFault}
use Rattle.tables.specs.inside.Rows.{table_in}
use Rattle.tables.proofs.plan_check.check_plan.Given as goal

abbrev pub invariant-loop-i : goal.invariant-loop-i
invariant-loop-i l = (j : ℕ) → j < l.i → RowAtFault (table_in l.tasks.rows l.n) (plan_of l.plan) j → ⊥
