-- `first_fault` meets its contract: no row passed has a number at fault.
use Rattle.std.proofs.Common.{ℕ, ◌<◌}
use Rattle.tables.specs.Table.{table_of}
use Rattle.tables.specs.Checks.{NumberAtFault}
use Rattle.tables.proofs.table_checks.first_fault.Given as goal

abbrev pub invariant-loop-i : goal.invariant-loop-i
invariant-loop-i l = (j : ℕ) → j < l.i → (at : ℕ) → NumberAtFault (table_of l.table) j at → ⊥
