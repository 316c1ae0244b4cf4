-- `first_fault` meets its contract: no row passed has a number at fault.
use Prim.Native.Nat.{ℕ}
use mathlib.Core.Path.{subst}
use mathlib.Core.List.{[], ◌∷◌}
use native.Mathlib.Omega.{arith}
use borrow.Author.Count.{below_more}
use Rattle.std.proofs.Common.{Option, Some, None}
use Rattle.tables.specs.inside.Rows.{row_at, table_in}
use Rattle.tables.specs.inside.Checked.{FaultInRow}
use Rattle.tables.proofs.Rows.{five_row}
use Rattle.tables.proofs.Checked.{row_hit, row_clear, range_hit, range_clear}
use Rattle.tables.proofs.table_checks.first_fault.Goals as goal
use Rattle.tables.proofs.table_checks.first_fault.Goals.{After-fault_in_row}

-- the row in hand is row i of the table
in_hand : (c : After-fault_in_row) → (o : Option ℕ) → FaultInRow (table_in (c.from.result ∷ []) 1) 0 o →
    FaultInRow (table_in (row_at c.args.table.now c.loop-i.i ∷ []) 1) 0 o
in_hand c o =
    subst (λ row. FaultInRow (table_in (row ∷ []) 1) 0 o)
    (five_row c.args.table.now _ _ c.loop-i.i _ c.as_chunks.ensures.front (omega arith) c.from.ensures)

pub returns-in-Some : goal.returns-in-Some
returns-in-Some c =
    let xs = c.args.table.now in
    range_hit xs c.loop-i.i _ (omega arith)
    (row_hit xs c.loop-i.i c.in-Some.k (in_hand (goal.at.returns-in-Some c).After-fault_in_row (Some c.in-Some.k) c.in-Some.ensures))
    c.loop-i.invariant

pub loop-i-preserved : goal.loop-i-preserved
loop-i-preserved c =
    below_more _ _ c.loop-i.invariant
    (row_clear c.args.table.now c.loop-i.i (in_hand (goal.at.loop-i-preserved c).After-fault_in_row None c.in_default.ensures))

pub returns : goal.returns
returns c = range_clear c.args.table.now (λ j h. c.loop-i.invariant j (omega arith))
