-- `check_table` meets its contract.
use Prim.Native.Nat.{◌/◌}
use mathlib.Core.Path.{refl, sym, subst}
use mathlib.Core.Logic.{inr, inl}
use native.Mathlib.Omega.{arith}
use lib.ListN.{length}
use Rattle.tables.specs.Table.{Sound, row_width}
use Rattle.tables.specs.Refusal.{Clear}
use Rattle.tables.specs.Checks.{shape}
use Rattle.tables.proofs.Clear.{shape_of_rows, sound_of_clear}
use Rattle.tables.proofs.table_checks.check_table.Goals as goal
use Rattle.tables.proofs.table_checks.check_table.Goals.{After-first_fault}

-- three tests passed: the slice is rows
shape_clear : (c : After-first_fault) → Clear (shape c.args.table.now)
shape_clear c =
    let xs = c.args.table.now in
    shape_of_rows row_width xs
    (record { n = length xs / row_width; whole = omega arith; some = omega arith; few = omega arith })

pub returns-in-Some : goal.returns-in-Some
returns-in-Some c =
    inr (shape_clear (goal.at.returns-in-Some c).After-first_fault, inl (refl, c.in-Some.ensures))

pub invariant_of-result : goal.invariant_of-result
invariant_of-result c =
    record {
      sound = subst Sound (sym c.rows_of.ensures)
          (sound_of_clear c.args.table.now (shape_clear (goal.at.invariant_of-result c).After-first_fault) c.in_default.ensures);
    }

pub returns : goal.returns
returns c = (
  (shape_clear (goal.at.returns c).After-first_fault, (c.in_default.ensures, tt)),
  record { same = c.rows_of.ensures; whole = omega arith },
)
