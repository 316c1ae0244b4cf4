-- What the check 1 of a planned table answers, and the rows of one.
use Rattle.std.specs.Prelude.{ℕ, ◌+◌, ◌*◌, ◌≡◌, List, [], ◌∷◌, get_or, Result, Ok, Err}
use Rattle.tables.specs.Planned.{planned_width}
use Rattle.tables.specs.Checks.{Rows, planned_shape}
use Rattle.tables.specs.inside.Checked.{RefusedBy}
use Rattle.tables.specs.declared.answer.Refusal.{Refusal}
use Rattle.printing.specs.declared.table.Planned.{Planned}
use Rattle.printing.specs.declared.table.PlannedRow.{PlannedRow}

-- the numbers are 1 to 32 rows; or they are refused by their shape
abbrev pub RowsIn : List ℕ → Result Planned Refusal → Type 0
RowsIn numbers (Ok planned) = Rows planned_width numbers × (planned.numbers.now ≡ numbers)
RowsIn numbers (Err r) = RefusedBy (planned_shape numbers ∷ []) r

-- row i
abbrev pub row_in : List ℕ → ℕ → PlannedRow
row_in numbers i =
    record {
      rank = get_or numbers (planned_width * i) 0;
      len = get_or numbers (planned_width * i + 1) 0;
      response = get_or numbers (planned_width * i + 2) 0;
    }
