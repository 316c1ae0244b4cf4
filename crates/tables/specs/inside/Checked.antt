-- What the check functions answer, said by the checks of `Checks`.
use Rattle.std.specs.Prelude.{ℕ, ◌*◌, ◌≡◌, ◌⊎◌, Bool, true, false, List, [], ◌∷◌, length}
use Rattle.std.specs.Prelude.{Option, Some, None, Result, Ok, Err}
use Rattle.counting.specs.Least.{Least}
use Rattle.tables.specs.Table.{Table, row_width, table_of}
use Rattle.tables.specs.Refusal.{Check, Clear}
use Rattle.tables.specs.Checks.{NumberAtFault, shape, range, plan_form}
use Rattle.tables.specs.Answer.{refusal_number, refusal_place}
use Rattle.tables.specs.inside.Rows.{table_in}
use Rattle.tables.specs.declared.answer.Refusal.{Refusal}
use Rattle.tables.specs.declared.task.Tasks.{Tasks}

-- yes where A holds, and no where it does not
abbrev pub Says : Bool → Type 0 → Type 0
Says true A = A
Says false A = A → ⊥

-- the index of the first number of row i that is at fault, or none is
abbrev pub FaultInRow : Table → ℕ → Option ℕ → Type 0
FaultInRow tb i None = (at : ℕ) → NumberAtFault tb i at → ⊥
FaultInRow tb i (Some at) = Least (NumberAtFault tb i) 0 at

-- the place at which the check 3 hits, or it is clear
abbrev pub FirstFault : List ℕ → Option ℕ → Type 0
FirstFault xs None = Clear (range xs)
FirstFault xs (Some at) = (range xs).hits at

-- no check of the list hits
abbrev pub AllClear : List Check → Type 0
AllClear [] = Unit
AllClear (c ∷ cs) = Clear c × AllClear cs

-- of the checks of the list, made in their order, the first that hits refuses, with its number and a place of its own
abbrev pub RefusedBy : List Check → Refusal → Type 0
RefusedBy [] r = ⊥
RefusedBy (c ∷ cs) r = ((refusal_number r ≡ c.number) × c.hits (refusal_place r)) ⊎ (Clear c × RefusedBy cs r)

-- the table that stands in the slice is that of the rows
pub record Holds (xs : List ℕ) (tasks : Tasks) : Type 0 where
  pub same : table_in tasks.rows tasks.n ≡ table_of xs
  pub whole : length xs ≡ row_width * tasks.n

-- the checks 1 and 3, in this order; where both are clear, the rows of the table
abbrev pub TableChecked : List ℕ → Result Tasks Refusal → Type 0
TableChecked xs (Ok tasks) = AllClear (shape xs ∷ range xs ∷ []) × Holds xs tasks
TableChecked xs (Err r) = RefusedBy (shape xs ∷ range xs ∷ []) r

-- the check 6
abbrev pub PlanChecked : Table → List ℕ → Result Unit Refusal → Type 0
PlanChecked tb ps (Ok _) = Clear (plan_form tb ps)
PlanChecked tb ps (Err r) = RefusedBy (plan_form tb ps ∷ []) r
