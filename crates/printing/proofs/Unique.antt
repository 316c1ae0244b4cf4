-- What any two answers that the promise of `check` of `Planned` allows have in common: not the slice itself, for the
-- promise is one of its numbers.
use Prim.Native.Nat.{ℕ}
use mathlib.Core.Path.{◌≡◌, sym, ap, ◌∙◌}
use mathlib.Core.Logic.{⊎_elim}
use mathlib.Core.List.{List, [], ◌∷◌}
use native.Mathlib.Omega.{arith}
use lib.ListN.{length}
use Rattle.std.proofs.Common.{Result, Ok, Err}
use Rattle.tables.specs.Planned.{planned_width}
use Rattle.tables.specs.Checks.{Rows, planned_shape}
use Rattle.tables.specs.inside.Checked.{RefusedBy}
use Rattle.tables.specs.declared.answer.Refusal.{Refusal}
use Rattle.tables.proofs.Answered.{shape_place}
use Rattle.tables.proofs.Unique.{refused_by_unique}
use Rattle.printing.specs.inside.Rows.{RowsIn}
use Rattle.printing.specs.declared.table.Planned.{Planned}

-- one refusal, or the same rows
abbrev pub Alike : Result Planned Refusal → Result Planned Refusal → Type 0
Alike (Ok p) (Ok q) = (p.numbers.now ≡ q.numbers.now) × (p.n ≡ q.n)
Alike (Err r) (Err s) = r ≡ s
Alike (Ok p) (Err s) = ⊥
Alike (Err r) (Ok q) = ⊥

-- rows are not refused by their shape
not_refused : (numbers : List ℕ) (r : Refusal) → Rows planned_width numbers →
    RefusedBy (planned_shape numbers ∷ []) r → ⊥
not_refused numbers r rows = ⊎_elim (λ h. h.1.1 rows) (λ h. h.1)

pub rows_in_unique : (numbers : List ℕ) (a b : Result Planned Refusal) → RowsIn numbers a → RowsIn numbers b → Alike a b
rows_in_unique numbers (Ok p) (Ok q) x y =
    let same = x.1 ∙ sym y.1 in (same, omega (arith, ap length same, p.whole, q.whole))
rows_in_unique numbers (Ok p) (Err s) x y = not_refused numbers s x.0 y
rows_in_unique numbers (Err r) (Ok q) x y = not_refused numbers r y.0 x
rows_in_unique numbers (Err r) (Err s) x y =
    refused_by_unique (planned_shape numbers ∷ []) (shape_place planned_width numbers, tt) r s x y
