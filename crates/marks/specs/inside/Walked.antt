-- What a walk over the marked rows gives.
use Rattle.std.specs.Prelude.{ℕ, ◌≡◌, Option, Some, None}
use Rattle.marks.specs.inside.Marks.{Next, Less}
use Rattle.marks.specs.declared.walk.Walk.{Walk}

-- the first of the rows that are left, which are then those without it; or that none is left
abbrev pub GivesRow : Walk → Option ℕ → Walk → Type 0
GivesRow before (Some i) after = Next before.rest i × Less before.rest i after.rest
GivesRow before None after = (before.rest ≡ 0) × (after ≡ before)
