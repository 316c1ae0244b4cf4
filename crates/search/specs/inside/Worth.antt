-- The longest length of a row that is worth a try.
use Rattle.std.specs.Prelude.{ℕ, Option, Some, None, ◌-◌, min, max, ◌≤◌, ◌<◌, ◌≡◌}
use Rattle.tables.specs.inside.Rows.{cap_in}
use Rattle.tables.specs.declared.task.Row.{Row}
use Rattle.search.specs.declared.Candidate.{Candidate}

-- top is the longest length, of 1 to `most`, with which a row of middle region M blocks with less than `best`; none
-- where there is none
pub record Worth (M most best : ℕ) (top : Option ℕ) : Type 0 where
  pub beaten : best ≤ max M 1 → top ≡ None
  pub shorter : max M 1 < best → top ≡ Some (min most (best - 1))

-- beside the best row so far, or none yet
abbrev pub WorthIn : Row → Option Candidate → Option ℕ → Type 0
WorthIn row None top = top ≡ Some (cap_in row)
WorthIn row (Some best) top = Worth row.region (cap_in row) best.longer top
