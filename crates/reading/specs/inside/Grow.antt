-- What a number with one digit more is.
use Rattle.std.specs.Prelude.{ℕ, ◌+◌, ◌*◌, ◌≤◌, ◌≡◌, Option, Some, None}
use Rattle.decimal.specs.Decimal.{nought}
use Rattle.reading.specs.Begins.{Between}

-- the byte b is the digit d
pub record Digit (b d : ℕ) : Type 0 where
  pub small : d ≤ 9
  pub byte : b ≡ nought + d

-- the number v with the digit b behind it, where that is a number of 1 to most
abbrev pub Grows : ℕ → ℕ → ℕ → Option ℕ → Type 0
Grows most v b (Some r) = Between 1 most r × ((d : ℕ) × Digit b d × (r ≡ 10 * v + d))
Grows most v b None = (d : ℕ) → Digit b d → Between 1 most (10 * v + d) → ⊥
