-- A set of rows as one number: document 01, "held as one 32-bit set". Row i is in it where digit i is 1.
use Rattle.std.specs.Prelude.{ℕ, zero, suc, ◌/◌, ◌%◌, ◌<◌, ◌≡◌, Bool, true, false, ◌&&◌, ◌||◌, eqb, ltb}
use Rattle.std.specs.Prelude.{Option, Some, None}
use Rattle.counting.specs.Sum.{count, without}
use Rattle.counting.specs.Least.{Least}

-- row i is marked in the set s: binary digit i of s is 1. The lowest digit is s % 2, the others are those of s / 2.
unfoldable pub marked : ℕ → ℕ → Bool
marked s zero = eqb (s % 2) 1
marked s (suc i) = marked (s / 2) i

-- r has exactly the rows below n
abbrev pub Whole : ℕ → ℕ → Type 0
Whole n r = (j : ℕ) → marked r j ≡ ltb j n

-- r has exactly the rows below n at which P passes
abbrev pub Where : (ℕ → Bool) → ℕ → ℕ → Type 0
Where P n r = (j : ℕ) → marked r j ≡ (ltb j n && P j)

-- i is the first row of s
pub record Next (s i : ℕ) : Type 0 where
  pub inside : i < 32
  pub first : Least (λ j. marked s j ≡ true) 0 i

-- r has exactly the rows that both a and b have
abbrev pub Both : ℕ → ℕ → ℕ → Type 0
Both a b r = (j : ℕ) → marked r j ≡ (marked a j && marked b j)

-- the place of row i among the rows of s, where it is one of them: how many of them stand before it
abbrev pub Placed : ℕ → ℕ → Option ℕ → Type 0
Placed s i (Some p) = (marked s i ≡ true) × (p ≡ count (marked s) i)
Placed s i None = marked s i ≡ false

-- r is s without the row i
pub record Less (s i r : ℕ) : Type 0 where
  pub marks : marked r ≡ without (marked s) i
  pub smaller : r < s

-- r is s with the row i
abbrev pub More : ℕ → ℕ → ℕ → Type 0
More s i r = (j : ℕ) → marked r j ≡ (marked s j || eqb j i)
