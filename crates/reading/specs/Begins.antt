-- What a text begins with, and the range of a number.
use Rattle.std.specs.Prelude.{ℕ, ◌≤◌, ◌≡◌, List, ◌++◌}

-- the text s begins with p
abbrev pub Begins : List ℕ → List ℕ → Type 0
Begins p s = (rest : List ℕ) × (p ++ rest ≡ s)

-- a number from the least to the most that is allowed, both included
pub record Between (least most x : ℕ) : Type 0 where
  pub low : least ≤ x
  pub high : x ≤ most
