-- Pieces of text: what a reader may find at a place, and where it is stuck.
use Rattle.std.specs.Prelude.{ℕ, suc, ◌+◌, ◌≤◌, ◌<◌, ◌≡◌, ◌⊎◌, List, [], ◌∷◌, ◌++◌, length, take, drop}
use Rattle.decimal.specs.Decimal.{nought, decimal}
use Rattle.reading.specs.Begins.{Begins, Between}

-- a kind of text: its values, the text of each, and those that are allowed
pub record Piece : Type 1 where
  pub Value : Type 0
  pub text : Value → List ℕ
  pub Allowed : Value → Type 0

-- one word
abbrev pub word_piece : List ℕ → Piece
word_piece w = record { Value = Unit {0}; text = λ _. w; Allowed = λ _. Unit {0} }

-- the byte e is one of these
abbrev pub OneOf : List ℕ → ℕ → Type 0
OneOf [] e = ⊥
OneOf (x ∷ xs) e = (e ≡ x) ⊎ OneOf xs e

-- each of them comes before the digits
abbrev pub BelowDigits : List ℕ → Type 0
BelowDigits [] = Unit {0}
BelowDigits (x ∷ xs) = (x < nought) × BelowDigits xs

-- a number of least to most in decimal, and the byte that ends it, one of these
abbrev pub number_piece : ℕ → ℕ → List ℕ → Piece
number_piece least most ends =
    record {
      Value = ℕ × ℕ;
      text = λ v. decimal v.0 ++ v.1 ∷ [];
      Allowed = λ v. Between least most v.0 × OneOf ends v.1;
    }

-- one piece, and behind it another that may depend on what was read of the first
abbrev pub followed : (P : Piece) → (P.Value → Piece) → Piece
followed P Q =
    record {
      Value = (v : P.Value) × (Q v).Value;
      text = λ v. P.text v.0 ++ (Q v.0).text v.1;
      Allowed = λ v. P.Allowed v.0 × (Q v.0).Allowed v.1;
    }

-- s does not begin with a text of the piece, and p is as far as the two go together: some text of the piece begins
-- with the first p bytes of s, and none, whatever follows it, begins with one byte more
pub record Stops (P : Piece) (s : List ℕ) (p : ℕ) : Type 0 where
  pub within : p ≤ length s
  pub begun : (v : P.Value) × P.Allowed v × Begins (take p s) (P.text v)
  pub no_more : p < length s → (v : P.Value) → P.Allowed v → (y : List ℕ) → Begins (take (suc p) s) (P.text v ++ y) →
      ⊥
  pub no_text : (v : P.Value) → P.Allowed v → (y : List ℕ) → s ≡ P.text v ++ y → ⊥

-- read from the place at on: the text of v, and next is the place behind it
pub record Passed (P : Piece) (s : List ℕ) (at : ℕ) (v : P.Value) (next : ℕ) : Type 0 where
  pub allowed : P.Allowed v
  pub within : next ≤ length s
  pub behind : next ≡ at + length (P.text v)
  pub split : drop at s ≡ P.text v ++ drop next s

-- read from the place at on: stuck at a place
pub record Stuck (P : Piece) (s : List ℕ) (at place : ℕ) : Type 0 where
  pub ahead : ℕ
  pub reached : place ≡ at + ahead
  pub stops : Stops P (drop at s) ahead
