-- What the readers answer, said of the piece that is read, and where they leave the cursor.
use Rattle.std.specs.Prelude.{ℕ, ◌+◌, ◌≤◌, ◌≡◌, List, ◌∷◌, length, drop, Result, Ok, Err}
use Rattle.reading.specs.inside.Piece.{Piece, word_piece, OneOf, number_piece, Passed, Stuck}
use Rattle.reading.specs.declared.Cursor.{Cursor}
use Rattle.reading.specs.declared.Number.{Number}

-- the cursor went past a text of the piece, which tells v
pub record Past (P : Piece) (c d : Cursor) (v : P.Value) : Type 0 where
  pub text : d.text ≡ c.text
  pub passed : Passed P c.text.now c.at v d.at

-- it stayed, and is stuck at a place
pub record Stays (P : Piece) (c d : Cursor) (place : ℕ) : Type 0 where
  pub text : d.text ≡ c.text
  pub same : d.at ≡ c.at
  pub stuck : Stuck P c.text.now c.at place

abbrev pub ReadsWord : List ℕ → Cursor → Cursor → Result (Unit {0}) ℕ → Type 0
ReadsWord w c d (Ok _) = Past (word_piece w) c d tt
ReadsWord w c d (Err place) = Stays (word_piece w) c d place

abbrev pub ReadsNumber : ℕ → ℕ → List ℕ → Cursor → Cursor → Result Number ℕ → Type 0
ReadsNumber least most ends c d (Ok n) = Past (number_piece least most ends) c d (n.value, n.end)
ReadsNumber least most ends c d (Err place) = Stays (number_piece least most ends) c d place

-- at a place behind the number v: one of the bytes that may end it, or none
abbrev pub EndsNumber : ℕ → List ℕ → ℕ → Cursor → Cursor → Result Number ℕ → Type 0
EndsNumber v ends at c d (Ok n) =
    (n.value ≡ v) × OneOf ends n.end × (d.text ≡ c.text) × (d.at ≡ at + 1) × (d.at ≤ length c.text.now)
    × (drop at c.text.now ≡ n.end ∷ drop d.at c.text.now)
EndsNumber v ends at c d (Err place) =
    (place ≡ at) × (d.text ≡ c.text) × (d.at ≡ c.at)
    × ((e : ℕ) (u : List ℕ) → OneOf ends e → drop at c.text.now ≡ e ∷ u → ⊥)
