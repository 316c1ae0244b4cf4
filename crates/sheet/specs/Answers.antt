-- The answer of `sheet`: document 01, "Numbers of refusal" and "Sheet and printed plan".
use Rattle.std.specs.Prelude.{ℕ, ◌≡◌, ◌⊎◌, List, [], ◌∷◌, ◌++◌, length, drop}
use Rattle.tables.specs.Refusal.{Check, Result, bare, Refused, Answered}
use Rattle.tables.specs.Checks.{range, room}
use Rattle.sheet.specs.Sheet.{Task, Sheet, LongestPrefix, ticks_of}

-- 9, "sheet not well formed": the text is no well-formed sheet; the place is where the longest prefix that it
-- shares with one ends, counted in bytes from 0
abbrev pub sheet_form : List ℕ → Check
sheet_form text =
    record {
      number = 9;
      hits = λ place. LongestPrefix text place × ((tick : ℕ) (ts : List Task) → Sheet text tick ts → ⊥);
    }

-- the numbers of a table in ticks are given, at the front of the output, "the remainder unchanged" behind them
pub record SheetGiven (ticks out : List ℕ) (value : ℕ) (after : List ℕ) : Type 0 where
  pub many : value ≡ length ticks
  pub whole : after ≡ ticks ++ drop (length ticks) out

-- "applies the limits": for a table in ticks the checks 3 and 2 in this order; then its numbers
abbrev pub ticks_checks : List ℕ → List ℕ → List Check
ticks_checks ticks out = range ticks ∷ room (length ticks) out ∷ []

abbrev pub TicksAnswer : List ℕ → List ℕ → Result → Type 0
TicksAnswer ticks out r = Answered bare (ticks_checks ticks out) (SheetGiven ticks out) out r

-- sheet: the check 9; where the text is a well-formed sheet, the answer for its table in ticks
abbrev pub SheetAnswer : List ℕ → List ℕ → Result → Type 0
SheetAnswer text out r =
    Refused bare (sheet_form text) out r
    ⊎ ((tick : ℕ) × (ts : List Task) × Sheet text tick ts × TicksAnswer (ticks_of tick ts) out r)
