-- The answers of `print` and `fit`: document 01, "What is delivered" and "Numbers of refusal".
use Rattle.std.specs.Prelude.{ℕ, ◌<◌, ◌≡◌, List, [], ◌∷◌, ◌++◌, length, drop}
use Rattle.tables.specs.Refusal.{Check, Result, bare, Answered}
use Rattle.tables.specs.Checks.{planned_shape}
use Rattle.printing.specs.Printed.{plan_text}

-- 2, "output too short": the buffer, of which only the length is at hand, has fewer bytes than are needed, place 0
abbrev pub room_in : ℕ → ℕ → Check
room_in needed len = record { number = 2; hits = λ place. (place ≡ 0) × (len < needed) }

-- the number of bytes of the text; no output is lent
pub record FitGiven (planned : List ℕ) (value : ℕ) (after : List ℕ) : Type 0 where
  pub many : value ≡ length (plan_text planned)
  pub unlent : after ≡ []

-- fit: the checks 1 and 2 in this order, for a buffer of that length; then the number of bytes of the text
abbrev pub fit_checks : List ℕ → ℕ → List Check
fit_checks planned len = planned_shape planned ∷ room_in (length (plan_text planned)) len ∷ []

abbrev pub FitAnswer : List ℕ → ℕ → Result → Type 0
FitAnswer planned len r = Answered bare (fit_checks planned len) (FitGiven planned) [] r

-- the text stands at the front of the output, its bytes are counted, and behind it is "the remainder unchanged"
pub record PrintGiven (planned out : List ℕ) (value : ℕ) (after : List ℕ) : Type 0 where
  pub many : value ≡ length (plan_text planned)
  pub whole : after ≡ plan_text planned ++ drop (length (plan_text planned)) out

-- print: the checks of fit, for a buffer as long as the output; then the text
abbrev pub PrintAnswer : List ℕ → List ℕ → Result → Type 0
PrintAnswer planned out r = Answered bare (fit_checks planned (length out)) (PrintGiven planned out) out r

-- "hands back the written front": what print hands back is the text where fit gives its answer for this planned
-- table and a buffer of this length, and empty where fit refuses, by the number and at the place that fit answers
pub record PrintFront (planned : List ℕ) (len : ℕ) (front : List ℕ) : Type 0 where
  pub answer : Result
  pub fit : FitAnswer planned len answer
  pub given : answer.number ≡ 0 → front ≡ plan_text planned
  pub refused : (answer.number ≡ 0 → ⊥) → front ≡ []
