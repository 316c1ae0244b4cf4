-- Refusals and answers: document 01, "Numbers of refusal".
use Rattle.std.specs.Prelude.{ℕ, ◌≡◌, ◌⊎◌, List, [], ◌∷◌}

-- one line of the table of refusals: its number, and the places at which it hits
pub record Check : Type 1 where
  pub number : ℕ
  pub hits : ℕ → Type 0

-- the check hits at no place
abbrev pub Clear : Check → Type 0
Clear c = (place : ℕ) → c.hits place → ⊥

-- what a call answers and leaves: the refusal's number, 0 where the answer is given; its place; the value that comes
-- with it; and the later content of what was lent
pub record Outcome (Value Lent : Type 0) : Type 0 where
  pub number : ℕ
  pub place : ℕ
  pub value : Value
  pub out : Lent

-- the same of an operation that gives one number and is lent one slice of numbers
abbrev pub Result : Type 0
Result = Outcome ℕ (List ℕ)

-- a refusal, whatever its number and its place, that carries no value: 0 stands for it
abbrev pub bare : ℕ → ℕ → ℕ → Type 0
bare number place value = value ≡ 0

module _ {Value Lent : Type 0} where
  -- refused by the check c: its number, a place at which it hits, a value that a refusal of that number carries there
  -- and, "Nothing lent is written", what was lent as it was
  pub record Refused (Carried : ℕ → ℕ → Value → Type 0) (c : Check) (lent : Lent)
      (r : Outcome Value Lent) : Type 0 where
    pub number : r.number ≡ c.number
    pub place : c.hits r.place
    pub value : Carried c.number r.place r.value
    pub unwritten : r.out ≡ lent

  -- given: number and place are 0, and the value and the later content of what was lent are those that `Given` names
  pub record Granted (Given : Value → Lent → Type 0) (r : Outcome Value Lent) : Type 0 where
    pub number : r.number ≡ 0
    pub place : r.place ≡ 0
    pub given : Given r.value r.out

  -- "Checks are made": of those that apply to the operation, in the order of the table, the first that hits refuses;
  -- where none hits the answer is given
  abbrev pub Answered : (ℕ → ℕ → Value → Type 0) → List Check → (Value → Lent → Type 0) → Lent → Outcome Value Lent →
      Type 0
  Answered Carried [] Given lent r = Granted Given r
  Answered Carried (c ∷ cs) Given lent r = Refused Carried c lent r ⊎ (Clear c × Answered Carried cs Given lent r)
