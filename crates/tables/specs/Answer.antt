-- What an answer says by document 01, "Numbers of refusal": its number, its place, the value that is given, and the
-- result that it stands for.
use Rattle.std.specs.Prelude.{ℕ, ◌≡◌, List, Result as OkOrErr, Ok, Err}
use Rattle.tables.specs.Refusal.{Result}
use Rattle.tables.specs.declared.answer.Refusal.{Refusal}
use Rattle.tables.specs.declared.answer.Refusal.TheVariants.{Sheet, Shape, Range, Plan, JobsShape, Job, Room}
use Rattle.tables.specs.declared.answer.Refusal.TheVariants.{NoBusy, NoPlan}
use Rattle.tables.specs.declared.answer.Said.{Said}

-- what an operation answers: a number that is given, or a refusal
abbrev pub Answer : Type 0
Answer = OkOrErr ℕ Refusal

-- "No.": the number of the refusal
abbrev pub refusal_number : Refusal → ℕ
refusal_number (Sheet at) = 9
refusal_number Shape = 1
refusal_number (Range at) = 3
refusal_number (Plan at) = 6
refusal_number JobsShape = 7
refusal_number (Job at) = 8
refusal_number Room = 2
refusal_number NoBusy = 4
refusal_number NoPlan = 5

-- "Place": the one that the refusal carries, and 0 for those that carry none
abbrev pub refusal_place : Refusal → ℕ
refusal_place (Sheet at) = at
refusal_place Shape = 0
refusal_place (Range at) = at
refusal_place (Plan at) = at
refusal_place JobsShape = 0
refusal_place (Job at) = at
refusal_place Room = 0
refusal_place NoBusy = 0
refusal_place NoPlan = 0

-- number and place of an answer: 0 where it is given
abbrev pub number_of : Answer → ℕ
number_of (Ok v) = 0
number_of (Err r) = refusal_number r

abbrev pub place_of : Answer → ℕ
place_of (Ok v) = 0
place_of (Err r) = refusal_place r

-- the value that is given, and 0 on a refusal
abbrev pub value_of : Answer → ℕ
value_of (Ok v) = v
value_of (Err r) = 0

-- the struct says the answer
abbrev pub Tells : Answer → Said → Type 0
Tells a s = (s.number ≡ number_of a) × (s.place ≡ place_of a) × (s.value ≡ value_of a)

-- the result of a call that answers a and leaves `out` in the lent output
abbrev pub result_of : Answer → List ℕ → Result
result_of a out = record { number = number_of a; place = place_of a; value = value_of a; out = out }
