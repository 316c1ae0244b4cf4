-- Figures of requests (i) and (ii) of document 02: the one answer that the promise allows for each of these sheets.
use Rattle.std.specs.Prelude.{ℕ, ◌≤◌, ◌≡◌, ◌↔◌, List, [], ◌∷◌, ◌++◌, length, drop}
use Rattle.std.proofs.Math.Option.{none, some}
use Rattle.tables.specs.Refusal.{Result}
use Rattle.sheet.specs.Sheet.{Task, sheet_text}
use Rattle.sheet.specs.Answers.{SheetAnswer}

-- the task of a line `task c d t`, and that of a line `task c d t start length`
abbrev pub task : ℕ → ℕ → ℕ → Task
task c d t = record { C = c; D = d; T = t; region = none }

abbrev pub task_with : ℕ → ℕ → ℕ → ℕ → ℕ → Task
task_with c d t start length = record { C = c; D = d; T = t; region = some (record { start = start; length = length }) }

-- for the sheet of this tick and these tasks and any output with room for them the promise allows the answer that gives
-- this table, and no other
abbrev pub OnlyGives : ℕ → List Task → List ℕ → Type 0
OnlyGives tick ts ticks =
    (out : List ℕ) (r : Result) → length ticks ≤ length out →
    SheetAnswer (sheet_text tick ts) out r
    ↔ (r ≡ record { number = 0; place = 0; value = length ticks; out = ticks ++ drop (length ticks) out })

-- for their sheet and any output, too short or not, it allows refusal 3 at this place, and no other answer
abbrev pub OnlyRefuses : ℕ → List Task → ℕ → Type 0
OnlyRefuses tick ts place =
    (out : List ℕ) (r : Result) →
    SheetAnswer (sheet_text tick ts) out r ↔ (r ≡ record { number = 3; place = place; value = 0; out = out })

-- request (i), with its tick of 7 microseconds
pub record RoundingFigures : Type 0 where
  -- "which is 21": a deadline or a spacing of 20 is not 3 ticks
  pub rounded_down : OnlyGives 7 (task 7 20 20 ∷ []) (1 ∷ 2 ∷ 2 ∷ 0 ∷ 0 ∷ [])
  -- "stays rounded up": a run of 8 is not 1 tick
  pub run_rounded_up : OnlyGives 7 (task 8 20 27 ∷ []) (2 ∷ 2 ∷ 3 ∷ 0 ∷ 0 ∷ [])
  pub run_alone : OnlyGives 7 (task 20 20 20 ∷ []) (3 ∷ 2 ∷ 2 ∷ 0 ∷ 0 ∷ [])
  -- "becomes zero ticks": neither is raised to 1, and the place is the index in the table, the first of two
  pub no_deadline : OnlyRefuses 7 (task 7 6 20 ∷ []) 1
  pub no_spacing : OnlyRefuses 7 (task 7 20 6 ∷ []) 2
  pub second_row : OnlyRefuses 7 (task 7 7 7 ∷ task 7 6 7 ∷ task 7 7 6 ∷ []) 6

-- request (ii), with a tick of 10 microseconds
pub record RegionFigures : Type 0 where
  -- "both or neither"
  pub none : OnlyGives 10 (task 60 200 200 ∷ []) (6 ∷ 20 ∷ 20 ∷ 0 ∷ 0 ∷ [])
  -- "Start is rounded down and end up": a start of 19 is 1 tick, and a length of 2 from there on is 2, though 2 by
  -- itself would be 1
  pub across_two : OnlyGives 10 (task_with 60 200 200 19 2 ∷ []) (6 ∷ 20 ∷ 20 ∷ 1 ∷ 2 ∷ [])
  pub across_the_first : OnlyGives 10 (task_with 60 200 200 9 2 ∷ []) (6 ∷ 20 ∷ 20 ∷ 0 ∷ 2 ∷ [])
  pub longer : OnlyGives 10 (task_with 60 200 200 5 12 ∷ []) (6 ∷ 20 ∷ 20 ∷ 0 ∷ 2 ∷ [])
  pub whole_ticks : OnlyGives 10 (task_with 60 200 200 10 10 ∷ []) (6 ∷ 20 ∷ 20 ∷ 1 ∷ 1 ∷ [])
  pub from_nothing : OnlyGives 10 (task_with 60 200 200 0 1 ∷ []) (6 ∷ 20 ∷ 20 ∷ 0 ∷ 1 ∷ [])
  -- "at least one tick before C": the region's end in ticks is 5 of 6, and then 6 of 6 and 5 of 5
  pub before_the_end : OnlyGives 10 (task_with 60 200 200 30 20 ∷ []) (6 ∷ 20 ∷ 20 ∷ 3 ∷ 2 ∷ [])
  pub one_more : OnlyRefuses 10 (task_with 60 200 200 30 21 ∷ []) 4
  pub one_less : OnlyRefuses 10 (task_with 50 200 200 30 20 ∷ []) 4
  -- "the least such index": a region at fault comes before a deadline of no tick in the next row
  pub first_of_both : OnlyRefuses 10 (task_with 50 200 200 30 20 ∷ task 50 5 200 ∷ []) 4
