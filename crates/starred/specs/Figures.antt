-- The starred figures: document 01, "Figures on both sides of each edge", every line marked with *, as one table
-- under one statement; and those of tables with a middle region, as another.
use Rattle.std.specs.Prelude.{ℕ, suc, ◌+◌, ◌*◌, ◌≤◌, ◌≡◌, List, [], ◌∷◌, length}
use Rattle.tables.specs.Table.{table_of}
use Rattle.tables.specs.Plan.{plan_of}
use Rattle.tables.specs.Refusal.{Result}
use Rattle.test.specs.Test.{above, blocking, Finish}
use Rattle.test.specs.Answers.{TimesAnswer}
use Rattle.choice.specs.Choice.{unplaced, Shortest, Filled}
use Rattle.choice.specs.Answers.{PlanAnswer, planned_width}
use Rattle.kernel.specs.Answers.{PlayAnswer}

pub data Figure : Type 0 where
  -- a task table is planned: the planned table
  plans : List ℕ → List ℕ → Figure
  -- a task table is refused by planning: the number and the place
  refuses : List ℕ → ℕ → ℕ → Figure
  -- a task table is refused 5 by planning: the ranks greater than r are filled as the plan says, and r is not
  stops : List ℕ → List ℕ → ℕ → Figure
  -- a task table and a plan are timed: the times
  timed : List ℕ → List ℕ → List ℕ → Figure
  -- a task table, a plan and a job list are played: the finishes
  plays : List ℕ → List ℕ → List ℕ → List ℕ → Figure
  -- of a task table and a plan: in row i job k + 1 takes so many ticks
  takes : List ℕ → List ℕ → ℕ → ℕ → ℕ → Figure
  -- of a task table and a plan: at rank r row z has this shortest passing length
  shortest : List ℕ → List ℕ → ℕ → ℕ → ℕ → Figure

-- all of the output is written
abbrev pub wholly : List ℕ → Result
wholly ys = record { number = 0; place = 0; value = length ys; out = ys }

-- planning refuses a table, whatever an output with room for it holds
abbrev pub Refused : List ℕ → ℕ → ℕ → Type 0
Refused xs number place =
    (out : List ℕ) → planned_width * (table_of xs).n ≤ length out → PlanAnswer xs out
    (record { number = number; place = place; value = 0; out = out })

-- the figure is right, by the operations' own answers, whatever the lent output holds
abbrev pub Right : Figure → Type 0
Right (plans xs ys) = (out : List ℕ) → length out ≡ length ys → PlanAnswer xs out (wholly ys)
Right (refuses xs number place) = Refused xs number place
Right (stops xs ps r) = Refused xs 5 0 × Filled (table_of xs) (plan_of ps) r
Right (timed xs ps ys) = (out : List ℕ) → length out ≡ length ys → TimesAnswer xs ps out (wholly ys)
Right (plays xs ps js ys) = (out : List ℕ) → length out ≡ length ys → PlayAnswer xs ps js out (wholly ys)
Right (takes xs ps i k ticks) =
    let tb = table_of xs in
    let p = plan_of ps in
    Finish tb (above p (p.rank i)) (blocking tb p (p.rank i)) i (p.len i) (suc k) (ticks + k * tb.T i)
Right (shortest xs ps r z q) =
    let tb = table_of xs in
    let p = plan_of ps in
    Shortest tb (unplaced p r) (blocking tb p r) z q

-- a row of five numbers before others, and a row without a middle region, of three as document 01 has it
abbrev pub row : ℕ → ℕ → ℕ → ℕ → ℕ → List ℕ → List ℕ
row c d t start region rows = c ∷ d ∷ t ∷ start ∷ region ∷ rows

abbrev pub plain : ℕ → ℕ → ℕ → List ℕ → List ℕ
plain c d t rows = row c d t 0 0 rows

-- every figure of a table is right
abbrev pub AllRight : List Figure → Type 0
AllRight [] = Unit {0}
AllRight (f ∷ fs) = Right f × AllRight fs

abbrev pub first_table : List ℕ
first_table = plain 1 1 1 []

abbrev pub second_table : List ℕ
second_table = plain 2 5 5 (plain 4 7 7 [])

abbrev pub second_plan : List ℕ
second_plan = 1 ∷ 1 ∷ 2 ∷ 2 ∷ []

abbrev pub third_table : List ℕ
third_table = plain 2 5 5 (plain 4 6 7 [])

abbrev pub overloaded_table : List ℕ
overloaded_table = plain 2 3 3 (plain 2 3 3 [])

abbrev pub three_rows : List ℕ
three_rows = plain 1 4 4 (plain 1 6 6 (plain 4 12 12 []))

-- the figures that the wrong versions of plan are held to have names
abbrev pub second_planned : Figure
second_planned = plans second_table (1 ∷ 1 ∷ 3 ∷ 2 ∷ 2 ∷ 7 ∷ [])

abbrev pub third_planned : Figure
third_planned = plans third_table (1 ∷ 1 ∷ 4 ∷ 2 ∷ 3 ∷ 6 ∷ [])

abbrev pub three_planned : Figure
three_planned = plans three_rows (2 ∷ 1 ∷ 2 ∷ 1 ∷ 1 ∷ 1 ∷ 3 ∷ 1 ∷ 8 ∷ [])

abbrev pub overloaded_refused : Figure
overloaded_refused = refuses overloaded_table 4 0

unfoldable pub figures : List Figure
figures =
    plans first_table (1 ∷ 1 ∷ 1 ∷ [])
    -- the second table, with what the first and the second job of its second row take
    ∷ second_planned
    ∷ takes second_table second_plan 1 0 6
    ∷ takes second_table second_plan 1 1 7
    -- the second table played under its plan
    ∷ plays second_table second_plan (1 ∷ 0 ∷ 4 ∷ 0 ∷ 3 ∷ 2 ∷ []) (4 ∷ 6 ∷ [])
    ∷ plays second_table second_plan (1 ∷ 0 ∷ 4 ∷ 0 ∷ 2 ∷ 2 ∷ []) (6 ∷ 4 ∷ [])
    ∷ plays second_table second_plan (1 ∷ 0 ∷ 3 ∷ 0 ∷ 3 ∷ 2 ∷ []) (3 ∷ 5 ∷ [])
    ∷ third_planned
    ∷ refuses (plain 2 5 5 (plain 4 5 7 [])) 5 0
    -- "The tie at rank 2": there the shortest lengths of rows 0 and 1 are equal, and the earlier row takes the rank
    ∷ three_planned
    ∷ shortest three_rows (2 ∷ 1 ∷ 1 ∷ 1 ∷ 3 ∷ 1 ∷ []) 2 0 1
    ∷ shortest three_rows (2 ∷ 1 ∷ 1 ∷ 1 ∷ 3 ∷ 1 ∷ []) 2 1 1
    -- the same table under ranks in table order; "full preemption" is a length of 1 in every row
    ∷ timed three_rows (1 ∷ 1 ∷ 2 ∷ 1 ∷ 3 ∷ 3 ∷ []) (3 ∷ 4 ∷ 6 ∷ [])
    ∷ timed three_rows (1 ∷ 1 ∷ 2 ∷ 1 ∷ 3 ∷ 4 ∷ []) (4 ∷ 6 ∷ 6 ∷ [])
    ∷ timed three_rows (1 ∷ 1 ∷ 2 ∷ 1 ∷ 3 ∷ 1 ∷ []) (1 ∷ 2 ∷ 8 ∷ [])
    ∷ overloaded_refused
    ∷ refuses (plain 5 4 9 []) 5 0
    ∷ []

-- beside them, for the wrong versions that no starred table tells from the right one: a table whose first row has
-- to stand highest of the ranks above the lowest; one whose utilisations sum to 1, and to more where each is
-- rounded up; and one whose utilisations sum to more than 1, and not where each is rounded down
abbrev pub urgent_first : List ℕ
urgent_first = plain 1 1 10 (plain 1 5 10 (plain 1 12 12 []))

abbrev pub three_thirds : List ℕ
three_thirds = plain 1 3 3 (plain 1 3 3 (plain 1 3 3 []))

abbrev pub one_tick_over : List ℕ
one_tick_over = plain 500000 1000000 1000000 (plain 500001 1000000 1000000 [])

abbrev pub urgent_planned : Figure
urgent_planned = plans urgent_first (1 ∷ 1 ∷ 1 ∷ 3 ∷ 1 ∷ 3 ∷ 2 ∷ 1 ∷ 2 ∷ [])

abbrev pub thirds_planned : Figure
thirds_planned = plans three_thirds (3 ∷ 1 ∷ 3 ∷ 2 ∷ 1 ∷ 2 ∷ 1 ∷ 1 ∷ 1 ∷ [])

abbrev pub over_refused : Figure
over_refused = refuses one_tick_over 4 0

unfoldable pub further : List Figure
further = urgent_planned ∷ thirds_planned ∷ over_refused ∷ []

-- the one statement
abbrev pub StarredFigures : Type 0
StarredFigures = AllRight figures

-- request (ii) of document 02: figures of tables with a middle region
unfoldable pub region_figures : List Figure
region_figures =
    -- "the least such longer region": a length of 1 passes for both rows at rank 2, and row 0 has the middle region
    plans (row 3 4 4 0 2 (plain 1 4 4 [])) (1 ∷ 1 ∷ 3 ∷ 2 ∷ 1 ∷ 4 ∷ [])
    -- "equals go to the earliest row", whose final region is the longer one
    ∷ plans (plain 2 5 8 (row 3 5 4 0 2 [])) (2 ∷ 2 ∷ 5 ∷ 1 ∷ 1 ∷ 4 ∷ [])
    -- "its shortest passing final length", under a longer middle region
    ∷ plans (plain 1 2 5 (row 4 5 5 0 2 [])) (1 ∷ 1 ∷ 2 ∷ 2 ∷ 1 ∷ 5 ∷ [])
    -- "Blocking counts the longer": the middle region, the final one, not both together
    ∷ plans (row 3 4 4 0 2 (plain 1 2 4 [])) (2 ∷ 1 ∷ 4 ∷ 1 ∷ 1 ∷ 2 ∷ [])
    ∷ plans (row 3 4 5 0 1 (plain 1 2 3 [])) (2 ∷ 2 ∷ 4 ∷ 1 ∷ 1 ∷ 2 ∷ [])
    ∷ plans (row 2 3 3 0 1 (plain 1 2 3 [])) (2 ∷ 1 ∷ 3 ∷ 1 ∷ 1 ∷ 1 ∷ [])
    -- a row's own middle region does not block it
    ∷ plans (plain 1 2 3 (row 3 6 5 0 2 [])) (1 ∷ 1 ∷ 2 ∷ 2 ∷ 1 ∷ 5 ∷ [])
    -- "C less the region's end": with lengths up to C row 0 would take the lowest rank
    ∷ plans (row 2 5 4 0 1 (plain 3 5 6 [])) (1 ∷ 1 ∷ 4 ∷ 2 ∷ 3 ∷ 5 ∷ [])
    ∷ stops (plain 1 1 4 (row 3 4 4 0 2 [])) (0 ∷ 0 ∷ 2 ∷ 1 ∷ []) 1
    -- the second starred table with a middle region, and with one that is a tick longer
    ∷ plans (plain 2 5 5 (row 4 7 7 0 2 [])) (1 ∷ 1 ∷ 3 ∷ 2 ∷ 2 ∷ 7 ∷ [])
    ∷ refuses (plain 2 5 5 (row 4 7 7 0 3 [])) 5 0
    -- the middle region is the longer one, or the final one is as long
    ∷ timed (row 5 20 20 1 3 (plain 1 9 9 [])) (2 ∷ 1 ∷ 1 ∷ 1 ∷ []) (6 ∷ 3 ∷ [])
    ∷ timed (row 5 20 20 1 2 (plain 1 9 9 [])) (2 ∷ 1 ∷ 1 ∷ 1 ∷ []) (6 ∷ 2 ∷ [])
    ∷ timed (row 5 20 20 1 2 (plain 1 9 9 [])) (2 ∷ 2 ∷ 1 ∷ 1 ∷ []) (6 ∷ 2 ∷ [])
    -- "more than the start and less than the end": releases before, in and at the end of the middle region
    ∷ plays (row 5 20 20 1 3 (plain 1 9 9 [])) (2 ∷ 1 ∷ 1 ∷ 1 ∷ []) (0 ∷ 0 ∷ 5 ∷ 1 ∷ 1 ∷ 1 ∷ []) (6 ∷ 2 ∷ [])
    ∷ plays (row 5 20 20 1 3 (plain 1 9 9 [])) (2 ∷ 1 ∷ 1 ∷ 1 ∷ []) (0 ∷ 0 ∷ 5 ∷ 1 ∷ 2 ∷ 1 ∷ []) (6 ∷ 5 ∷ [])
    ∷ plays (row 5 20 20 1 3 (plain 1 9 9 [])) (2 ∷ 1 ∷ 1 ∷ 1 ∷ []) (0 ∷ 0 ∷ 5 ∷ 1 ∷ 3 ∷ 1 ∷ []) (6 ∷ 5 ∷ [])
    ∷ plays (row 5 20 20 1 3 (plain 1 9 9 [])) (2 ∷ 1 ∷ 1 ∷ 1 ∷ []) (0 ∷ 0 ∷ 5 ∷ 1 ∷ 4 ∷ 1 ∷ []) (6 ∷ 5 ∷ [])
    -- a job that ends inside its middle region, and one with a final region behind it
    ∷ plays (row 5 20 20 1 3 (plain 1 9 9 [])) (2 ∷ 1 ∷ 1 ∷ 1 ∷ []) (0 ∷ 0 ∷ 3 ∷ 1 ∷ 2 ∷ 1 ∷ []) (3 ∷ 4 ∷ [])
    ∷ plays (row 5 20 20 0 3 (plain 1 9 9 [])) (2 ∷ 2 ∷ 1 ∷ 1 ∷ []) (0 ∷ 0 ∷ 5 ∷ 1 ∷ 3 ∷ 1 ∷ []) (6 ∷ 4 ∷ [])
    ∷ plays (row 5 20 20 0 3 (plain 1 9 9 [])) (2 ∷ 2 ∷ 1 ∷ 1 ∷ []) (0 ∷ 0 ∷ 5 ∷ 1 ∷ 4 ∷ 1 ∷ []) (5 ∷ 6 ∷ [])
    ∷ []

abbrev pub RegionFigures : Type 0
RegionFigures = AllRight region_figures
