-- The checks of task tables, plans, job lists and outputs: document 01, "Numbers of refusal", lines 2 to 7, as request
-- (ii) of document 02 has them, with rows, jobs and the numbers of a slice counted from 0.
use Rattle.std.specs.Prelude.{ℕ, ◌+◌, ◌*◌, ◌≤◌, ◌<◌, ◌≡◌, ◌⊎◌, List, ◌∷◌, length}
use Rattle.counting.specs.Least.{Least}
use Rattle.tables.specs.Table.{Table, Within, row_width, most_rows, most, table_of}
use Rattle.tables.specs.Plan.{Plan, plan_width, cap, plan_of}
use Rattle.tables.specs.Jobs.{Jobs, job_width, most_jobs, last_release, jobs_of}
use Rattle.tables.specs.Planned.{planned_width}
use Rattle.tables.specs.Refusal.{Check}

-- a slice that is a whole number of rows of a width, from 1 to 32 of them
pub record Rows (width : ℕ) (xs : List ℕ) : Type 0 where
  pub n : ℕ
  pub whole : length xs ≡ width * n
  pub some : 1 ≤ n
  pub few : n ≤ most_rows

-- 1, "not a multiple of 3", and (ii), "a multiple of 5 for task tables": the slice is not 1 to 32 whole rows of its
-- width, place 0; of a task table, and of a planned table
abbrev pub rows_shape : ℕ → List ℕ → Check
rows_shape width xs = record { number = 1; hits = λ place. (place ≡ 0) × (Rows width xs → ⊥) }

abbrev pub shape : List ℕ → Check
shape xs = rows_shape row_width xs

abbrev pub planned_shape : List ℕ → Check
planned_shape ys = rows_shape planned_width ys

-- a start S of a middle region of length M is at fault: above 1,000,000, or (ii), "a start but no length"
abbrev pub StartAtFault : ℕ → ℕ → Type 0
StartAtFault S M = (most < S) ⊎ ((1 ≤ S) × (M ≡ 0))

-- its length is at fault: (ii), "ends later than C less 1"
abbrev pub RegionAtFault : ℕ → ℕ → ℕ → Type 0
RegionAtFault C S M = (1 ≤ M) × (C ≤ S + M)

-- "a number outside": one of the five numbers of row i is at fault, and `at` is its index in the slice
abbrev pub NumberAtFault : Table → ℕ → ℕ → Type 0
NumberAtFault tb i at =
    ((at ≡ row_width * i) × (Within (tb.C i) → ⊥))
    ⊎ ((at ≡ row_width * i + 1) × (Within (tb.D i) → ⊥))
    ⊎ ((at ≡ row_width * i + 2) × (Within (tb.T i) → ⊥))
    ⊎ ((at ≡ row_width * i + 3) × StartAtFault (tb.S i) (tb.M i))
    ⊎ ((at ≡ row_width * i + 4) × RegionAtFault (tb.C i) (tb.S i) (tb.M i))

-- 3, (ii), "the least such index": some number of some row is at fault, and the place is the least index of one
abbrev pub range : List ℕ → Check
range xs =
    let tb = table_of xs in
    record { number = 3; hits = Least (λ at. (i : ℕ) × (i < tb.n) × NumberAtFault tb i at) 0 }

-- "rank of an earlier row": some row before row i in the table has the same rank
abbrev pub RankTaken : (ℕ → ℕ) → ℕ → Type 0
RankTaken rank i = (j : ℕ) × (j < i) × (rank j ≡ rank i)

-- "rank outside 1 to n": of n rows the rank of row i is 0 or above n, or else an earlier row has it
abbrev pub RankAtFault : ℕ → (ℕ → ℕ) → ℕ → Type 0
RankAtFault n rank i = (((1 ≤ rank i) × (rank i ≤ n)) → ⊥) ⊎ RankTaken rank i

-- "length outside", (ii), "exceeds its new cap": the length of row i is 0 or above the most that it may be
abbrev pub LengthAtFault : Table → Plan → ℕ → Type 0
LengthAtFault tb p i = ((1 ≤ p.len i) × (p.len i ≤ cap tb i)) → ⊥

-- "row at fault": row i of the plan, by its rank or by its length
abbrev pub RowAtFault : Table → Plan → ℕ → Type 0
RowAtFault tb p i = RankAtFault tb.n p.rank i ⊎ LengthAtFault tb p i

-- 6, "plan not well formed": place 32 where the slice is not two numbers for each row of the table, and otherwise
-- the first row at fault, where there is one
abbrev pub plan_form : Table → List ℕ → Check
plan_form tb ps =
    record {
      number = 6;
      hits =
          λ place.
          ((place ≡ most_rows) × (length ps ≡ plan_width * tb.n → ⊥))
          ⊎ ((length ps ≡ plan_width * tb.n) × Least (λ i. (i < tb.n) × RowAtFault tb (plan_of ps) i) 0 place);
    }

-- 7, "over 4,096 jobs": the slice is not three numbers a job for any number of jobs from 0 to 4,096, place 0
abbrev pub jobs_shape : List ℕ → Check
jobs_shape js =
    record {
      number = 7;
      hits = λ place. (place ≡ 0) × (((N : ℕ) × (length js ≡ job_width * N) × (N ≤ most_jobs)) → ⊥);
    }

-- "by itself": job k names no row of the table, or is released after tick 1,000,000, or its run is 0 or above the C
-- of its row
abbrev pub BreaksAlone : Table → Jobs → ℕ → Type 0
BreaksAlone tb js k =
    ((js.row k < tb.n)
    × (js.release k ≤ last_release)
    × (1 ≤ js.run k)
    × (js.run k ≤ tb.C (js.row k)))
    → ⊥

-- "against an earlier job": job k is released before the earlier job l, or is of the same row and released less
-- than T ticks after it
abbrev pub BreaksAgainst : Table → Jobs → ℕ → ℕ → Type 0
BreaksAgainst tb js l k =
    (js.release k < js.release l)
    ⊎ ((js.row l ≡ js.row k) × (js.release k < js.release l + tb.T (js.row l)))

-- 8, "a job breaks a rule": the place is the first job that breaks one by itself or against any job before it in
-- the list
abbrev pub job_rules : Table → List ℕ → Check
job_rules tb js =
    record {
      number = 8;
      hits =
          Least
          (λ k.
          (k < (jobs_of js).N)
          × (BreaksAlone tb (jobs_of js) k ⊎ ((l : ℕ) × (l < k) × BreaksAgainst tb (jobs_of js) l k)))
          0;
    }

-- 2, "output too short": the output has fewer places than the answer needs, place 0
abbrev pub room : ℕ → List ℕ → Check
room needed out = record { number = 2; hits = λ place. (place ≡ 0) × (length out < needed) }

-- the checks of an operation that takes a task table: 1 and 3 of the slice, then those of the table that stands in it
abbrev pub table_checks : List ℕ → (Table → List Check) → List Check
table_checks xs rest = shape xs ∷ range xs ∷ rest (table_of xs)
