-- From the bytes of a sheet to the board: what the page that the program prints for a text says of every run of the
-- kernel. Nothing is assumed but that the program's promise allows the page.
use Rattle.std.specs.Prelude.{ℕ, ◌*◌, ◌≤◌, ◌<◌, ◌≡◌, List, length}
use Rattle.std.proofs.Math.Option.{some}
use Rattle.std.proofs.Math.ListN.{get_elem?}
use Rattle.tables.specs.Table.{Table, table_of}
use Rattle.tables.specs.Plan.{plan_of}
use Rattle.tables.specs.Planned.{planned_width, planned_of, response_in}
use Rattle.tables.specs.Checks.{Rows}
use Rattle.test.specs.Test.{Passes}
use Rattle.sheet.specs.Sheet.{Task, Sheet, ticks_of}
use Rattle.printing.specs.Printed.{plan_text, refused_line}
use Rattle.program.specs.Reply.{Page}
use Rattle.demands.specs.Demand2.{Accepted}
use Rattle.demands.specs.Demand3.{NeverLonger, TakesExactly}

-- the text is a sheet, and this holds of its table in ticks
pub record OfItsTable (text : List ℕ) (Holds : List ℕ → Type 0) : Type 0 where
  pub tick : ℕ
  pub tasks : List Task
  pub sheet : Sheet text tick tasks
  pub holds : Holds (ticks_of tick tasks)

-- row i of a planned table: under its ranks and lengths no job of the row takes longer than its response, some job
-- takes exactly that, and it is at most the row's deadline
pub record RowHolds (tb : Table) (planned : List ℕ) (i : ℕ) : Type 0 where
  pub never_longer : NeverLonger tb (planned_of planned) i (response_in planned i)
  pub reached : TakesExactly tb (planned_of planned) i (response_in planned i)
  pub in_time : response_in planned i ≤ tb.D i

-- where the page is the text of a planned table, the text is a sheet, each row of its table has its line, and each line
-- holds
abbrev pub PrintedPlanHolds : Type 0
PrintedPlanHolds =
    (text page planned : List ℕ) → Page text page → Rows planned_width planned → page ≡ plan_text planned →
    OfItsTable text (λ xs.
    (length planned ≡ planned_width * (table_of xs).n) × ((i : ℕ) → i < (table_of xs).n → RowHolds (table_of xs) planned i))

-- request (i) of document 02, "Neither may grow": where the page is the text of a planned table, the response of each
-- row, in microseconds, is at most the deadline that the line of its task says
abbrev pub PrintedWithinTheSheet : Type 0
PrintedWithinTheSheet =
    (text page planned : List ℕ) → Page text page → Rows planned_width planned → page ≡ plan_text planned →
    (tick : ℕ) (tasks : List Task) → Sheet text tick tasks →
    (i : ℕ) (t : Task) → get_elem? tasks i ≡ some t → response_in planned i * tick ≤ t.D

-- where the page is the line `refused 5`, the text is a sheet, and no ranks with any lengths pass for its table
abbrev pub PrintedFiveHolds : Type 0
PrintedFiveHolds =
    (text page : List ℕ) (place : ℕ) → Page text page → page ≡ refused_line 5 place →
    OfItsTable text (λ xs. (ps : List ℕ) → Accepted xs ps → Passes (table_of xs) (plan_of ps) → ⊥)
