-- What the program prints for a text: document 01, "Sheet and printed plan".
use Rattle.std.specs.Prelude.{ℕ, ◌*◌, ◌≡◌, List, take, replicate}
use Rattle.tables.specs.Table.{row_width, most_rows}
use Rattle.tables.specs.Refusal.{Result}
use Rattle.choice.specs.Answers.{planned_width, PlanAnswer}
use Rattle.sheet.specs.Answers.{SheetAnswer}
use Rattle.printing.specs.Printed.{plan_text, longest_text, refused_line}

-- an output with room for 32 rows of a width
abbrev pub blank : ℕ → List ℕ
blank width = replicate (width * most_rows) 0

-- where the result is a refusal the page is its line
abbrev pub Refuses : Result → List ℕ → Type 0
Refuses r page = (r.number ≡ 0 → ⊥) → page ≡ refused_line r.number r.place

-- the page of a task table: the text of what plan gives, or the line of its refusal
pub record PagePlanned (table page : List ℕ) : Type 0 where
  pub result : Result
  pub plan : PlanAnswer table (blank planned_width) result
  pub given : result.number ≡ 0 → page ≡ plan_text (take result.value result.out)
  pub refused : Refuses result page

-- "reads a sheet": the page of the table that sheet gives for the text, or the line of its refusal
pub record Page (text page : List ℕ) : Type 0 where
  pub result : Result
  pub sheet : SheetAnswer text (blank row_width) result
  pub given : result.number ≡ 0 → PagePlanned (take result.value result.out) page
  pub refused : Refuses result page

-- the bytes of a buffer that holds every page: the longest text, for a refusal's line is shorter
abbrev pub longest_page : ℕ
longest_page = longest_text
