-- The printed plan and the line of a refusal: document 01, "Sheet and printed plan".
use Rattle.std.specs.Prelude.{ℕ, zero, suc, ◌+◌, ◌*◌, ◌/◌, List, [], ◌++◌, length, get_or}
use Rattle.decimal.specs.Word.{word}
use Rattle.decimal.specs.Decimal.{decimal}
use Rattle.tables.specs.Planned.{planned_width}

-- "The first line": the word `plan`, one space, the number of rows in decimal, a line feed
unfoldable pub plan_line : ℕ → List ℕ
plan_line n = word "plan " ++ decimal n ++ word "\n"

-- "each row line": the number of the row, its rank, its length and its response in decimal, each behind its own
-- word, with one space between any two, and a line feed
unfoldable pub row_line : ℕ → ℕ → ℕ → ℕ → List ℕ
row_line i rank len response =
    (word "row " ++ decimal i)
    ++ (word " rank " ++ decimal rank)
    ++ (word " length " ++ decimal len)
    ++ (word " response " ++ decimal response)
    ++ word "\n"

-- the lines of the rows below a number, counted from 0, of a planned table
unfoldable pub row_lines : List ℕ → ℕ → List ℕ
row_lines planned zero = []
row_lines planned (suc i) =
    row_lines planned i
    ++ row_line
    i
    (get_or planned (planned_width * i) 0)
    (get_or planned (planned_width * i + 1) 0)
    (get_or planned (planned_width * i + 2) 0)

-- the text of a planned table: the first line, and a line for every whole row
unfoldable pub plan_text : List ℕ → List ℕ
plan_text planned = plan_line (length planned / planned_width) ++ row_lines planned (length planned / planned_width)

-- the bytes of the longest text of 32-bit numbers: a first line of 8, ten row lines of 60 and twenty-two of 61
abbrev pub longest_text : ℕ
longest_text = 1950

-- "For a refusal": the word `refused`, then the number and then the place in decimal, one space in front of each,
-- and a line feed
unfoldable pub refused_line : ℕ → ℕ → List ℕ
refused_line number place = (word "refused " ++ decimal number) ++ (word " " ++ decimal place) ++ word "\n"
