-- What the readers of lines answer, said of the line that is read.
use Rattle.std.specs.Prelude.{ℕ, ◌*◌, ◌≤◌, ◌≡◌, List, [], ◌++◌, length, drop}
use Rattle.std.specs.Prelude.{Option as Maybe, Some, None, Result, Ok, Err}
use Rattle.std.proofs.Math.Option.{Option, none, some}
use Rattle.tables.specs.Table.{row_width, most_rows}
use Rattle.decimal.specs.Word.{word}
use Rattle.decimal.specs.Decimal.{decimal}
use Rattle.reading.specs.Begins.{Between}
use Rattle.reading.specs.inside.Piece.{Piece, number_piece, followed, Stuck}
use Rattle.reading.specs.inside.Read.{Past}
use Rattle.reading.specs.declared.Cursor.{Cursor}
use Rattle.sheet.specs.Sheet.{Region, Task, longest_tick, longest_time, tick_line, task_line, RegionWithin}
use Rattle.sheet.specs.Sheet.{TaskWithin, TasksWithin, sheet_text, Sheet, ticks_of}
use Rattle.sheet.specs.Answers.{sheet_form}
use Rattle.sheet.specs.declared.Times.{Times}
use Rattle.sheet.specs.declared.RegionTimes.{RegionTimes}

abbrev pub tick_piece : Piece
tick_piece = record { Value = ℕ; text = tick_line; Allowed = Between 1 longest_tick }

abbrev pub task_piece : Piece
task_piece = record { Value = Task; text = task_line; Allowed = TaskWithin }

abbrev pub ReadsTick : Cursor → Cursor → Result ℕ ℕ → Type 0
ReadsTick c d (Ok tick) = Past tick_piece c d tick
ReadsTick c d (Err place) = Stuck tick_piece c.text.now c.at place

-- a time of at least so much with a space behind it, one with a space or a line feed, and one that ends the line
abbrev pub spaced : ℕ → Piece
spaced least = number_piece least longest_time (word " ")

abbrev pub spacing : Piece
spacing = number_piece 1 longest_time (word " \n")

abbrev pub ended : Piece
ended = number_piece 1 longest_time (word "\n")

-- what stands behind the byte that ends the spacing: start and length of a region after a space, nothing after a line
-- feed
abbrev pub behind_spacing : Option Region → List ℕ
behind_spacing none = []
behind_spacing (some r) = decimal r.start ++ word " " ++ decimal r.length ++ word "\n"

abbrev pub FitsEnd : ℕ → Option Region → Type 0
FitsEnd end none = end ≡ 10
FitsEnd end (some r) = (end ≡ 32) × RegionWithin (some r)

abbrev pub region_piece : ℕ → Piece
region_piece end = record { Value = Option Region; text = behind_spacing; Allowed = FitsEnd end }

-- the times of a task line, each with the byte that ends it: those behind the deadline, those behind the run, and all,
-- with the task that they tell
abbrev pub after_deadline : Piece
after_deadline = followed spacing (λ t. region_piece t.1)

abbrev pub after_run : Piece
after_run = followed (spaced 1) (λ _. after_deadline)

abbrev pub times_piece : Piece
times_piece = followed (spaced 1) (λ _. after_run)

abbrev pub told : times_piece.Value → Task
told v = record { C = v.0.0; D = v.1.0.0; T = v.1.1.0.0; region = v.1.1.1 }

-- the region and the task that were read
abbrev pub region_of : Maybe RegionTimes → Option Region
region_of None = none
region_of (Some r) = some (record { start = r.start; length = r.length })

abbrev pub task_of : Times → Task
task_of t = record { C = t.c; D = t.d; T = t.t; region = region_of t.region }

abbrev pub ReadsRegion : Cursor → Cursor → Result RegionTimes ℕ → Type 0
ReadsRegion c d (Ok r) = Past (region_piece 32) c d (region_of (Some r))
ReadsRegion c d (Err place) = Stuck (region_piece 32) c.text.now c.at place

abbrev pub ReadsTimes : Cursor → Cursor → Result Times ℕ → Type 0
ReadsTimes c d (Ok t) = (v : times_piece.Value) × (told v ≡ task_of t) × Past times_piece c d v
ReadsTimes c d (Err place) = Stuck times_piece c.text.now c.at place

abbrev pub ReadsTask : Cursor → Cursor → Result Times ℕ → Type 0
ReadsTask c d (Ok t) = Past task_piece c d (task_of t)
ReadsTask c d (Err place) = Stuck task_piece c.text.now c.at place

-- up to the place at the text is the first line and the lines of the tasks ts, all within their limits
pub record Front (text : List ℕ) (tick : ℕ) (ts : List Task) (at : ℕ) : Type 0 where
  pub tick_within : Between 1 longest_tick tick
  pub few : length ts ≤ most_rows
  pub tasks : TasksWithin ts
  pub within : at ≤ length text
  pub behind : at ≡ length (sheet_text tick ts)
  pub split : text ≡ sheet_text tick ts ++ drop at text

-- n tasks have been read up to the place at, and their rows stand at the front of the table
pub record Filled (text : List ℕ) (tick : ℕ) (before : List ℕ) (at n : ℕ) (table : List ℕ) : Type 0 where
  pub tasks : List Task
  pub front : Front text tick tasks at
  pub many : length tasks ≡ n
  pub rows : table ≡ ticks_of tick tasks ++ drop (row_width * n) before

abbrev pub ReadsTasks : List ℕ → ℕ → List ℕ → List ℕ → Result ℕ ℕ → Type 0
ReadsTasks s tick before table (Ok n) = (1 ≤ n) × Filled s tick before (length s) n table
ReadsTasks s tick before table (Err place) = (sheet_form s).hits place

abbrev pub ReadsSheet : List ℕ → List ℕ → List ℕ → Result ℕ ℕ → Type 0
ReadsSheet s before table (Ok n) =
    (tick : ℕ) × (ts : List Task) × Sheet s tick ts × (length ts ≡ n)
    × (table ≡ ticks_of tick ts ++ drop (row_width * n) before)
ReadsSheet s before table (Err place) = (sheet_form s).hits place
