-- Text sheets: document 01, "Sheet and printed plan"; how times become ticks: request (i) of document 02; the region in
-- the middle of a task: its request (ii).
use Rattle.std.specs.Prelude.{ℕ, ◌+◌, ◌-◌, ◌/◌, ◌≤◌, ◌≡◌, List, [], ◌∷◌, ◌++◌, length, take}
use Rattle.std.proofs.Math.Option.{Option, none, some}
use Rattle.counting.specs.Up.{up}
use Rattle.tables.specs.Table.{most_rows}
use Rattle.decimal.specs.Word.{word}
use Rattle.decimal.specs.Decimal.{decimal}
use Rattle.reading.specs.Begins.{Begins, Between}

-- a middle region in microseconds: what a job executes before it, and its length
pub record Region : Type 0 where
  pub start : ℕ
  pub length : ℕ

-- the worst run, the deadline and the least spacing of a task in microseconds, and its middle region where it has one
pub record Task : Type 0 where
  pub C : ℕ
  pub D : ℕ
  pub T : ℕ
  pub region : Option Region

-- "N from 1 to 1,000": the longest tick in microseconds
abbrev pub longest_tick : ℕ
longest_tick = 1000

-- "The first line": the word `tick`, one space, the tick in decimal, a line feed
unfoldable pub tick_line : ℕ → List ℕ
tick_line tick = word "tick " ++ decimal tick ++ word "\n"

-- "each 1 to 1,000,000,000": the longest time of a task in microseconds
abbrev pub longest_time : ℕ
longest_time = 1000000000

-- (ii), "both or neither": what a line carries after T, one space and the start, one space and the length; or nothing
abbrev pub region_text : Option Region → List ℕ
region_text none = []
region_text (some r) = word " " ++ decimal r.start ++ word " " ++ decimal r.length

-- a line `task C D T`: the word `task`, then one space and a time in decimal, three times over, what it carries after
-- them, and a line feed
unfoldable pub task_line : Task → List ℕ
task_line t =
    word "task " ++ decimal t.C ++ word " " ++ decimal t.D ++ word " " ++ decimal t.T ++ region_text t.region
    ++ word "\n"

-- (ii), "the start is 0 to": a start may be 0, a length is at least 1, and both are at most the longest time
abbrev pub RegionWithin : Option Region → Type 0
RegionWithin none = Unit {0}
RegionWithin (some r) = Between 0 longest_time r.start × Between 1 longest_time r.length

-- each time of a task is at least 1 and at most the longest, and its region is within its own limits
pub record TaskWithin (t : Task) : Type 0 where
  pub C : Between 1 longest_time t.C
  pub D : Between 1 longest_time t.D
  pub T : Between 1 longest_time t.T
  pub region : RegionWithin t.region

-- the lines of the tasks in their order, and that all their times are within the limits
unfoldable pub task_lines : List Task → List ℕ
task_lines [] = []
task_lines (t ∷ ts) = task_line t ++ task_lines ts

abbrev pub TasksWithin : List Task → Type 0
TasksWithin [] = Unit {0}
TasksWithin (t ∷ ts) = TaskWithin t × TasksWithin ts

-- a tick and tasks that a well-formed sheet may have: the tick and all times within their limits, 1 to 32 tasks
pub record WellFormed (tick : ℕ) (ts : List Task) : Type 0 where
  pub tick_within : Between 1 longest_tick tick
  pub some : 1 ≤ length ts
  pub few : length ts ≤ most_rows
  pub tasks : TasksWithin ts

-- their text: the first line, and the lines of the tasks behind it
unfoldable pub sheet_text : ℕ → List Task → List ℕ
sheet_text tick ts = tick_line tick ++ task_lines ts

-- the bytes are the well-formed sheet of this tick and these tasks
pub record Sheet (text : List ℕ) (tick : ℕ) (ts : List Task) : Type 0 where
  pub formed : WellFormed tick ts
  pub bytes : text ≡ sheet_text tick ts

-- some well-formed sheet begins with p
abbrev pub Shared : List ℕ → Type 0
Shared p = (tick : ℕ) × (ts : List Task) × WellFormed tick ts × Begins p (sheet_text tick ts)

-- "the longest prefix": some well-formed sheet begins with the first `place` bytes of the text, and none with more
-- of them
pub record LongestPrefix (text : List ℕ) (place : ℕ) : Type 0 where
  pub within : place ≤ length text
  pub shared : Shared (take place text)
  pub longest : (m : ℕ) → m ≤ length text → Shared (take m text) → m ≤ place

-- (ii), "Start is rounded down and end up": the whole ticks before a region, its start divided by the tick and rounded
-- down; and its length in ticks, from there to its end divided by the tick and rounded up; "0 and 0 mean none"
abbrev pub start_ticks : ℕ → Option Region → ℕ
start_ticks tick none = 0
start_ticks tick (some r) = r.start / tick

abbrev pub length_ticks : ℕ → Option Region → ℕ
length_ticks tick none = 0
length_ticks tick (some r) = up (r.start + r.length) tick - start_ticks tick (some r)

-- (i), "C stays rounded up": the row of a task in whole ticks, its worst run divided by the tick and rounded up, its
-- deadline and its least spacing rounded down, then start and length of its region; and the table of all
abbrev pub row_of : ℕ → Task → List ℕ
row_of tick t =
    up t.C tick ∷ t.D / tick ∷ t.T / tick ∷ start_ticks tick t.region ∷ length_ticks tick t.region ∷ []

unfoldable pub ticks_of : ℕ → List Task → List ℕ
ticks_of tick [] = []
ticks_of tick (t ∷ ts) = row_of tick t ++ ticks_of tick ts
