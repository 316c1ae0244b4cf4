-- Task tables: document 01, "Tables", the item "Task table"; the two further numbers of a row: request (ii) of document
-- 02.
use Rattle.std.specs.Prelude.{ℕ, ◌+◌, ◌*◌, ◌/◌, ◌≤◌, ◌<◌, ◌≡◌, List, length, get_or}

-- n rows; C i the worst run, D i the deadline and T i the least spacing of row i, for i below n; S i the ticks that a
-- job of it executes before its middle region and M i the length of that region, both 0 where it has none
pub record Table : Type 0 where
  pub n : ℕ
  pub C : ℕ → ℕ
  pub D : ℕ → ℕ
  pub T : ℕ → ℕ
  pub S : ℕ → ℕ
  pub M : ℕ → ℕ

-- (ii), "five numbers a row": its worst run, its deadline, its least spacing, and start and length of its middle region
abbrev pub row_width : ℕ
row_width = 5

-- "32 rows": the most that a table may have
abbrev pub most_rows : ℕ
most_rows = 32

-- "1 to 1,000,000": the largest number that may stand in a task table
abbrev pub most : ℕ
most = 1000000

-- the task table that stands in a slice: one row for every whole five numbers, and 0 for a number past the end
abbrev pub table_of : List ℕ → Table
table_of xs =
    record {
      n = length xs / row_width;
      C = λ i. get_or xs (row_width * i) 0;
      D = λ i. get_or xs (row_width * i + 1) 0;
      T = λ i. get_or xs (row_width * i + 2) 0;
      S = λ i. get_or xs (row_width * i + 3) 0;
      M = λ i. get_or xs (row_width * i + 4) 0;
    }

-- a number that may stand in a task table, at least 1 and at most the largest
pub record Within (x : ℕ) : Type 0 where
  pub low : 1 ≤ x
  pub high : x ≤ most

-- (ii), "the ticks executed before": how many a job of row i has executed when its middle region ends
abbrev pub region_end : Table → ℕ → ℕ
region_end tb i = tb.S i + tb.M i

-- a sound row: its C, D and T from 1 to 1,000,000, and how D lies to T does not matter; (ii), "one tick before C": its
-- middle region ends before C, and where it has no length it has no start
pub record SoundRow (tb : Table) (i : ℕ) : Type 0 where
  pub C : Within (tb.C i)
  pub D : Within (tb.D i)
  pub T : Within (tb.T i)
  pub region : region_end tb i < tb.C i
  pub none : tb.M i ≡ 0 → tb.S i ≡ 0

-- a sound task table: 1 to 32 rows, each of them sound
pub record Sound (tb : Table) : Type 0 where
  pub some : 1 ≤ tb.n
  pub few : tb.n ≤ most_rows
  pub row : (i : ℕ) → i < tb.n → SoundRow tb i
