-- The task table that stands in an array of row structs, and the row that stands in five numbers of a slice.
use Rattle.std.specs.Prelude.{ℕ, ◌+◌, ◌-◌, ◌*◌, max, ◌≤◌, ◌<◌, List, get_or}
use Rattle.tables.specs.Table.{Table, row_width}
use Rattle.tables.specs.declared.task.Row.{Row}

-- what stands past the last row
abbrev pub no : Row
no = record { c = 0; d = 0; t = 0; start = 0; region = 0 }

-- the i-th five numbers of a slice
abbrev pub row_at : List ℕ → ℕ → Row
row_at xs i =
    record {
      c = get_or xs (row_width * i) 0;
      d = get_or xs (row_width * i + 1) 0;
      t = get_or xs (row_width * i + 2) 0;
      start = get_or xs (row_width * i + 3) 0;
      region = get_or xs (row_width * i + 4) 0;
    }

-- the table of the first n rows
abbrev pub table_in : List Row → ℕ → Table
table_in rows n =
    record {
      n = n;
      C = λ i. (get_or rows i no).c;
      D = λ i. (get_or rows i no).d;
      T = λ i. (get_or rows i no).t;
      S = λ i. (get_or rows i no).start;
      M = λ i. (get_or rows i no).region;
    }

-- the middle region of such a row ends before C
abbrev pub EndsBeforeRun : Row → Type 0
EndsBeforeRun row = row.start + row.region < row.c

-- the most that the length of such a row may be
abbrev pub cap_in : Row → ℕ
cap_in row = row.c - (row.start + row.region)

-- a length that is 0 or above that is at fault
abbrev pub LengthAtFaultIn : Row → ℕ → Type 0
LengthAtFaultIn row len = ((1 ≤ len) × (len ≤ cap_in row)) → ⊥

-- what such a row blocks with where the length of its final region is q
abbrev pub longer_in : Row → ℕ → ℕ
longer_in row q = max row.region q
