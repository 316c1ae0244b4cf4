-- What rows ask with, each its run and the inverse of its spacing.
use Rattle.std.specs.Prelude.{ℕ, ◌-◌, ◌*◌, ◌/◌, ◌≤◌, ◌<◌, ◌≡◌, Bool, List, ltb, length, get_or, take}
use Prim.Native.Nat.{zero-le}
use Rattle.tables.specs.Table.{Table, most_rows}
use Rattle.sides.specs.inside.Inverse.{scale, inverse_of}
use Rattle.sides.specs.declared.ask.Ask.{Ask}

-- what stands past the last row
abbrev pub nothing : Ask
nothing = record { run = 0; inverse = 0; small_run = zero-le; small_inverse = zero-le }

-- what row p asks with, and the run and the inverse of that
abbrev pub row : List Ask → ℕ → Ask
row asks p = get_or asks p nothing

abbrev pub run : List Ask → ℕ → ℕ
run asks p = (row asks p).run

abbrev pub inverse : List Ask → ℕ → ℕ
inverse asks p = (row asks p).inverse

-- how often a row is released after the first tick, up to s; and what it asks for by that
abbrev pub releases : Ask → ℕ → ℕ
releases a s = s * a.inverse / scale

abbrev pub part_of : Ask → ℕ → ℕ
part_of a s = releases a s * a.run

-- row j is released again before t, where it is released at 0; by its spacing, and by the inverse of that
abbrev pub again : Table → ℕ → ℕ → Bool
again tb t j = ltb (tb.T j) t

abbrev pub repeated : List Ask → ℕ → ℕ → Bool
repeated asks t p = ltb 0 (releases (row asks p) (t - 1))

-- the list is what the rows of the table ask with
pub record Asks (tb : Table) (asks : List Ask) : Type 0 where
  pub long : length asks ≡ tb.n
  pub runs : (j : ℕ) → j < tb.n → run asks j ≡ tb.C j
  pub inverses : (j : ℕ) → j < tb.n → inverse asks j ≡ inverse_of (tb.T j)

-- the front of an array is what the rows of the table ask with, and past it nothing is asked for
pub record AsksFront (tb : Table) (asks : List Ask) : Type 0 where
  pub front : Asks tb (take tb.n asks)
  pub past : (k : ℕ) → tb.n ≤ k → row asks k ≡ nothing
  pub whole : length asks ≡ most_rows
