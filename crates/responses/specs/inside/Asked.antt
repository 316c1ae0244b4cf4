-- What the functions of the response times ask for and answer.
use Rattle.std.specs.Prelude.{ℕ, pred, ◌*◌, ◌/◌, ◌≤◌, ◌<◌, ◌≡◌, true, false, List, length, get_or}
use Rattle.counting.specs.Sum.{given, largest}
use Rattle.marks.specs.inside.Marks.{marked, Where}
use Rattle.tables.specs.Table.{Table, Sound, most_rows}
use Rattle.tables.specs.Plan.{Plan, WellFormed, plan_width, plan_of, blocks}
use Rattle.test.specs.Test.{horizon, BusyWithin, Active, above, below, ResponseOf}
use Rattle.sides.specs.declared.ask.Ask.{Ask}
use Rattle.sides.specs.inside.Asks.{Asks}

-- row i of a sound table, with the rows of the set above it, blocking b and length q, has an active period up to H; and
-- what the table's rows ask with
pub record Ranked (tb : Table) (asks : List Ask) (set b i q : ℕ) : Type 0 where
  pub sound : Sound tb
  pub asked : Asks tb asks
  pub inside : (j : ℕ) → marked set j ≡ true → j < tb.n
  pub apart : marked set i ≡ false
  pub row : i < tb.n
  pub some : 1 ≤ q
  pub most : q ≤ tb.C i
  pub period : ℕ
  pub active : Active tb (marked set) b i period
  pub within : period ≤ horizon

-- how many rows stand in a plan
abbrev pub plan_rows : List ℕ → ℕ
plan_rows ps = length ps / plan_width

-- the set marks the rows below n of higher rank than r, and no others
abbrev pub Above : Plan → ℕ → ℕ → ℕ → Type 0
Above p n r set = Where (above p r) n set

-- a list has a number for each of n rows, and `Holds` says which; the places past the rows hold 0
pub record Column (n : ℕ) (Holds : ℕ → ℕ → Type 0) (l : List ℕ) : Type 0 where
  pub each : (i : ℕ) → i < n → Holds i (get_or l i 0)
  pub past : (i : ℕ) → n ≤ i → get_or l i 0 ≡ 0
  pub whole : length l ≡ most_rows

-- what each row blocks with
abbrev pub Blocks : Table → Plan → List ℕ → Type 0
Blocks tb p bs = Column tb.n (λ i b. b ≡ blocks tb p i) bs

-- b is one less than the most that stands in bs for a row below rank r, of the first n; 0 where there is none
abbrev pub Blocking : Plan → ℕ → List ℕ → ℕ → ℕ → Type 0
Blocking p n bs r b = b ≡ pred (largest (λ j. given (below p r j) (get_or bs j 0)) n)

-- a sound table that has a busy period up to H, and a slice that holds a well-formed plan of it
pub record Planned (tb : Table) (ps : List ℕ) : Type 0 where
  pub sound : Sound tb
  pub busy : BusyWithin tb
  pub whole : length ps ≡ plan_width * tb.n
  pub plan : WellFormed tb (plan_of ps)

-- the response of each row
abbrev pub Responses : Table → Plan → List ℕ → Type 0
Responses tb p rs = Column tb.n (ResponseOf tb p) rs
