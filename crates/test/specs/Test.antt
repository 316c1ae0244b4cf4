-- The test of document 01, "The test, in whole ticks", and its busy period.
use Rattle.std.specs.Prelude.{ℕ, pred, suc, ◌+◌, ◌-◌, ◌*◌, ◌/◌, ◌≤◌, ◌<◌, ◌≡◌, Bool, true, ltb}
use Rattle.counting.specs.Up.{up}
use Rattle.counting.specs.Sum.{given, sum, largest}
use Rattle.counting.specs.Least.{Least}
use Rattle.tables.specs.Table.{Table}
use Rattle.tables.specs.Plan.{Plan, blocks}

-- "Tables", "The horizon H": the longest busy period, in ticks, that is not refused. Of the definitions of the test
-- only `BusyWithin` has it.
abbrev pub horizon : ℕ
horizon = 1000000

-- "ceil(t/T)": how many releases lie before tick t, the first at tick 0 and the others every T ticks; and
-- "floor(s/T)+1": how many of them lie at tick s or before
abbrev pub before : ℕ → ℕ → ℕ
before t T = up t T

abbrev pub upto : ℕ → ℕ → ℕ
upto s T = s / T + 1

-- "the sum over the rows": what the rows at which P passes ask for, each its C for every release that a rule counts
unfoldable pub load : (ℕ → ℕ → ℕ) → Table → (ℕ → Bool) → ℕ → ℕ
load releases tb P t = sum (λ j. given (P j) (releases t (tb.T j) * tb.C j)) tb.n

-- the test that "all rows" pass
abbrev pub every_row : ℕ → Bool
every_row j = true

-- the right side of "Busy period": what all rows ask for by their releases before t
unfoldable pub busy_side : Table → ℕ → ℕ
busy_side tb t = load before tb every_row t

-- "Busy period": the first t from 1 on that equals its right side; an overloaded table has none
abbrev pub Busy : Table → ℕ → Type 0
Busy tb t = Least (λ u. u ≡ busy_side tb u) 1 t

-- "up to H": there is a busy period, and it is at most H
pub record BusyWithin (tb : Table) : Type 0 where
  pub period : ℕ
  pub busy : Busy tb period
  pub within : period ≤ horizon

-- Row i with blocking b, where the rows at which P passes stand above it, and q is the length of its final region.
module _ (tb : Table) (P : ℕ → Bool) (b i : ℕ) where
  -- the right side of "Active period L": the blocking, and what row i and the rows above it ask for by their
  -- releases before t
  unfoldable pub active_side : ℕ → ℕ
  active_side t = b + before t (tb.T i) * tb.C i + load before tb P t

  -- "Active period L": the first t from 1 on that equals its right side
  abbrev pub Active : ℕ → Type 0
  Active L = Least (λ t. t ≡ active_side t) 1 L

  -- "Jobs K": how many jobs of row i count, which is L / T rounded up
  abbrev pub jobs : ℕ → ℕ
  jobs L = before L (tb.T i)

  -- the right side of "Start s of job k": the blocking, k worst runs of row i less the final region of the last,
  -- and what the rows above ask for by the releases that a rule counts. The law `start_side_whole` says that for k
  -- of at least 1 and a length of at most C nothing is cut off.
  unfoldable pub start_side : (ℕ → ℕ → ℕ) → ℕ → ℕ → ℕ → ℕ
  start_side releases q k s = b + (k * tb.C i - q) + load releases tb P s

  -- "Start s of job k": the first s from 0 on that equals its own right side, a release at s itself counted
  abbrev pub Start : ℕ → ℕ → ℕ → Type 0
  Start q k s = Least (λ u. u ≡ start_side upto q k u) 0 s

  -- "Finish f": the start of job k plus the length of the final region
  pub record Finish (q k f : ℕ) : Type 0 where
    pub start : ℕ
    pub starts : Start q k start
    pub ends : f ≡ start + q

  -- "Response R": job k + 1, for k below K, counts as released at k · T; one of these K jobs finishes exactly R
  -- ticks after its release, and none finishes more than R ticks after its own. The law `start_exists` says that
  -- each of them has a start.
  pub record Response (q R : ℕ) : Type 0 where
    pub period : ℕ
    pub active : Active period
    pub job : ℕ
    pub counts : job < jobs period
    pub reached : Finish q (suc job) (R + job * tb.T i)
    pub highest : (k f : ℕ) → k < jobs period → Finish q (suc k) f → f ≤ R + k * tb.T i

-- "above": the rows of a higher rank than r, that is of a smaller number
abbrev pub above : Plan → ℕ → ℕ → Bool
above p r j = ltb (p.rank j) r

-- "below": the rows of a lower rank than r, that is of a greater number
abbrev pub below : Plan → ℕ → ℕ → Bool
below p r j = ltb r (p.rank j)

-- request (ii) of document 02, "the longer of a row's two regions": the most that a row below blocks with, 0 where
-- there is nothing below
unfoldable pub longest : Table → Plan → ℕ → ℕ
longest tb p r = largest (λ j. given (below p r j) (blocks tb p j)) tb.n

-- "Blocking B": one less than that, since a job that blocks has executed a tick of its region before; 0 where there
-- is nothing below. The law `blocking_some` says that nothing is cut off where there is something below.
unfoldable pub blocking : Table → Plan → ℕ → ℕ
blocking tb p r = pred (longest tb p r)

-- R is the response of row i under a plan: the row's rank settles what is above it and what blocks it
abbrev pub ResponseOf : Table → Plan → ℕ → ℕ → Type 0
ResponseOf tb p i R = Response tb (above p (p.rank i)) (blocking tb p (p.rank i)) i (p.len i) R

-- row i passes: it has a response, and that is at most its deadline
pub record RowPasses (tb : Table) (p : Plan) (i : ℕ) : Type 0 where
  pub R : ℕ
  pub response : ResponseOf tb p i R
  pub within : R ≤ tb.D i

-- "A plan passes": every row of the table does
abbrev pub Passes : Table → Plan → Type 0
Passes tb p = (i : ℕ) → i < tb.n → RowPasses tb p i
