-- Demand 3, by document 01 "about the rule itself": in no lawful job list does a job take longer than its row's
-- response, and in some list a job takes exactly that.
use Rattle.std.specs.Prelude.{ℕ, ◌+◌, ◌≤◌, ◌<◌, ◌≡◌}
use Rattle.tables.specs.Table.{Table, Sound}
use Rattle.tables.specs.Plan.{Plan, WellFormed}
use Rattle.tables.specs.Jobs.{Jobs, Lawful}
use Rattle.test.specs.Test.{BusyWithin, ResponseOf, Passes}
use Rattle.kernel.specs.Rule.{executed, Finishes}

-- no job of row i takes longer than R: in every lawful list, of any number of jobs, at any ticks and in any order,
-- it has executed its whole run at tick release + R
abbrev pub NeverLonger : Table → Plan → ℕ → ℕ → Type 0
NeverLonger tb p i R =
    (js : Jobs) → Lawful tb js → (k : ℕ) → k < js.N → js.row k ≡ i →
    executed tb p js (js.release k + R) k ≡ js.run k

-- some job of row i takes exactly R: in a lawful list, with its releases in the order that play asks for, it is
-- unfinished at tick release + R − 1 and finished at tick release + R
pub record TakesExactly (tb : Table) (p : Plan) (i R : ℕ) : Type 0 where
  pub list : Jobs
  pub lawful : Lawful tb list
  pub order : (k l : ℕ) → k < l → l < list.N → list.release k ≤ list.release l
  pub job : ℕ
  pub is : job < list.N
  pub row : list.row job ≡ i
  pub finishes : Finishes tb p list job (list.release job + R)

-- The first half. Where a response exists nothing is asked of the busy period.
abbrev pub NoJobTakesLonger : Type 0
NoJobTakesLonger =
    (tb : Table) → Sound tb → (p : Plan) → WellFormed tb p → (i R : ℕ) → i < tb.n → ResponseOf tb p i R →
    NeverLonger tb p i R

-- The second half.
abbrev pub SomeJobTakesExactly : Type 0
SomeJobTakesExactly =
    (tb : Table) → Sound tb → (p : Plan) → WellFormed tb p → (i R : ℕ) → i < tb.n → ResponseOf tb p i R →
    TakesExactly tb p i R

-- no smaller number meets the first half, and no larger one the second
abbrev pub NoSmallerNumber : Type 0
NoSmallerNumber =
    (tb : Table) → Sound tb → (p : Plan) → WellFormed tb p → (i R : ℕ) → i < tb.n → ResponseOf tb p i R →
    (S : ℕ) → NeverLonger tb p i S → R ≤ S

abbrev pub NoLargerNumber : Type 0
NoLargerNumber =
    (tb : Table) → Sound tb → (p : Plan) → WellFormed tb p → (i R : ℕ) → i < tb.n → ResponseOf tb p i R →
    (S : ℕ) → TakesExactly tb p i S → S ≤ R

-- Both halves at once, for the tables that are not refused with 4: row i has one response, and it is exact.
pub record Exact (tb : Table) (p : Plan) (i : ℕ) : Type 0 where
  pub response : ℕ
  pub is : ResponseOf tb p i response
  pub only : (S : ℕ) → ResponseOf tb p i S → S ≡ response
  pub never_longer : NeverLonger tb p i response
  pub reached : TakesExactly tb p i response

abbrev pub EveryResponseIsExact : Type 0
EveryResponseIsExact =
    (tb : Table) → Sound tb → BusyWithin tb → (p : Plan) → WellFormed tb p → (i : ℕ) → i < tb.n → Exact tb p i

-- every job of every lawful list has executed its whole run at tick release + deadline
abbrev pub MeetsDeadlines : Table → Plan → Type 0
MeetsDeadlines tb p =
    (js : Jobs) → Lawful tb js → (k : ℕ) → k < js.N → executed tb p js (js.release k + tb.D (js.row k)) k
    ≡ js.run k

-- a plan passes the test exactly when the kernel never misses a deadline under it
pub record Decides (tb : Table) (p : Plan) : Type 0 where
  pub keeps : Passes tb p → MeetsDeadlines tb p
  pub needs : MeetsDeadlines tb p → Passes tb p

abbrev pub TheTestDecides : Type 0
TheTestDecides = (tb : Table) → Sound tb → BusyWithin tb → (p : Plan) → WellFormed tb p → Decides tb p
