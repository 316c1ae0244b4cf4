-- Demand 2, in the words of a caller of `times` and `plan`: each statement is about whatever the promise of the
-- operation allows it to answer.
use Rattle.std.specs.Prelude.{ℕ, ◌*◌, ◌≤◌, ◌<◌, ◌≡◌, ◌↔◌, List, length}
use Rattle.counting.specs.Sum.{without}
use Rattle.tables.specs.Table.{Table, Sound, table_of, row_width}
use Rattle.tables.specs.Plan.{Plan, WellFormed, plan_of, plan_width, cap, longer, blocks}
use Rattle.tables.specs.Refusal.{Clear, Result}
use Rattle.tables.specs.Checks.{plan_form}
use Rattle.test.specs.Test.{horizon, BusyWithin, Response, ResponseOf, blocking, Passes}
use Rattle.test.specs.Answers.{times_width, time_in, TimesAnswer, VerdictAnswer}
use Rattle.choice.specs.Choice.{unplaced}
use Rattle.choice.specs.Answers.{PlanAnswer, planned_width, planned_of, response_in}

-- "a sound table": whole rows of one, a busy period of at most H, and three places of the output for each row
pub record Plannable (xs out : List ℕ) : Type 0 where
  pub whole : length xs ≡ row_width * (table_of xs).n
  pub sound : Sound (table_of xs)
  pub busy : BusyWithin (table_of xs)
  pub room : planned_width * (table_of xs).n ≤ length out

-- ranks with lengths: a slice that `times` accepts as a plan of the table
abbrev pub Accepted : List ℕ → List ℕ → Type 0
Accepted xs ps = Clear (plan_form (table_of xs) ps)

-- R is the response that the test has for row i under the plan p, the only one, at least the row's C and at most H
pub record TestsResponse (tb : Table) (p : Plan) (i R : ℕ) : Type 0 where
  pub is : ResponseOf tb p i R
  pub only : (S : ℕ) → ResponseOf tb p i S → S ≡ R
  pub low : tb.C i ≤ R
  pub high : R ≤ horizon

-- "Response times equal": what times wrote for a row is the test's response under the plan that it was given
abbrev pub TimesAreTheTests : Type 0
TimesAreTheTests =
    (xs ps out : List ℕ) (r : Result) → TimesAnswer xs ps out r → r.number ≡ 0 →
    (i : ℕ) → i < (table_of xs).n → TestsResponse (table_of xs) (plan_of ps) i (time_in r.out i)

-- and what plan wrote for a row is the test's response under the plan that it wrote
abbrev pub PlannedAreTheTests : Type 0
PlannedAreTheTests =
    (xs out : List ℕ) (r : Result) → PlanAnswer xs out r → r.number ≡ 0 →
    (i : ℕ) → i < (table_of xs).n → TestsResponse (table_of xs) (planned_of r.out) i (response_in r.out i)

-- complete, "refused exactly if": plan answers 5 exactly if no ranks with lengths, as `times` accepts them, pass
abbrev pub RefusedExactlyIfNonePasses : Type 0
RefusedExactlyIfNonePasses =
    (xs out : List ℕ) (r : Result) → Plannable xs out → PlanAnswer xs out r →
    (r.number ≡ 5) ↔ ((ps : List ℕ) → Accepted xs ps → Passes (table_of xs) (plan_of ps) → ⊥)

-- "the shortest region that passes": a given plan is well formed and passes and, for the rank held by row y, any
-- row z of that or a higher rank and any length of z: where the response of z with that length, the other rows of
-- these ranks above it and the rows of lower rank below it, is at most the deadline of z, y blocks with no more than
-- z would with that length, and where with as much y is not later in the table; and where z is y, that length is no
-- shorter than its own
pub record Given (tb : Table) (p : Plan) : Type 0 where
  pub well_formed : WellFormed tb p
  pub passes : Passes tb p
  pub shortest :
      (y z q R : ℕ) → y < tb.n → z < tb.n → p.rank z ≤ p.rank y → 1 ≤ q → q ≤ cap tb z →
      Response tb (without (unplaced p (p.rank y)) z) (blocking tb p (p.rank y)) z q R → R ≤ tb.D z →
      (blocks tb p y ≤ longer tb z q) × (blocks tb p y ≡ longer tb z q → y ≤ z) × (y ≡ z → p.len y ≤ q)

abbrev pub ShortestAtEachRank : Type 0
ShortestAtEachRank =
    (xs out : List ℕ) (r : Result) → PlanAnswer xs out r → r.number ≡ 0 → Given (table_of xs) (planned_of r.out)

-- the rank and length columns of a planned table, as a plan for times, verdict and play
pub record Columns (tb : Table) (planned ps : List ℕ) : Type 0 where
  pub whole : length ps ≡ plan_width * tb.n
  pub rank : (i : ℕ) → i < tb.n → (planned_of planned).rank i ≡ (plan_of ps).rank i
  pub len : (i : ℕ) → i < tb.n → (planned_of planned).len i ≡ (plan_of ps).len i

-- what `times` and `verdict` answer for the columns that `plan` wrote: the response column, and yes
pub record Agrees (xs ps : List ℕ) (planned : List ℕ) : Type 0 where
  pub accepted : Accepted xs ps
  pub times :
      (out : List ℕ) (r : Result) → times_width * (table_of xs).n ≤ length out → TimesAnswer xs ps out r →
      (r.number ≡ 0) × ((i : ℕ) → i < (table_of xs).n → time_in r.out i ≡ response_in planned i)
  pub verdict : (r : Result) → VerdictAnswer xs ps r → (r.number ≡ 0) × (r.value ≡ 1)

-- together: there are such columns, and for any of them the three operations agree
abbrev pub PlanTimesVerdictAgree : Type 0
PlanTimesVerdictAgree =
    (xs out : List ℕ) (r : Result) → PlanAnswer xs out r → r.number ≡ 0 →
    ((ps : List ℕ) × Columns (table_of xs) r.out ps)
    × ((ps : List ℕ) → Columns (table_of xs) r.out ps → Agrees xs ps r.out)
