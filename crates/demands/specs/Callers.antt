-- Demand 3 in the caller's words: what `times`, `plan` or `verdict` said, against every lawful run, and against the
-- finishes that `play` wrote.
use Rattle.std.specs.Prelude.{ℕ, ◌+◌, ◌≤◌, ◌<◌, ◌≡◌, ◌↔◌, List, get_or}
use Rattle.tables.specs.Table.{table_of}
use Rattle.tables.specs.Plan.{plan_of}
use Rattle.tables.specs.Jobs.{jobs_of}
use Rattle.tables.specs.Refusal.{Result}
use Rattle.test.specs.Answers.{time_in, TimesAnswer, VerdictAnswer}
use Rattle.choice.specs.Answers.{PlanAnswer, planned_of, response_in}
use Rattle.kernel.specs.Answers.{PlayAnswer}
use Rattle.demands.specs.Demand2.{Columns}
use Rattle.demands.specs.Demand3.{NeverLonger, TakesExactly, MeetsDeadlines}

-- whatever times wrote for a row is exact for it under the plan that it was given: no job of any lawful list takes
-- longer, and in some lawful list a job takes exactly that
abbrev pub TimesAreExact : Type 0
TimesAreExact =
    (xs ps out : List ℕ) (r : Result) → TimesAnswer xs ps out r → r.number ≡ 0 →
    (i : ℕ) → i < (table_of xs).n →
    NeverLonger (table_of xs) (plan_of ps) i (time_in r.out i) × TakesExactly (table_of xs) (plan_of ps) i
    (time_in r.out i)

-- whatever plan wrote for a row is exact for it under the plan that it wrote
abbrev pub PlanIsExact : Type 0
PlanIsExact =
    (xs out : List ℕ) (r : Result) → PlanAnswer xs out r → r.number ≡ 0 →
    (i : ℕ) → i < (table_of xs).n →
    let p = planned_of r.out in
    NeverLonger (table_of xs) p i (response_in r.out i) × TakesExactly (table_of xs) p i (response_in r.out i)

-- verdict said yes exactly if no job of any lawful list misses its deadline
abbrev pub VerdictDecides : Type 0
VerdictDecides =
    (xs ps : List ℕ) (r : Result) → VerdictAnswer xs ps r → r.number ≡ 0 →
    (r.value ≡ 1) ↔ MeetsDeadlines (table_of xs) (plan_of ps)

-- whatever times wrote for a row, in whatever job list play accepted for that table and plan, the finish that play
-- wrote is at most release plus it
abbrev pub TimesHoldInPlay : Type 0
TimesHoldInPlay =
    (xs ps js lent-times lent-finishes : List ℕ) (times play : Result) →
    TimesAnswer xs ps lent-times times → times.number ≡ 0 →
    PlayAnswer xs ps js lent-finishes play → play.number ≡ 0 →
    (k : ℕ) → k < (jobs_of js).N →
    get_or play.out k 0 ≤ (jobs_of js).release k + time_in times.out ((jobs_of js).row k)

-- whatever plan wrote for a row, in whatever job list play accepted for that table and the plan that it wrote, the
-- finish that play wrote is at most release plus it
abbrev pub PlanHoldsInPlay : Type 0
PlanHoldsInPlay =
    (xs ps js lent-plan lent-finishes : List ℕ) (plan play : Result) →
    PlanAnswer xs lent-plan plan → plan.number ≡ 0 →
    Columns (table_of xs) plan.out ps →
    PlayAnswer xs ps js lent-finishes play → play.number ≡ 0 →
    (k : ℕ) → k < (jobs_of js).N →
    get_or play.out k 0 ≤ (jobs_of js).release k + response_in plan.out ((jobs_of js).row k)

-- where verdict said yes, in whatever job list play accepted for that table and plan, the finish that play wrote is
-- at most release plus deadline
abbrev pub VerdictHoldsInPlay : Type 0
VerdictHoldsInPlay =
    (xs ps js lent-finishes : List ℕ) (verdict play : Result) →
    VerdictAnswer xs ps verdict → verdict.number ≡ 0 → verdict.value ≡ 1 →
    PlayAnswer xs ps js lent-finishes play → play.number ≡ 0 →
    (k : ℕ) → k < (jobs_of js).N →
    get_or play.out k 0 ≤ (jobs_of js).release k + (table_of xs).D ((jobs_of js).row k)
