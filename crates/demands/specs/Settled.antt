-- The figures of crate `starred`, settled: for each of them the promise of its operation allows the figure's answer,
-- and no other.
use Rattle.std.specs.Prelude.{ℕ, ◌*◌, ◌≤◌, ◌≡◌, ◌↔◌, List, [], ◌∷◌, length}
use Rattle.tables.specs.Table.{table_of}
use Rattle.tables.specs.Refusal.{Result}
use Rattle.test.specs.Answers.{TimesAnswer}
use Rattle.choice.specs.Answers.{PlanAnswer, planned_width}
use Rattle.kernel.specs.Answers.{PlayAnswer}
use Rattle.starred.specs.Figures.{Figure, plans, refuses, stops, timed, plays, takes, shortest, wholly}
use Rattle.starred.specs.Figures.{figures, further, region_figures}

-- a result is an answer exactly if it is s
abbrev pub Only : (Result → Type 0) → Result → Type 0
Only Answer s = (r : Result) → Answer r ↔ (r ≡ s)

-- whatever an output of as many numbers holds, the only answer is that all of it is written with these
abbrev pub OnlyWrites : (List ℕ → Result → Type 0) → List ℕ → Type 0
OnlyWrites Answer ys = (out : List ℕ) → length out ≡ length ys → Only (Answer out) (wholly ys)

-- whatever an output with room for the table holds, the only answer of planning is this refusal
abbrev pub OnlyRefuses : List ℕ → ℕ → ℕ → Type 0
OnlyRefuses xs number place =
    (out : List ℕ) → planned_width * (table_of xs).n ≤ length out →
    Only (PlanAnswer xs out) (record { number = number; place = place; value = 0; out = out })

-- the figure's answer is the only one; what a job takes and which length is the shortest are no answers
abbrev pub Settled : Figure → Type 0
Settled (plans xs ys) = OnlyWrites (PlanAnswer xs) ys
Settled (refuses xs number place) = OnlyRefuses xs number place
Settled (stops xs ps r) = OnlyRefuses xs 5 0
Settled (timed xs ps ys) = OnlyWrites (TimesAnswer xs ps) ys
Settled (plays xs ps js ys) = OnlyWrites (PlayAnswer xs ps js) ys
Settled (takes xs ps i k ticks) = Unit {0}
Settled (shortest xs ps r z q) = Unit {0}

abbrev pub AllSettled : List Figure → Type 0
AllSettled [] = Unit {0}
AllSettled (f ∷ fs) = Settled f × AllSettled fs

-- the starred figures, those beside them, and those of request (ii)
abbrev pub FiguresSettled : Type 0
FiguresSettled = AllSettled figures × AllSettled further × AllSettled region_figures
