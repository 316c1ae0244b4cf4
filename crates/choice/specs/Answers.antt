-- The answer of `plan`: document 01, "What is delivered", "Planned table" and "Numbers of refusal".
use Rattle.std.specs.Prelude.{ℕ, ◌*◌, ◌<◌, ◌≡◌, List, [], ◌∷◌, length, drop}
use Rattle.tables.specs.Table.{Table, table_of}
pub use Rattle.tables.specs.Planned.{planned_width, planned_of, response_in}
use Rattle.tables.specs.Refusal.{Check, Result, bare, Answered}
use Rattle.tables.specs.Checks.{room, table_checks}
use Rattle.test.specs.Test.{ResponseOf}
use Rattle.test.specs.Answers.{no_busy}
use Rattle.choice.specs.Choice.{Chosen, Stopped}

-- 5, "no plan passes": the choice stops at some rank, place 0. That it does so exactly if no well-formed plan
-- passes is the theorem of demand 2.
abbrev pub no_plan : Table → Check
no_plan tb = record { number = 5; hits = λ place. (place ≡ 0) × Stopped tb }

-- "Planned table": three numbers for each row of the table are given, and in them stand the chosen plan and the
-- response of each row under it; the output is as long as before, and "the remainder unchanged" behind them
pub record PlanGiven (tb : Table) (out : List ℕ) (value : ℕ) (after : List ℕ) : Type 0 where
  pub many : value ≡ planned_width * tb.n
  pub chosen : Chosen tb (planned_of after)
  pub responses : (i : ℕ) → i < tb.n → ResponseOf tb (planned_of after) i (response_in after i)
  pub whole : length after ≡ length out
  pub rest : drop (planned_width * tb.n) after ≡ drop (planned_width * tb.n) out

-- plan: the checks 1, 3, 2, 4 and 5 in this order, with a place of the output for each number; then the planned table
abbrev pub plan_rest : List ℕ → Table → List Check
plan_rest out tb = room (planned_width * tb.n) out ∷ no_busy tb ∷ no_plan tb ∷ []

abbrev pub plan_checks : List ℕ → List ℕ → List Check
plan_checks xs out = table_checks xs (plan_rest out)

abbrev pub PlanAnswer : List ℕ → List ℕ → Result → Type 0
PlanAnswer xs out r = Answered bare (plan_checks xs out) (PlanGiven (table_of xs) out) out r
