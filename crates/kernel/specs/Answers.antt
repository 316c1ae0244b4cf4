-- The answer of `play`: document 01, "What is delivered", "Finish output" and "Numbers of refusal".
use Rattle.std.specs.Prelude.{ℕ, ◌<◌, ◌≡◌, List, [], ◌∷◌, length, get_or, drop}
use Rattle.tables.specs.Table.{Table, table_of}
use Rattle.tables.specs.Plan.{Plan, plan_of}
use Rattle.tables.specs.Jobs.{Jobs, jobs_of}
use Rattle.tables.specs.Refusal.{Check, Result, bare, Answered}
use Rattle.tables.specs.Checks.{plan_form, jobs_shape, job_rules, room, table_checks}
use Rattle.kernel.specs.Rule.{Finishes}

-- "Finish output": as many numbers as the list has jobs are given, at place k the finish of job k; the output is as
-- long as before, and "the remainder unchanged" behind them
pub record PlayGiven (tb : Table) (p : Plan) (js : Jobs) (out : List ℕ) (value : ℕ) (after : List ℕ) : Type 0 where
  pub many : value ≡ js.N
  pub finishes : (k : ℕ) → k < js.N → Finishes tb p js k (get_or after k 0)
  pub whole : length after ≡ length out
  pub rest : drop js.N after ≡ drop js.N out

-- play: the checks 1, 3, 6, 7, 8 and 2 in this order, with a place of the output for each job; then the finishes
abbrev pub play_rest : List ℕ → List ℕ → List ℕ → Table → List Check
play_rest ps js out tb = plan_form tb ps ∷ jobs_shape js ∷ job_rules tb js ∷ room (jobs_of js).N out ∷ []

abbrev pub play_checks : List ℕ → List ℕ → List ℕ → List ℕ → List Check
play_checks xs ps js out = table_checks xs (play_rest ps js out)

abbrev pub PlayAnswer : List ℕ → List ℕ → List ℕ → List ℕ → Result → Type 0
PlayAnswer xs ps js out r =
    Answered bare (play_checks xs ps js out) (PlayGiven (table_of xs) (plan_of ps) (jobs_of js) out) out r
