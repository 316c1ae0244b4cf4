-- The answer of play past the checks of the task table.
use Rattle.std.specs.Prelude.{List, ℕ}
use Rattle.tables.specs.Table.{Table}
use Rattle.tables.specs.Plan.{plan_of}
use Rattle.tables.specs.Jobs.{jobs_of}
use Rattle.tables.specs.Refusal.{Result, bare, Answered}
use Rattle.kernel.specs.Answers.{PlayGiven, play_rest}

abbrev pub PlayRest : List ℕ → List ℕ → List ℕ → Table → Result → Type 0
PlayRest ps js out tb r = Answered bare (play_rest ps js out tb) (PlayGiven tb (plan_of ps) (jobs_of js) out) out r
