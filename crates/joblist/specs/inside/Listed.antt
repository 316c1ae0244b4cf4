-- What the check of a job list says: document 01, "Numbers of refusal", lines 5 and 6.
use Rattle.std.specs.Prelude.{ℕ, ◌≤◌, ◌<◌, ◌≡◌, List, [], ◌∷◌, Result, Ok, Err}
use Rattle.tables.specs.Table.{Table}
use Rattle.tables.specs.Jobs.{Jobs, last_release, jobs_of}
use Rattle.tables.specs.Checks.{jobs_shape, job_rules}
use Rattle.tables.specs.inside.Checked.{AllClear, RefusedBy}
use Rattle.tables.specs.declared.answer.Refusal.{Refusal}

-- job k keeps the rules by itself: its row is one of the table's, its release and its run are within their limits
pub record KeepsAlone (tb : Table) (js : Jobs) (k : ℕ) : Type 0 where
  pub row : js.row k < tb.n
  pub soon : js.release k ≤ last_release
  pub run_low : 1 ≤ js.run k
  pub run_high : js.run k ≤ tb.C (js.row k)

-- what each answer of the check means: the number of jobs, where neither of its two checks hits; or the first that
-- does, and its place
abbrev pub ListSaid : Table → List ℕ → Result ℕ Refusal → Type 0
ListSaid tb js (Ok many) = (many ≡ (jobs_of js).N) × AllClear (jobs_shape js ∷ job_rules tb js ∷ [])
ListSaid tb js (Err r) = RefusedBy (jobs_shape js ∷ job_rules tb js ∷ []) r
