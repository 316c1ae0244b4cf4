-- How the filling of the ranks ends.
use Rattle.std.specs.Prelude.{ℕ, Result, Ok, Err, ◌*◌, ◌≤◌, ◌≡◌, length, get_or}
use Rattle.tables.specs.Table.{Table, most_rows}
use Rattle.tables.specs.Plan.{plan_width, plan_of}
use Rattle.responses.specs.inside.Asked.{Responses}
use Rattle.choice.specs.Choice.{Chosen, Stopped}
use Rattle.search.specs.declared.Filled.{Filled}

-- every rank is filled: each row's rank, length and response stand in its places, and the places past the rows hold 0
pub record FilledAll (tb : Table) (f : Filled) : Type 0 where
  pub chosen : Chosen tb (plan_of f.plan)
  pub responses : Responses tb (plan_of f.plan) f.times
  pub past : (k : ℕ) → plan_width * tb.n ≤ k → get_or f.plan k 0 ≡ 0
  pub whole : length f.plan ≡ plan_width * most_rows

-- no row fits at the rank that is said
pub record StoppedAt (tb : Table) (rank : ℕ) : Type 0 where
  pub stop : Stopped tb
  pub said : rank ≡ stop.rank

abbrev pub Ended : Table → Result Filled ℕ → Type 0
Ended tb (Ok f) = FilledAll tb f
Ended tb (Err rank) = StoppedAt tb rank
