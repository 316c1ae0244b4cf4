-- `rank_taken` meets its contract: no row passed has the rank.
use Rattle.std.proofs.Common.{◌≡◌, ℕ, ◌*◌, ◌<◌, get_or}
use Rattle.tables.specs.Plan.{plan_width}
use Rattle.tables.proofs.plan_check.rank_taken.Given as goal

abbrev pub invariant-loop-j : goal.invariant-loop-j
invariant-loop-j l = (k : ℕ) → k < l.j → get_or l.plan (plan_width * k) 0 ≡ l.rank → ⊥
