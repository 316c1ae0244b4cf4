-- The rows before row i stand at the places of their ranks, and past the rows there is 0.
use Prim.Native.Nat.{ℕ, ◌≤◌, ◌<◌, ◌-◌}
use mathlib.Core.Path.{◌≡◌}
use lib.ListN.{length, get_or}
use Rattle.tables.specs.Table.{most_rows}
use Rattle.tables.specs.Plan.{plan_of}
use Rattle.decision.proofs.ruled.Ruled.by_rank.Given as goal

abbrev pub invariant-loop-i : goal.invariant-loop-i
invariant-loop-i l =
    (l.i ≤ l.n)
    × (length l.order ≡ most_rows)
    × ((j : ℕ) → j < l.i → get_or l.order ((plan_of l.self.plan.now).rank j - 1) 0 ≡ j)
    × ((r : ℕ) → l.n ≤ r → get_or l.order r 0 ≡ 0)

abbrev pub decreases-loop-i : goal.decreases-loop-i
decreases-loop-i l = l.n - l.i
