-- `climb` meets its contract: whatever the right side is, the iteration climbs to its least fixed point.
use Prim.Native.Nat.{ℕ, ◌≤◌, ◌+◌, ◌-◌}
use Rattle.counting.proofs.Least.{Climbing}
use Rattle.test.specs.Test.{horizon}
use Rattle.sides.specs.inside.Found.{Climbs}
use Rattle.sides.proofs.periods.climb.Given as goal

abbrev pub invariant-loop-t : goal.invariant-loop-t
invariant-loop-t g l =
    (right : ℕ → ℕ) (lo : ℕ) → Climbs (goal.F-pre g l.side) (goal.F-post g l.side) right lo l.fn.low →
    Climbing right lo l.t × (l.t ≤ horizon)

abbrev pub decreases-loop-t : goal.decreases-loop-t
decreases-loop-t g l = horizon + 1 - l.t
