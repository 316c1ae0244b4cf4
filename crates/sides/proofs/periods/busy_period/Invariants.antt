-- `busy_period` meets its contract: the iteration climbs to the busy period, or passes the horizon.
use Prim.Native.Nat.{◌+◌, ◌-◌}
use Rattle.test.specs.Test.{horizon}
use Rattle.counting.proofs.Least.{Climbing}
use Rattle.sides.specs.inside.Level.{busy_of}
use Rattle.sides.proofs.periods.busy_period.Given as goal

abbrev pub invariant-loop-next : goal.invariant-loop-next
invariant-loop-next l = Climbing (busy_of l.level) 1 l.next

abbrev pub decreases-loop-next : goal.decreases-loop-next
decreases-loop-next l = horizon + 1 - l.next
