-- `busy_period` meets its contract: the iteration climbs to the busy period, or passes the horizon.
use mathlib.Core.Path.{◌≡◌}
use native.Mathlib.Omega.{arith}
use Rattle.counting.proofs.Least.{climbing_lo}
use Rattle.sides.specs.inside.Level.{busy_of}
use Rattle.sides.proofs.Level.{later_none, busy_of_mono}
use Rattle.sides.proofs.Climb.{climbs}
use Rattle.sides.proofs.periods.busy_period.Goals as goal

pub loop-next-init : goal.loop-next-init
loop-next-init c =
    let level = c.args.level.now in
    let first : c.runs_of-runs.result ≡ busy_of level 1 = omega (arith, c.runs_of-runs.ensures, later_none level) in
    climbs (busy_of_mono level) (climbing_lo (busy_of level) 1 c.requires.1) first

pub loop-next-preserved : goal.loop-next-preserved
loop-next-preserved c = climbs (busy_of_mono _) c.loop-next.invariant c.busy_side-next.ensures
