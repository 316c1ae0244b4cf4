-- `busy_side` meets its contract: the level is small.
use Prim.Native.Nat.{◌-◌}
use native.Mathlib.Omega.{arith}
use Rattle.sides.proofs.Small.{runs_small, later_small}
use Rattle.sides.proofs.busy_side.Goals as goal

pub overflow_add-result : goal.overflow_add-result
overflow_add-result c =
    let p = c.requires in
    omega (
      arith,
      p.1,
      c.later.ensures,
      runs_small c.args.level.now p.0,
      later_small c.args.level.now p.0 {s = c.args.t - 1} (omega (arith, p.3)),
    )
