-- `region_ticks` meets its contract: a start rounded down is no later than an end rounded up.
use Prim.Native.Nat.{◌+◌}
use native.Mathlib.Omega.{arith}
use Rattle.sheet.proofs.Ticks.{up_small, start_end}
use Rattle.sheet.proofs.region_ticks.Goals as goal

pub overflow_sub-result : goal.overflow_sub-result
overflow_sub-result c =
    omega (arith, c.round_up-end.ensures, start_end c.in-Some.field-0.start c.in-Some.field-0.length c.args.tick)

pub overflow_cast-result-2 : goal.overflow_cast-result-2
overflow_cast-result-2 c =
    let within = rw c.in-Some.is at c.requires.0 in
    let end = up_small (c.in-Some.field-0.start + c.in-Some.field-0.length) c.args.tick c.requires.1.low in
    record { fits = omega (arith, c.round_up-end.ensures, end, within.0.high, within.1.high) }
