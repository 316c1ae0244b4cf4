-- `climb` meets its contract: whatever the right side is, the iteration climbs to its least fixed point.
use mathlib.Core.Path.{sym, ◌∙◌}
use native.Mathlib.Omega.{arith}
use Rattle.counting.proofs.Least.{climbing_stops}
use Rattle.sides.proofs.Climb.{reached_first, next_within, reached_next}
use Rattle.sides.proofs.periods.climb.Goals as goal

pub loop-t-init : goal.loop-t-init
loop-t-init g c right lo h = reached_first h.rises h.within

pub side-next-requires : goal.side-next-requires
side-next-requires g c =
    let h = c.requires.2 in
    let w = c.loop-t.invariant _ _ h in
    h.callable _ w.0.low w.1 (next_within h.rises h.within w)

pub loop-t-smaller : goal.loop-t-smaller
loop-t-smaller g c =
    let h = c.requires.2 in
    let w = c.loop-t.invariant _ _ h in
    let e = h.answers _ _ c.side-next.ensures in
    let next = reached_next h.rises h.within w e in
    omega (arith, next.1, w.0.up, e, c.if-next-t.false)

pub loop-t-preserved : goal.loop-t-preserved
loop-t-preserved g c right lo h =
    reached_next h.rises h.within (c.loop-t.invariant right lo h) (h.answers _ _ c.side-next.ensures)

pub returns : goal.returns
returns g c right lo h =
    climbing_stops (c.loop-t.invariant right lo h).0 (sym c.if-next-t.true ∙ h.answers _ _ c.side-next.ensures)
