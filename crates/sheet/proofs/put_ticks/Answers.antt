-- `put_ticks` meets its contract.
use mathlib.Core.List.{[], ◌∷◌}
use native.Mathlib.Omega.{arith}
use Rattle.sheet.proofs.Ticks.{up_small, filled}
use Rattle.sheet.proofs.put_ticks.Goals as goal

pub overflow_cast-row : goal.overflow_cast-row
overflow_cast-row c = omega (arith, up_small c.args.times.c c.args.tick c.requires.2.low)

pub returns : goal.returns
returns c =
    rw (c.region_ticks-region.ensures.0, c.region_ticks-region.ensures.1, c.round_up.ensures)
    (filled (_ ∷ _ ∷ _ ∷ _ ∷ _ ∷ []) c.args.row.now c.requires.0)
