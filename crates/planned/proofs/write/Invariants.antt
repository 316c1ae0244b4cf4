-- `write` meets its contract: a turn of the loop puts one planned row into its own part.
use Prim.Native.Nat.{◌*◌}
use mathlib.Core.Path.{◌≡◌}
use mathlib.Core.List.{◌++◌}
use lib.ListN.{length, drop}
use Rattle.tables.specs.Planned.{planned_width}
use Rattle.planned.specs.inside.Planned.{planned}
use Rattle.planned.proofs.write.Given as goal

abbrev pub invariant-loop-i : goal.invariant-loop-i
invariant-loop-i l = (length l.out ≡ length l.initial.out) × (l.out ≡ planned l.plan l.times l.i ++ drop (planned_width * l.i) l.initial.out)
