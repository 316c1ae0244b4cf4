-- `plan_bytes` meets its contract. The loop's invariant: the bytes of the first line and of the rows passed.
use Prim.Native.Nat.{◌≤◌, ◌+◌, ◌*◌}
use mathlib.Core.Path.{◌≡◌}
use lib.ListN.{length}
use Rattle.printing.specs.Printed.{plan_line, row_lines}
use Rattle.printing.proofs.plan_bytes.Given as goal

abbrev pub invariant-loop-i : goal.invariant-loop-i
invariant-loop-i l =
    (l.bytes ≡ length (plan_line l.planned.n) + length (row_lines l.planned.numbers.now l.i))
    × (l.bytes ≤ 16 + 69 * l.i)
