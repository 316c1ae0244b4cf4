-- `number` meets its contract. The loop's invariant: the digits of the value have been read, and it is at most the
-- largest.
use Prim.Native.Nat.{◌≤◌, ◌+◌}
use mathlib.Core.Path.{◌≡◌}
use mathlib.Core.List.{◌++◌}
use lib.ListN.{drop, length}
use Rattle.decimal.specs.Decimal.{digits}
use Rattle.reading.proofs.Cursor.number.Given as goal

abbrev pub invariant-loop-at : goal.invariant-loop-at
invariant-loop-at l =
    (l.self ≡ l.initial.self) × (l.value ≤ l.most) × (l.at ≡ l.initial.self.at + length (digits l.value))
    × (drop l.initial.self.at l.text ≡ digits l.value ++ drop l.at l.text)
