-- `word` meets its contract. The loop's invariant: the bytes passed are those of the word.
use Prim.Native.Nat.{◌≤◌, ◌+◌}
use mathlib.Core.Path.{◌≡◌}
use lib.ListN.{length, take, drop}
use Rattle.reading.proofs.Cursor.word.Given as goal

abbrev pub invariant-loop-i : goal.invariant-loop-i
invariant-loop-i l =
    (l.self.at + l.i ≤ length l.self.text.now) × (take l.i (drop l.self.at l.self.text.now) ≡ take l.i l.word)
