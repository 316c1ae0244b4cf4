-- `read_tasks` meets its contract. The loop's invariant: n tasks have been read and their rows stand at the front of
-- the table, and behind one of them the text goes on.
use Prim.Native.Nat.{◌≤◌, ◌<◌}
use mathlib.Core.Path.{◌≡◌}
use lib.ListN.{length}
use Rattle.sheet.specs.inside.Read.{Filled}
use Rattle.sheet.proofs.read_tasks.Given as goal

abbrev pub invariant-loop-n : goal.invariant-loop-n
invariant-loop-n l =
    (l.cursor.text ≡ l.initial.cursor.text) × (1 ≤ l.n → l.cursor.at < length l.initial.cursor.text.now)
    × Filled l.initial.cursor.text.now l.tick l.initial.table l.cursor.at l.n l.table
