-- `sheet` meets its contract: the text is read into a table of its own, and the table's front is given.
use Prim.Native.Nat.{ℕ, ◌*◌}
use mathlib.Core.Path.{◌≡◌}
use mathlib.Core.Logic.{inr}
use mathlib.Core.List.{List}
use native.Mathlib.Omega.{arith}
use lib.ListN.{take, drop, replicate}
use Rattle.tables.specs.Table.{row_width, most_rows}
use Rattle.sheet.specs.Sheet.{ticks_of}
use Rattle.sheet.specs.inside.Read.{ReadsSheet}
use Rattle.std.proofs.Common.{Ok}
use Rattle.sheet.proofs.Fronts.{place_bound}
use Rattle.sheet.proofs.Answers.{ticks_front}
use Rattle.sheet.proofs.sheet.Goals as goal

-- the whole text was read: the table's front is that of the sheet
module _ (text table : List ℕ) (n : ℕ)
    (read : ReadsSheet text (replicate (row_width * most_rows) 0) table (Ok n)) where
  front : take (row_width * n) table ≡ ticks_of read.0 read.1
  front = ticks_front read.0 read.1 n table (drop (row_width * n) (replicate (row_width * most_rows) 0)) read.3 read.4

pub overflow_cast-result : goal.overflow_cast-result
overflow_cast-result c = omega (arith, place_bound _ c.in-Err.place c.in-Err.ensures)

pub returns-in-Ok : goal.returns-in-Ok
returns-in-Ok c =
    let n = c.in-Ok.n in
    let table = c.read_sheet.new.table in
    let read = c.in-Ok.ensures in
    inr (read.0, read.1, read.2, rw (← front c.args.text.now table n read) c.give.ensures)
