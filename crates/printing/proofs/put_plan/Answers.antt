-- `put_plan` meets its contract. The loop's invariant: the lines of the rows passed stand behind the first line.
use Prim.Native.Nat.{ℕ, ◌<◌}
use mathlib.Core.Path.{◌≡◌}
use mathlib.Core.List.{◌++◌}
use native.Mathlib.Omega.{arith}
use lib.ListN.{length-append}
use Rattle.decimal.specs.declared.Written.{Written}
use Rattle.decimal.specs.inside.Placed.{Room}
use Rattle.decimal.proofs.Placed.{room_front, room_behind, written_behind, written_none}
use Rattle.printing.specs.Printed.{plan_line, row_lines, plan_text}
use Rattle.printing.specs.declared.table.Planned.{Planned}
use Rattle.printing.proofs.Printed.{line_of, rows_none, rows_more, rows_fit, text_whole}
use Rattle.printing.proofs.put_plan.Goals as goal
use Rattle.printing.proofs.put_plan.Goals.{After-put_head}

-- the room for the first line and the rows, in this order
whole_room : (w : Written) (planned : Planned) → Room w (plan_text planned.numbers.now) →
    Room w (plan_line planned.n ++ row_lines planned.numbers.now planned.n)
whole_room w planned fits = rw (text_whole planned.numbers.now planned.n planned.whole) at fits

pub put_head-requires : goal.put_head-requires
put_head-requires c = room_front _ _ (whole_room c.args.text.now c.args.planned.now c.requires)

pub loop-i-init : goal.loop-i-init
loop-i-init c = rw rows_none (written_none c.put_head.new.text)

-- the room for the line of row i behind those before it
line_room : (c : After-put_head) (i : ℕ) →
    let planned = c.args.planned.now in
    i < planned.n → Room c.put_head.new.text (row_lines planned.numbers.now i ++ line_of planned.numbers.now i)
line_room c i h =
    let planned = c.args.planned.now in
    let rows = room_behind _ (whole_room c.args.text.now planned c.requires) c.put_head.ensures in
    let fit = rows_fit planned.numbers.now planned.n i h in
    record { fits = simp length-append (omega (arith, rows.fits, fit)) }

pub put_row-requires : goal.put_row-requires
put_row-requires c =
    let k = (goal.at.put_row-requires c).After-put_head in
    let l = c.loop-i in
    rw c.row.ensures (room_behind _ (line_room k l.i c.loop-i-test.true) l.invariant)

pub loop-i-preserved : goal.loop-i-preserved
loop-i-preserved c =
    let k = (goal.at.loop-i-preserved c).After-put_head in
    let l = c.loop-i in
    rw (rows_more c.args.planned.now.numbers.now l.i)
    (written_behind _ (line_room k l.i c.loop-i-test.true) l.invariant (rw c.row.ensures at c.put_row.ensures))

pub returns : goal.returns
returns c =
    let l = c.loop-i in
    let planned = c.args.planned.now in
    let e : l.i ≡ planned.n = omega arith in
    rw (text_whole planned.numbers.now planned.n planned.whole)
    (written_behind _ (whole_room c.args.text.now planned c.requires) c.put_head.ensures (rw e at l.invariant))
