-- `put_row` meets its contract: word by word, each behind the one before.
use Rattle.decimal.proofs.Placed.{room_front, room_behind, written_behind}
use Rattle.printing.specs.Printed.{row_line}
use Rattle.printing.proofs.put_row.Goals as goal

pub field-requires : goal.field-requires
unfolding row_line
field-requires c = room_front _ _ (room_front _ _ (room_front _ _ (room_front _ _ c.requires)))

pub field-requires-2 : goal.field-requires-2
unfolding row_line
field-requires-2 c = room_behind _ (room_front _ _ (room_front _ _ (room_front _ _ c.requires))) c.field.ensures

pub field-requires-3 : goal.field-requires-3
unfolding row_line
field-requires-3 c =
    let long = room_front _ _ (room_front _ _ c.requires) in
    room_behind _ long (written_behind _ (room_front _ _ long) c.field.ensures c.field-2.ensures)

pub field-requires-4 : goal.field-requires-4
unfolding row_line
field-requires-4 c =
    let timed = room_front _ _ c.requires in
    let long = room_front _ _ timed in
    room_behind _ timed
    (written_behind _ long (written_behind _ (room_front _ _ long) c.field.ensures c.field-2.ensures) c.field-3.ensures)

pub word-requires : goal.word-requires
unfolding row_line
word-requires c =
    let timed = room_front _ _ c.requires in
    let long = room_front _ _ timed in
    room_behind _ c.requires
    (written_behind _ timed
    (written_behind _ long (written_behind _ (room_front _ _ long) c.field.ensures c.field-2.ensures) c.field-3.ensures)
    c.field-4.ensures)

pub returns : goal.returns
unfolding row_line
returns c =
    let timed = room_front _ _ c.requires in
    let long = room_front _ _ timed in
    written_behind _ c.requires
    (written_behind _ timed
    (written_behind _ long (written_behind _ (room_front _ _ long) c.field.ensures c.field-2.ensures) c.field-3.ensures)
    c.field-4.ensures)
    c.word.ensures
