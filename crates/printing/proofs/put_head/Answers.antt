-- `put_head` meets its contract: word by word, each behind the one before.
use Rattle.decimal.proofs.Placed.{room_front, room_behind, written_behind}
use Rattle.printing.specs.Printed.{plan_line}
use Rattle.printing.proofs.put_head.Goals as goal

pub field-requires : goal.field-requires
unfolding plan_line
field-requires c = room_front _ _ c.requires

pub word-requires : goal.word-requires
unfolding plan_line
word-requires c = room_behind _ c.requires c.field.ensures

pub returns : goal.returns
unfolding plan_line
returns c = written_behind _ c.requires c.field.ensures c.word.ensures
