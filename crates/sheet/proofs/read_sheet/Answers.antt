-- `read_sheet` meets its contract: the first line, and the task lines behind it.
use Rattle.sheet.specs.inside.Read.{ReadsSheet}
use Rattle.sheet.proofs.Fronts.{tick_stuck, front_none}
use Rattle.sheet.proofs.Reading.{hands_on}
use Rattle.sheet.proofs.read_sheet.Goals as goal

pub read_tasks-requires : goal.read_tasks-requires
read_tasks-requires c =
    let first = c.in_ok-tick.ensures in (rw first.text (front_none _ _ _ first.passed), c.requires)

pub returns-in_err-tick : goal.returns-in_err-tick
returns-in_err-tick c = hands_on (ReadsSheet _ _ _) c.from_residual.ensures (tick_stuck _ _ c.in_err-tick.ensures)
