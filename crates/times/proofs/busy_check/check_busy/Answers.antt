-- `check_busy` meets its contract: the period of what the rows ask with is the table's.
use mathlib.Core.Path.{refl}
use mathlib.Core.Logic.{inl}
use Rattle.std.proofs.Common.{Some, None}
use Rattle.sides.proofs.Busy.{busy_asks, busy_found}
use Rattle.times.proofs.busy_check.check_busy.Goals as goal

pub busy_period-requires : goal.busy_period-requires
busy_period-requires c = busy_asks c.args.tasks.now.sound c.requires.front

pub returns-in-Some : goal.returns-in-Some
returns-in-Some c =
    busy_found c.args.tasks.now.sound c.requires.front (Some c.in-Some.period) c.in-Some.ensures

pub returns-in-None : goal.returns-in-None
returns-in-None c =
    inl (refl, (refl, busy_found c.args.tasks.now.sound c.requires.front None c.in-None.ensures))
