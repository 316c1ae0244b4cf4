-- `active_period` meets its contract: its right side climbs to the active period.
use Rattle.std.proofs.Common.{rules}
use Rattle.sides.specs.inside.Level.{active_of}
use Rattle.sides.proofs.Level.{active_of_mono}
use Rattle.sides.proofs.periods.active_period.Goals as goal

pub climb-requires : goal.climb-requires
climb-requires c = (
  active_of c.args.level.now c.args.first,
  1,
  record {
    rises = active_of_mono _ _;
    callable = λ t low high h. search rules;
    answers = λ t r e. search rules;
    within = c.requires.1;
  },
)

pub returns : goal.returns
unfolding climb-requires
returns c = c.climb.ensures _ _ (climb-requires c.before).2
