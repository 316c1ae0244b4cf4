-- `start` meets its contract: the iteration climbs to the start.
use Rattle.std.proofs.Common.{rules}
use Rattle.sides.specs.inside.Level.{start_of}
use Rattle.sides.proofs.Level.{start_of_mono}
use Rattle.responses.proofs.start.Goals as goal

pub climb-requires : goal.climb-requires
climb-requires c = (
  start_of c.args.level.now c.args.base,
  0,
  record {
    rises = start_of_mono _ _;
    callable = λ t low high h. search rules;
    answers = λ t r e. search rules;
    within = c.requires.1;
  },
)

pub returns : goal.returns
unfolding climb-requires
returns c = c.climb.ensures _ _ (climb-requires c.before).2
