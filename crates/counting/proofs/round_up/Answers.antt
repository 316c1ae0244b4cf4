-- `round_up` meets its contract.
use mathlib.Core.Path.{◌∙◌}
use Rattle.counting.proofs.Up.{up_div}
use Rattle.counting.proofs.round_up.Goals as goal

pub returns : goal.returns
returns c = c.div_ceil.ensures ∙ up_div c.args.x c.requires
