-- `field` meets its contract: the number behind the word.
use Rattle.decimal.proofs.Placed.{written_behind}
use Rattle.decimal.proofs.Written.field.Goals as goal

pub returns : goal.returns
returns c = written_behind _ c.requires c.word.ensures c.number.ensures
