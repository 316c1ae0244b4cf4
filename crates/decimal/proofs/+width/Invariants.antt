-- `width` meets its contract. A tenth of a number of two digits or more is less.
use Rattle.decimal.proofs.+width.Given as goal

abbrev pub decreases-width : goal.decreases-width
decreases-width l = l.x
