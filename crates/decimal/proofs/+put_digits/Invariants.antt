-- `put_digits` meets its contract. A tenth of a number of two digits or more is less.
use Rattle.decimal.proofs.+put_digits.Given as goal

abbrev pub decreases-put_digits : goal.decreases-put_digits
decreases-put_digits l = l.x
