-- `more` meets its contract: where digit i is 0, the sum makes it 1, changes no other and stays within 32 digits.
use borrow.Author.Rules.{rules}
use Rattle.marks.proofs.Marks.{one_shl, more_fits, more_by_worth}
use Rattle.marks.proofs.more.Goals as goal

pub overflow_add-result : goal.overflow_add-result
overflow_add-result c =
    rw (one_shl c.args.i c.requires.0)
    (let fits = more_fits 32 c.args.i c.args.set c.requires.0 c.ranges.set.fits c.requires.1 in search rules)

pub returns : goal.returns
returns c = rw (one_shl c.args.i c.requires.0) (more_by_worth c.args.i c.args.set c.requires.1)
