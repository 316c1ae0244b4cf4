-- `level_of` meets its contract: the walk over the marks packs each marked row once.
use Rattle.sides.proofs.Pack.{Packing}
use Rattle.sides.proofs.level_of.Given as goal

abbrev pub invariant-loop-m : goal.invariant-loop-m
invariant-loop-m g l = Packing l.asks l.set l.fn.level l.level l.m-iterator.count l.m-iterator.iter.rest
