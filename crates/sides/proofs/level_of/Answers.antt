-- `level_of` meets its contract: the walk over the marks packs each marked row once.
use Prim.Native.Nat.{◌<◌}
use native.Mathlib.Omega.{arith}
use lib.ListN.{length}
use borrow.Author.Rules.{rules}
use Rattle.counting.proofs.Sum.{count_le}
use Rattle.marks.specs.inside.Marks.{marked}
use Rattle.tables.specs.Table.{most_rows}
use Rattle.sides.proofs.Pack.{packing_none, packing_fits, packing_more, packing_all, packed_size}
use Rattle.sides.proofs.Rows.{read_is}
use Rattle.sides.proofs.level_of.Goals as goal

pub loop-m-init : goal.loop-m-init
loop-m-init g c =
    let e = c.enumerate-m-items.ensures in
    rw (c.into_iter-m-iterator.ensures.into_iter_gives, e.count, e.source, c.rows.ensures)
    (packing_none _ _ c.requires.0 _ c.requires.2 c.requires.1)

pub bounds-level-m : goal.bounds-level-m
bounds-level-m g c =
    let s = c.in-Some.ensures.steps in
    omega (arith, s.1, packing_fits _ _ c.requires.0 c.loop-m.invariant s.0.0)

pub offset_bounds-level-m : goal.offset_bounds-level-m
offset_bounds-level-m g c =
    let s = c.in-Some.ensures.steps in
    let h : c.in-Some.m < length c.loop-m.level =
    omega (arith, s.1, packing_fits _ _ c.requires.0 c.loop-m.invariant s.0.0) in
    search rules

pub loop-m-preserved : goal.loop-m-preserved
loop-m-preserved g c =
    let s = c.in-Some.ensures.steps in
    let w = c.loop-m.invariant in
    rw (s.1, s.2)
    (packing_more _ _ c.requires.0 w s.0.0 _
    (λ none. read_is c.args.asks.now _ none (w.inside _ s.0.0.first.holds) c.index-asks-j.is) s.0.1)

pub returns-clause-packed : goal.returns-clause-packed
returns-clause-packed g c =
    λ none.
    let all = packing_all _ _ c.requires.0 c.loop-m.invariant c.in-None.ensures.steps.0.0 none in
    rw (c.size.ensures, packed_size c.args.set all c.requires.0 c.requires.1) all

pub returns-clause-few : goal.returns-clause-few
returns-clause-few g c = omega (arith, c.size.ensures, count_le (marked c.args.set) most_rows)
