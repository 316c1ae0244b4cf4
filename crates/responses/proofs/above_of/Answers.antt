-- `above_of` meets its contract: the set marks the rows passed that are of higher rank.
use Rattle.std.proofs.Common.{arith, lt-ltb, le-ltb}
use Rattle.marks.proofs.Where.{where_none, where_more, where_same}
use Rattle.tables.specs.Plan.{plan_of}
use Rattle.test.specs.Test.{above}
use Rattle.responses.proofs.Pairs.{rank_in}
use Rattle.responses.proofs.above_of.Goals as goal
use Rattle.responses.proofs.above_of.Goals.{then-other-rank, else-other-rank}

pub loop-i-init : goal.loop-i-init
loop-i-init c = where_none (above (plan_of c.args.plan.now) c.args.rank)

pub loop-i-preserved : goal.loop-i-preserved
loop-i-preserved c =
    let P = above (plan_of c.args.plan.now) c.args.rank in
    let front = c.as_chunks.ensures in
    let e = rank_in c.args.plan.now front.front c.loop-i.i (omega (arith, front.front_len)) in
    elim c.if-other-rank.branch [
      | then-other-rank w ↦
          let higher = lt-ltb _ c.args.rank (omega (arith, e, w.if-other-rank.true)) in
          rw w.set-is (where_more P _ _ c.loop-i.invariant _ higher w.more-set.ensures)
      | else-other-rank w ↦
          let lower = le-ltb _ c.args.rank (omega (arith, e, w.if-other-rank.false)) in
          rw w.set-is (where_same P _ _ c.loop-i.invariant lower)
    ]
