-- `blocking_of` meets its contract: the most that a row below blocks with, of the rows passed.
use Rattle.std.proofs.Common.{◌≡◌, arith, ap, sym}
use Rattle.tables.specs.Plan.{plan_of}
use Rattle.responses.specs.inside.Asked.{plan_rows}
use Rattle.responses.proofs.Pairs.{rank_in}
use Rattle.responses.proofs.Plans.{longest_in, longest_none, longest_more, longest_same, longest_is}
use Rattle.responses.proofs.blocking_of.Goals as goal
use Rattle.responses.proofs.blocking_of.Goals.{then-rank-other, else-rank-other}

pub loop-i-init : goal.loop-i-init
loop-i-init c = sym (longest_none (plan_of c.args.plan.now) c.args.blocks.now c.args.rank)

pub loop-i-preserved : goal.loop-i-preserved
loop-i-preserved c =
    let a = c.args in
    let front = c.as_chunks.ensures in
    let e = rank_in a.plan.now front.front c.loop-i.i (omega (arith, front.front_len)) in
    let more = longest_more (plan_of a.plan.now) a.blocks.now a.rank c.loop-i.i in
    let same = longest_same (plan_of a.plan.now) a.blocks.now a.rank c.loop-i.i in
    elim c.if-rank-other.branch [
      | then-rank-other w ↦
          omega (arith, more (omega (arith, e, w.if-rank-other.true)), w.max-longest.ensures, w.longest-is)
      | else-rank-other w ↦ omega (arith, same (omega (arith, e, w.if-rank-other.false)), w.longest-is)
    ]

pub returns : goal.returns
returns c =
    let all : c.loop-i.i ≡ plan_rows c.args.plan.now = omega (arith, c.as_chunks.ensures.front_len) in
    longest_is (plan_of c.args.plan.now) c.args.blocks.now c.args.rank _ _
    (omega (arith, ap (longest_in (plan_of c.args.plan.now) c.args.blocks.now c.args.rank) all))
