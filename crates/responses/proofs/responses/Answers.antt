-- `responses` meets its contract: each row passed has its response in its place, and the places not reached hold 0.
use Rattle.std.proofs.Common.{◌≡◌, ◌<◌, ◌∙◌, arith, refl}
use Rattle.tables.specs.Table.{most_rows}
use Rattle.tables.specs.Plan.{plan_of}
use Rattle.tables.specs.inside.Rows.{table_in}
use Rattle.test.specs.Test.{ResponseOf}
use Rattle.responses.specs.inside.Asked.{plan_rows}
use Rattle.responses.proofs.Pairs.{rank_in, len_in}
use Rattle.responses.proofs.Plans.{blocking_in}
use Rattle.responses.proofs.Row.{Placed, ranked, response_here}
use Rattle.responses.proofs.Stored.{column_none, column_more}
use Rattle.responses.proofs.responses.Goals as goal
use Rattle.responses.proofs.responses.Goals.{After-blocking_of}

module _ (c : After-blocking_of) where
  inside : c.loop-i.i < plan_rows c.args.plan.now
  inside = omega (arith, c.as_chunks.ensures.front_len)

  rows : plan_rows c.args.plan.now ≡ c.args.tasks.now.n
  rows = omega (arith, c.requires.0.whole)

  -- the row in hand, with the rows above it and its blocking
  placed : Placed (table_in c.args.tasks.now.rows c.args.tasks.now.n) c.args.plan.now c.loop-i.i c.above_of.result
      c.blocking_of.result
  placed =
      let rank = rank_in c.args.plan.now c.as_chunks.ensures.front c.loop-i.i inside in
      record {
        planned = c.requires.0;
        row = omega (arith, inside, rows);
        over = rw (rows, rank) at c.above_of.ensures;
        under =
            blocking_in _ (plan_of c.args.plan.now) c.blocks_of-blocks.result _ c.blocking_of.result
            c.blocks_of-blocks.ensures (rw (rows, rank) at c.blocking_of.ensures);
      }

pub loop-i-init : goal.loop-i-init
loop-i-init c = (column_none _, refl)

pub response-requires : goal.response-requires
response-requires c =
    let s = (goal.at.response-requires c).After-blocking_of in
    let len = len_in c.args.plan.now c.as_chunks.ensures.front c.loop-i.i (inside s) in
    (rw len (ranked (placed s) c.requires.1), c.loop-i.invariant.1)

pub loop-i-preserved : goal.loop-i-preserved
loop-i-preserved c =
    let s = (goal.at.loop-i-preserved c).After-blocking_of in
    let R = ResponseOf (table_in c.args.tasks.now.rows c.args.tasks.now.n) (plan_of c.args.plan.now) in
    let len = len_in c.args.plan.now c.as_chunks.ensures.front c.loop-i.i (inside s) in
    let fits : c.loop-i.i < most_rows = omega (arith, inside s, rows s, c.requires.0.sound.few) in
    let here = response_here (placed s) (rw len at c.response.ensures) in
    (column_more R c.loop-i.invariant.0 fits here, c.response.auto.level ∙ c.loop-i.invariant.1)
