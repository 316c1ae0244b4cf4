-- `blocks_of` meets its contract: what each row passed blocks with stands in its place, and the places not reached hold
-- 0.
use Rattle.std.proofs.Common.{◌≡◌, ◌<◌, arith, sym, ◌∙◌, ap}
use Rattle.tables.specs.Table.{most_rows}
use Rattle.tables.specs.Plan.{plan_of, longer, blocks}
use Rattle.tables.specs.inside.Rows.{table_in}
use Rattle.tables.proofs.Plan.{longer_in_lem}
use Rattle.responses.proofs.Pairs.{len_in}
use Rattle.responses.proofs.Stored.{column_none, column_more}
use Rattle.responses.proofs.blocks_of.Goals as goal

pub loop-i-init : goal.loop-i-init
loop-i-init c = column_none _

pub loop-i-preserved : goal.loop-i-preserved
loop-i-preserved c =
    let rows = c.args.tasks.now.rows in
    let tb = table_in rows c.args.tasks.now.n in
    let i = c.loop-i.i in
    let front = c.as_chunks.ensures in
    let fits : i < most_rows = omega (arith, front.front_len) in
    let here : c.longer.result ≡ blocks tb (plan_of c.args.plan.now) i =
    c.longer.ensures ∙ sym (longer_in_lem rows c.args.tasks.now.n i _)
    ∙ ap (longer tb i) (len_in c.args.plan.now front.front i (omega (arith, front.front_len))) in
    column_more (λ j b. b ≡ blocks tb (plan_of c.args.plan.now) j) c.loop-i.invariant fits here
