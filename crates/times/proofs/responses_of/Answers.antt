-- `responses_of` meets its contract: the table has a busy period, and the plan is one of it.
use Rattle.tables.specs.inside.Rows.{table_in}
use Rattle.responses.specs.inside.Asked.{Planned}
use Rattle.times.proofs.Answers.{planned}
use Rattle.times.proofs.Busy.{busy_within}
use Rattle.times.proofs.responses_of.Goals as goal
use Rattle.times.proofs.responses_of.Goals.{In_ok-check_busy}

is_planned : (c : In_ok-check_busy) → Planned (table_in c.args.tasks.now.rows c.args.tasks.now.n) c.args.plan.now
is_planned c = planned c.args.tasks.now.sound c.requires (busy_within _ c.in_ok-check_busy.ensures)

pub responses-requires : goal.responses-requires
responses-requires c = (is_planned (goal.at.responses-requires c).In_ok-check_busy, c.asks_of-asks.ensures.front)

pub returns : goal.returns
returns c = (is_planned (goal.at.returns c).In_ok-check_busy, c.responses.ensures)
