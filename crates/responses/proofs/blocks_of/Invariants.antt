-- `blocks_of` meets its contract: what each row passed blocks with stands in its place, and the places not reached hold
-- 0.
use Rattle.std.proofs.Common.{◌≡◌}
use Rattle.tables.specs.Plan.{plan_of, blocks}
use Rattle.tables.specs.inside.Rows.{table_in}
use Rattle.responses.specs.inside.Asked.{Column}
use Rattle.responses.proofs.blocks_of.Given as goal

abbrev pub invariant-loop-i : goal.invariant-loop-i
invariant-loop-i l = Column l.i (λ i b. b ≡ blocks (table_in l.tasks.rows l.tasks.n) (plan_of l.plan) i) l.blocks
