-- `check_plan` meets its contract: no row passed is at fault.
use mathlib.Core.Path.{refl}
use mathlib.Core.Logic.{inl}
use native.Mathlib.Omega.{arith}
use borrow.Author.Count.{below_more}
use Rattle.tables.specs.Plan.{plan_of}
use Rattle.tables.specs.inside.Rows.{table_in}
use Rattle.tables.proofs.Checked.{row_at_fault_is, plan_hit}
use Rattle.tables.proofs.plan_check.check_plan.Goals as goal

pub returns-then-row_at_fault : goal.returns-then-row_at_fault
returns-then-row_at_fault c =
    let t = c.args.tasks.now in
    let i = c.loop-i.i in
    let plan = c.args.plan.now in
    inl (
      refl,
      plan_hit (table_in t.rows t.n) plan c.if-plan-n.false i c.loop-i.invariant (omega arith)
          ((row_at_fault_is t.rows t.n i (plan_of plan)).1 c.if-row_at_fault.ensures),
    )

pub loop-i-preserved : goal.loop-i-preserved
loop-i-preserved c =
    let t = c.args.tasks.now in
    below_more _ _ c.loop-i.invariant
    (λ f. c.if-row_at_fault.ensures ((row_at_fault_is t.rows t.n c.loop-i.i (plan_of c.args.plan.now)).0 f))
