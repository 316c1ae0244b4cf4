-- `held_to` meets its contract: each way out is one of the two regions, or neither.
use Prim.Native.Nat.{ℕ, ◌+◌, ◌≤◌, ◌<◌}
use mathlib.Core.Logic.{inr}
use native.Mathlib.Omega.{arith}
use Rattle.tables.specs.Table.{Table, region_end}
use Rattle.tables.specs.Plan.{Plan, WellFormed, plan_of}
use Rattle.tables.specs.inside.Rows.{table_in}
use Rattle.tables.proofs.Plan.{cap_end}
use Rattle.kernel.proofs.Locked.{locked_middle, not_locked}
use Rattle.decision.proofs.ruled.Ruled.held_to.Goals as goal

-- the middle region ends before the final one begins
ends : (tb : Table) (p : Plan) (i : ℕ) → WellFormed tb p → i < tb.n → region_end tb i + p.len i ≤ tb.C i
ends tb p i w h = cap_end tb i (w.len_low i h) (w.len_high i h)

pub overflow_add-done : goal.overflow_add-done
overflow_add-done c =
    let ruled = c.args.self.now in
    let tasks = ruled.tasks.now in
    let i = c.args.job.row in
    let end = ends (table_in tasks.rows tasks.n) (plan_of ruled.plan.now) i ruled.formed c.requires in
    let row = tasks.sound.row i c.requires in
    omega (arith, end, row.C, c.args.job.left, c.args.job.small)

-- in the middle region
pub returns : goal.returns
returns c =
    let ruled = c.args.self.now in
    let tb = table_in ruled.tasks.now.rows ruled.tasks.now.n in
    let p = plan_of ruled.plan.now in
    let i = c.args.job.row in
    record {
      low = omega (arith, c.if-end-done.false);
      high = omega (arith, c.if-run-end.false);
      held = λ x h l. locked_middle tb p i x (omega (arith, c.if-done-start.false)) l;
      ends = inr (not_locked tb p i (region_end tb i) (ends tb p i ruled.formed c.requires) (λ _. omega arith));
    }
