-- `by_rank` meets its contract: the row of rank r stands at place r − 1, since each rank is some row's.
use Prim.Native.Nat.{ℕ, ◌<◌, ◌-◌}
use mathlib.Core.Path.{◌≡◌, refl, ap, ◌∙◌}
use native.Mathlib.Omega.{arith}
use lib.ListN.{get_or}
use Rattle.tables.specs.Table.{most_rows}
use Rattle.tables.specs.inside.Rows.{table_in}
use Rattle.tables.specs.Plan.{plan_of}
use Rattle.tables.proofs.Rows.{holds_none}
use Rattle.decision.proofs.Order.{row_of}
use Rattle.decision.proofs.ruled.Ruled.by_rank.Goals as goal

pub loop-i-init : goal.loop-i-init
loop-i-init c = (
  omega arith,
  refl,
  λ j h. absurd (omega arith),
  λ r h. (holds_none {A = ℕ} 0 (λ _. 0) most_rows).past r (omega arith),
)

pub returns : goal.returns
returns c =
    let l = c.loop-i in
    let ruled = c.args.self.now in
    let n = ruled.tasks.now.n in
    let row = row_of (table_in ruled.tasks.now.rows n) (plan_of ruled.plan.now) ruled.formed in
    let at : (r : ℕ) → (h : r < n) → get_or l.order r 0 ≡ (row r h).0 =
    λ r h.
    let place : r ≡ (plan_of ruled.plan.now).rank (row r h).0 - 1 = omega (arith, (row r h).2) in
    ap (λ q. get_or l.order q 0) place ∙ l.invariant.2 (row r h).0 (omega (arith, (row r h).1)) in
    record {
      places = l.invariant.1;
      row = λ r h. rw (at r h) (row r h).1;
      rank = λ r h. rw (at r h) (row r h).2;
      past = l.invariant.3;
    }
