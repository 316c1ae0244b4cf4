-- `print_into` meets its contract: where `fit` gives, the text is put, and what it refuses leaves the buffer as it was.
use Prim.Native.Nat.{ℕ, ◌+◌, ◌≤◌}
use mathlib.Core.Path.{◌≡◌, refl, ap}
use mathlib.Core.Logic.{inr}
use mathlib.Core.List.{List, ◌++◌}
use native.Mathlib.Omega.{arith}
use borrow.Author.Rules.{rules}
use lib.ListN.{length, drop}
use Rattle.tables.specs.Refusal.{Clear}
use Rattle.tables.specs.Checks.{planned_shape}
use Rattle.tables.specs.Planned.{planned_width}
use Rattle.tables.proofs.Clear.{rows_of_shape}
use Rattle.decimal.specs.inside.Placed.{Put}
use Rattle.decimal.proofs.Placed.{written_first}
use Rattle.printing.specs.Printed.{plan_text}
use Rattle.printing.proofs.Answers.{fit_given}
use Rattle.printing.proofs.print_into.Goals as goal
use Rattle.printing.proofs.print_into.Goals.{In_ok-bytes}

-- a text put from the first byte on is the front
front : {b t d : List ℕ} {n : ℕ} → Put b 0 t d n → d ≡ t ++ drop (length t) b
front {b} {t} p = let e : 0 + length t ≡ length t = omega arith in rw e at p.whole

-- what fit gives
given : (c : In_ok-bytes) →
    let planned = c.args.planned.now in
    let n = length (plan_text planned) in
    Clear (planned_shape planned) × (n ≤ length c.args.buf.now) × (c.in_ok-bytes.bytes ≡ n)
given c =
    let f = fit_given c.args.planned.now c.args.buf.now c.in_ok-bytes.ensures refl in (f.0, f.1, f.3)

pub invariant_of-table : goal.invariant_of-table
invariant_of-table c =
    let f = given (goal.at.invariant_of-table c).In_ok-bytes in
    let rows = rows_of_shape planned_width c.args.planned.now f.0 in
    record { whole = omega arith; some = omega arith; few = omega arith }

pub put_plan-requires : goal.put_plan-requires
put_plan-requires c =
    let f = given (goal.at.put_plan-requires c).In_ok-bytes in
    record { fits = omega (arith, f.1, ap length c.new-text.ensures.whole) }

pub returns : goal.returns
returns c =
    let f = given (goal.at.returns c).In_ok-bytes in
    let text = c.new-text.ensures in
    inr (
      f.0,
      inr (
        λ place h. omega (arith, h.1, f.1),
        record {
          number = refl;
          place = refl;
          given = record {
            many = f.2;
            whole = front (written_first c.put_plan.ensures text.whole text.first (search rules) refl);
          };
        },
      ),
    )
