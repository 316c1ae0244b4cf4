-- A row of a plan, with its rows above as a set and its blocking as a number: what its response asks for, and what it
-- then is.
use Prim.Native.Nat.{ℕ, ◌<◌}
use mathlib.Core.Path.{◌≡◌, sym, ◌∙◌}
use mathlib.Core.Bool.{Bool}
use mathlib.Core.List.{List}
use native.Mathlib.Omega.{arith}
use lib.Dec.{ltb}
use borrow.Author.Tests.{ltb-true, lt-ltb, le-ltb}
use Rattle.marks.specs.inside.Marks.{marked}
use Rattle.tables.specs.Table.{Table}
use Rattle.tables.specs.Plan.{plan_of}
use Rattle.tables.proofs.Plan.{cap_run}
use Rattle.test.specs.Test.{Response, ResponseOf, above, blocking}
use Rattle.sides.specs.declared.ask.Ask.{Ask}
use Rattle.sides.specs.inside.Asks.{Asks}
use Rattle.counting.proofs.Cases.{and_left}
use Rattle.test.proofs.Plans.{plan_active}
use Rattle.responses.specs.inside.Asked.{Ranked, Above, Planned}
use Rattle.responses.proofs.Same.{Agree, agree_sym, active_same, response_same}

-- row i of the plan that stands in ps has the rows of the set above it, and the blocking b
pub record Placed (tb : Table) (ps : List ℕ) (i set b : ℕ) : Type 0 where
  pub planned : Planned tb ps
  pub row : i < tb.n
  pub over : Above (plan_of ps) tb.n ((plan_of ps).rank i) set
  pub under : b ≡ blocking tb (plan_of ps) ((plan_of ps).rank i)

module _ {tb : Table} {ps : List ℕ} {i set b : ℕ} (p : Placed tb ps i set b) where
  abbrev P : ℕ → Bool
  P = above (plan_of ps) ((plan_of ps).rank i)

  agree : Agree tb (marked set) P
  agree j h = p.over j ∙ rw (lt-ltb j tb.n h)

  -- the rows above are rows of the table, and row i is none of them
  pub ranked : {asks : List Ask} → Asks tb asks → Ranked tb asks set b i ((plan_of ps).len i)
  ranked asks =
      let a = plan_active tb p.planned.sound p.planned.busy (plan_of ps) p.planned.plan i p.row in
      let r = (plan_of ps).rank i in
      record {
        sound = p.planned.sound;
        asked = asks;
        inside = λ j e. ltb-true j tb.n (and_left (ltb j tb.n) (P j) (sym (p.over j) ∙ e));
        apart = agree i p.row ∙ le-ltb r r (omega arith);
        row = p.row;
        some = p.planned.plan.len_low i p.row;
        most = cap_run tb i (p.planned.plan.len_high i p.row);
        period = a.0;
        active = active_same tb P (marked set) b i (agree_sym tb agree) (rw p.under a.1);
        within = a.2;
      }

  pub response_here : {R : ℕ} → Response tb (marked set) b i ((plan_of ps).len i) R → ResponseOf tb (plan_of ps) i R
  response_here x = response_same agree p.under x
