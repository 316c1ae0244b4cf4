-- Laws of what the check functions answer.
use Prim.Native.Nat.{ℕ, ◌+◌, ◌-◌, ◌*◌, ◌≤◌, ◌<◌}
use mathlib.Core.Path.{◌≡◌, refl, sym, subst}
use mathlib.Core.Bool.{Bool, true, false}
use mathlib.Core.Logic.{◌⊎◌, ◌↔◌, inl, inr, ⊎_elim}
use mathlib.Core.List.{List, [], ◌∷◌}
use native.Mathlib.Omega.{arith}
use Rattle.std.proofs.Common.{Some, None}
use lib.ListN.{length, get_or}
use Rattle.counting.specs.Least.{Least}
use Rattle.counting.proofs.Cases.{by_le, by_eq, not_both}
use Rattle.tables.specs.Table.{Table, row_width, table_of}
use Rattle.tables.specs.Plan.{Plan, plan_width, plan_of}
use Rattle.tables.specs.Refusal.{Clear}
use Rattle.tables.specs.Checks.{NumberAtFault, RankAtFault, RowAtFault, range, plan_form}
use Rattle.tables.specs.inside.Rows.{no, row_at, table_in, LengthAtFaultIn}
use Rattle.tables.specs.inside.Checked.{Says, FaultInRow}
use Rattle.tables.specs.declared.task.Row.{Row}
use Rattle.tables.proofs.Numbers.{by_number, number_in}
use Rattle.tables.proofs.Plan.{cap_in_lem}

-- the same question, put in another way
pub says_map : {A B : Type 0} (b : Bool) → (A → B) → (B → A) → Says b A → Says b B
says_map true f g a = f a
says_map false f g n = λ b. n (g b)

-- what a yes or a no says
pub says_yes : {A : Type 0} (b : Bool) → b ≡ true → Says b A → A
says_yes true e a = a
says_yes false e n = not_both false refl e

pub says_no : {A : Type 0} (b : Bool) → b ≡ false → Says b A → A → ⊥
says_no true e a = not_both true e refl
says_no false e n = n

-- what holds at i and at no earlier number holds first at i
pub first_here : {E : ℕ → Type 0} (i : ℕ) → E i → ((j : ℕ) → j < i → E j → ⊥) → Least E 0 i
first_here i e none =
    record { low = omega arith; holds = e; least = λ u _ g. by_le i u (λ l. l) (λ l. absurd (none u l g)) }

-- which number of a row is at fault, counted in the row and in the slice
module _ (xs : List ℕ) (i : ℕ) where
  abbrev one : Table
  one = table_in (row_at xs i ∷ []) 1

  out : (k : ℕ) → NumberAtFault one 0 k → NumberAtFault (table_of xs) i (row_width * i + k)
  out k =
      by_number one 0
      (λ e f. inl (omega arith, f))
      (λ e f. inr (inl (omega arith, f)))
      (λ e f. inr (inr (inl (omega arith, f))))
      (λ e f. inr (inr (inr (inl (omega arith, f)))))
      (λ e f. inr (inr (inr (inr (omega arith, f)))))

  back : (at : ℕ) → NumberAtFault (table_of xs) i at → NumberAtFault one 0 (at - row_width * i)
  back at =
      by_number (table_of xs) i
      (λ e f. inl (omega arith, f))
      (λ e f. inr (inl (omega arith, f)))
      (λ e f. inr (inr (inl (omega arith, f))))
      (λ e f. inr (inr (inr (inl (omega arith, f)))))
      (λ e f. inr (inr (inr (inr (omega arith, f)))))

  pub row_clear : FaultInRow one 0 None → FaultInRow (table_of xs) i None
  row_clear none at f = none (at - row_width * i) (back at f)

  pub row_hit : (k : ℕ) → FaultInRow one 0 (Some k) → FaultInRow (table_of xs) i (Some (row_width * i + k))
  row_hit k f =
      record {
        low = omega arith;
        holds = out k f.holds;
        least =
            λ u _ e.
            omega (arith, f.least (u - row_width * i) (omega arith) (back u e), number_in (table_of xs) i e);
      }

-- the check 3 is clear where no number of a row is at fault, and hits at the first one that is
module _ (xs : List ℕ) where
  pub range_clear : ((i : ℕ) → i < (table_of xs).n → (at : ℕ) → NumberAtFault (table_of xs) i at → ⊥) → Clear (range xs)
  range_clear none place l = none l.holds.0 l.holds.1 place l.holds.2

  -- that of row i, where no row before it has one
  pub range_hit : (i at : ℕ) → i < (table_of xs).n → Least (NumberAtFault (table_of xs) i) 0 at →
      ((j : ℕ) → j < i → (k : ℕ) → NumberAtFault (table_of xs) j k → ⊥) → (range xs).hits at
  range_hit i at h f none =
      record {
        low = omega arith;
        holds = (i, h, f.holds);
        least =
            λ u _ e.
            by_le i e.0
            (λ l. by_eq i e.0
            (λ q. f.least u (omega arith) (subst (λ j. NumberAtFault (table_of xs) j u) (sym q) e.2))
            (λ q. omega (arith, number_in (table_of xs) i f.holds, number_in (table_of xs) e.0 e.2)))
            (λ l. absurd (none e.0 l u e.2));
      }

module _ (tb : Table) (ps : List ℕ) (whole : length ps ≡ plan_width * tb.n) (i : ℕ)
    (none : (j : ℕ) → j < i → RowAtFault tb (plan_of ps) j → ⊥) where
  pub plan_hit : i < tb.n → RowAtFault tb (plan_of ps) i → (plan_form tb ps).hits i
  plan_hit h f = inr (whole, first_here i (h, f) (λ j l e. none j l e.1))

  pub plan_clear : tb.n ≤ i → Clear (plan_form tb ps)
  plan_clear h place =
      ⊎_elim (λ a. a.1 whole) (λ b. none place (let g = b.1.holds.0 in omega arith) b.1.holds.1)

-- row i of a plan is at fault by its rank, or by its length against the row in the array
module _ (rows : List Row) (n i : ℕ) (p : Plan) where
  pub row_at_fault_is : RowAtFault (table_in rows n) p i
      ↔ (RankAtFault n p.rank i ⊎ LengthAtFaultIn (get_or rows i no) (p.len i))
  row_at_fault_is =
      let most = cap_in_lem rows n i in (
        ⊎_elim inl (λ f. inr (λ h. f (h.0, omega (arith, h.1, most)))),
        ⊎_elim inl (λ f. inr (λ h. f (h.0, omega (arith, h.1, most)))),
      )
