-- Any two answers that the promises of `asks_of`, `level_of`, `leave_out`, `put_back`, `busy_period` and
-- `active_period` allow are equal; the promises of the right sides are equations, that of `again_of` is about marks.
use Prim.Native.Nat.{ℕ, zero, suc, ◌<◌}
use mathlib.Core.Path.{◌≡◌, refl, sym, ap, ◌∙◌}
use mathlib.Core.Bool.{Bool, true}
use mathlib.Core.List.{List}
use native.Mathlib.Omega.{arith}
use lib.ListN.{length, get_or}
use lib.Seq.{ext_get_or, get_or-take}
use Rattle.std.specs.Prelude.{Option, Some, None}
use Rattle.counting.specs.Sum.{sum, count}
use Rattle.counting.proofs.Cases.{by_le, by_bool}
use Rattle.counting.proofs.Least.{least_unique}
use Rattle.counting.proofs.Sum.{given_yes, given_no}
use Rattle.tables.specs.Table.{Table}
use Rattle.sides.specs.declared.ask.Ask.{Ask}
use Rattle.sides.specs.inside.Inverse.{inverse_of}
use Rattle.sides.specs.inside.Asks.{nothing, row, run, inverse, AsksFront}
use Rattle.sides.specs.inside.Level.{Picked, Vacated, PutBack}
use Rattle.sides.specs.inside.Found.{Fixed, BusyOf}
use Rattle.sides.proofs.Rows.{ask_same}
use Rattle.sides.proofs.Pack.{over_one}

module _ {tb : Table} {asks : List Ask} (x : AsksFront tb asks) where
  run_is : (i : ℕ) → i < tb.n → run asks i ≡ tb.C i
  run_is i l = ap (λ a. a.run) (sym (get_or-take tb.n asks i nothing l)) ∙ x.front.runs i l

  inverse_is : (i : ℕ) → i < tb.n → inverse asks i ≡ inverse_of (tb.T i)
  inverse_is i l = ap (λ a. a.inverse) (sym (get_or-take tb.n asks i nothing l)) ∙ x.front.inverses i l

pub asks_unique : (tb : Table) (a b : List Ask) → AsksFront tb a → AsksFront tb b → a ≡ b
asks_unique tb a b x y =
    ext_get_or nothing a b (x.whole ∙ sym y.whole)
    (λ i _. by_le tb.n i
    (λ h. x.past i h ∙ sym (y.past i h))
    (λ h. ask_same (row a i) (row b i) (run_is x i h ∙ sym (run_is y i h)) (inverse_is x i h ∙ sym (inverse_is y i h))))

-- each number below a count is the count before one that passes
counted : {X : Type 0} (P : ℕ → Bool) (n p : ℕ) → p < count P n →
    ((j : ℕ) → j < n → P j ≡ true → count P j ≡ p → X) → X
unfolding count sum
counted P zero p l f = absurd (omega arith)
counted P (suc n) p l f =
    by_le (count P n) p
    (λ h. by_bool (P n)
    (λ e. f n (omega arith) e (omega (arith, given_yes (P n) 1 e)))
    (λ e. absurd (omega (arith, given_no (P n) 1 e))))
    (λ h. counted P n p h (λ j k. f j (omega arith)))

-- a level, and a level without one of its rows, and with it again: for rows of any kind
module _ {A : Type 0} (none : A) where
  pub packed_unique : (asks : List A) (P : ℕ → Bool) (before l k : List A) (m r : ℕ) → length l ≡ length k →
      Picked none asks P before l m → Picked none asks P before k r → (m ≡ r) × (l ≡ k)
  unfolding count
  packed_unique asks P before l k m r long x y =
      let size : m ≡ r = omega (arith, x.same (λ _ _. 1), y.same (λ _ _. 1), over_one none l m, over_one none k r) in (
        size,
        ext_get_or none l k long
            (λ p _. by_le m p
            (λ h. x.rest p h ∙ sym (y.rest p (omega arith)))
            (λ h. counted P (length asks) p (omega (arith, x.same (λ _ _. 1), over_one none l m))
            (λ j o e c. ap (λ q. get_or l q none) (sym c) ∙ x.placed j o e
            ∙ sym (y.placed j o e) ∙ ap (λ q. get_or k q none) c))),
      )

  pub left_out_unique : (at : Option ℕ) (level : List A) (m : ℕ) (l k : List A) (r s : ℕ) →
      Vacated none at level m l r → Vacated none at level m k s → (r ≡ s) × (l ≡ k)
  left_out_unique (Some p) level m l k r s x y = (x.0 ∙ sym y.0, x.1 ∙ sym y.1)
  left_out_unique None level m l k r s x y = (x.0 ∙ sym y.0, x.1 ∙ sym y.1)

pub put_back_unique : {A : Type 0} (at : Option ℕ) (ask : A) (left l k : List A) → PutBack at ask left l →
    PutBack at ask left k → l ≡ k
put_back_unique (Some p) ask left l k x y = x ∙ sym y
put_back_unique None ask left l k x y = x ∙ sym y

pub busy_of_unique : (level : List Ask) (a b : Option ℕ) → BusyOf level a → BusyOf level b → a ≡ b
busy_of_unique level (Some t) (Some u) x y = ap Some (least_unique x.0 y.0)
busy_of_unique level (Some t) None x y = absurd (y t x.0 x.1)
busy_of_unique level None (Some u) x y = absurd (x u y.0 y.1)
busy_of_unique level None None x y = refl

pub fixed_unique : (side : ℕ → ℕ) (lo t u : ℕ) → Fixed side lo t → Fixed side lo u → t ≡ u
fixed_unique side lo t u x y = least_unique x y
