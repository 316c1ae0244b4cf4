-- `end` meets its contract: the byte at hand is one of those that may end the number, or none of them.
use Prim.Native.Nat.{ℕ, ◌+◌}
use mathlib.Core.Path.{◌≡◌, refl, sym, ap, ◌∙◌}
use mathlib.Core.Bool.{Bool, true, false, ◌||◌}
use mathlib.Core.Logic.{inl, inr, ⊎_elim}
use mathlib.Core.List.{List, [], ◌∷◌}
use borrow.Author.Rules.{rules}
use borrow.Author.Tests.{eq-eqb, eqb-true}
use Rattle.std.proofs.Common.{nat_eq}
use Rattle.std.proofs.lemmas.Grind.{common_steps}
use native.Mathlib.Omega.{arith}
use lib.ListN.{get_or}
use lib.Seq.{get_or-drop}
use Rattle.std.specs.List.{list_any}
use Rattle.counting.proofs.Cases.{or_cases}
use Rattle.reading.specs.inside.Piece.{OneOf}
use Rattle.reading.proofs.Cursor.end.Goals as goal

-- what `contains` tells
tells : (ends : List ℕ) (e : ℕ) → list_any (λ y. nat_eq y e) ends ≡ true → OneOf ends e
tells [] e h = cc
tells (x ∷ xs) e h =
    or_cases (nat_eq x e) (list_any (λ y. nat_eq y e) xs) h (λ a. inl (sym (eqb-true x e a))) (λ a. inr (tells xs e a))

told : (ends : List ℕ) (e : ℕ) → OneOf ends e → list_any (λ y. nat_eq y e) ends ≡ true
told [] e o = absurd o
told (x ∷ xs) e o =
    ⊎_elim
    (λ a. let same : nat_eq x e ≡ true = eq-eqb x e (sym a) in rw same)
    (λ a.
    elim (nat_eq x e) as (λ (b : Bool). b || list_any (λ y. nat_eq y e) xs ≡ true) [ true ↦ refl | false ↦ told xs e a ])
    o

pub returns-in-Some : goal.returns-in-Some
returns-in-Some c = (
  refl,
  tells c.args.ends.now c.in-Some.end.now (sym c.contains.ensures.value ∙ c.if-contains.true),
  refl,
  refl,
  search rules,
  grind (arith, common_steps),
)

pub returns-in_default : goal.returns-in_default
returns-in_default c = (
  omega arith,
  refl,
  refl,
  λ e u o g.
      let text = c.args.self.now.text.now in
      let z : c.args.place + 0 ≡ c.args.place = omega arith in
      let first : get_or text c.args.place 0 ≡ e = rw (get_or-drop, z) at (ap (λ (r : List ℕ). get_or r 0 0) g) in
      let here : c.in-Some.end.now ≡ e = grind (arith, common_steps) in
      let any : list_any (λ y. nat_eq y c.in-Some.end.now) c.args.ends.now ≡ true = rw here (told c.args.ends.now e o) in
      let no : false ≡ true = sym c.if-contains.false ∙ c.contains.ensures.value ∙ any in cc,
)
