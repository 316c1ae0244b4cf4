-- Laws of a level from which a row is left out, the last one taking its place: what is summed over the rows that stay
-- is what is summed over the others; and put back, the level is as it was.
use Prim.Native.Nat.{ℕ, suc, ◌+◌, ◌-◌, ◌≤◌, ◌<◌}
use mathlib.Core.Path.{◌≡◌, refl, sym, ap, ◌∙◌, fun_ext}
use mathlib.Core.Bool.{Bool, true, false}
use mathlib.Core.List.{List}
use native.Mathlib.Omega.{arith}
use lib.Dec.{eqb}
use lib.ListN.{length, set, get_or, length-set}
use lib.Seq.{ext_get_or, get_or-set_same, get_or-set_other}
use Rattle.std.specs.Prelude.{Option, Some, None, IfSome}
use borrow.Author.Tests.{eq-eqb, ne_eqb}
use Rattle.counting.specs.Sum.{given, sum, count, without}
use Rattle.counting.proofs.Cases.{by_eq}
use Rattle.counting.proofs.Sum.{sum_ext, sum_add, sum_delta, sum_without, sum_more, given_yes}
use Rattle.counting.proofs.Sum.{is_without}
use Rattle.tables.specs.Table.{most_rows}
use Rattle.marks.specs.inside.Marks.{marked, Placed}
use Rattle.sides.specs.inside.Level.{Picked, Vacated, PutBack}
use Rattle.sides.proofs.Pack.{over_one}
use Rattle.sides.proofs.Asking.{Holding, packed_holding}

-- a sum in which one number has changed
sum_changed : (f g : ℕ → ℕ) (p n : ℕ) → p < n → ((q : ℕ) → q < n → ¬ (q ≡ p) → f q ≡ g q) →
    sum f n + g p ≡ sum g n + f p
sum_changed f g p n l same =
    let delta = sum_ext (λ q. f q + given (eqb p q) (g p)) (λ q. g q + given (eqb p q) (f p)) n
    (λ q h.
    by_eq p q
    (λ e. rw (eq-eqb p q e) (omega (arith, ap f e, ap g e)))
    (λ e. rw (ne_eqb p q e) (omega (arith, same q h (λ z. e (sym z)))))) in
    omega (
      arith,
      delta,
      sum_add f (λ q. given (eqb p q) (g p)) n,
      sum_add g (λ q. given (eqb p q) (f p)) n,
      sum_delta (g p) p n l,
      sum_delta (f p) p n l,
    )

-- more rows of a set stand before i than before an earlier row of the set
count_lt : (P : ℕ → Bool) (j i : ℕ) → j < i → P j ≡ true → count P j < count P i
unfolding count sum
count_lt P j i l e = omega (arith, sum_more (λ k. given (P k) 1) (suc j) i l, given_yes (P j) 1 e)

module _ {A : Type 0} {none : A} {asks : List A} {P : ℕ → Bool} {before level : List A} {m : ℕ}
    (w : Picked none asks P before level m) (whole : length level ≡ most_rows) (i : ℕ) (l : i < length asks) (e : P i ≡ true) where
  abbrev p : ℕ
  p = count P i

  pub place_inside : p < m
  unfolding count
  place_inside = omega (arith, w.same (λ _ _. 1), over_one none level m, count_lt P i (length asks) l e)

  -- it is row i that stands at its place
  its_own : get_or level p none ≡ get_or asks i none
  its_own = w.placed i l e

  abbrev last : ℕ
  last = m - 1

  abbrev left : List A
  left = set level p (get_or level last none)

  kept : (q : ℕ) → ¬ (q ≡ p) → get_or left q none ≡ get_or level q none
  kept q ne = get_or-set_other level p q (get_or level last none) none ne

  moved : get_or left p none ≡ get_or level last none
  moved = get_or-set_same level p (get_or level last none) none (omega (arith, whole, w.few, place_inside))

  -- the rows that stay are the others
  pub left_holding : Holding none asks (without P i) left last
  unfolding sum
  left_holding =
      record {
        few = omega (arith, w.few);
        same =
            λ f.
            let G : ℕ → ℕ = λ q. f (get_or level q none) in
            let H : ℕ → ℕ = λ q. f (get_or left q none) in
            let same_kept : (q : ℕ) → ¬ (q ≡ p) → H q ≡ G q = λ q ne. ap f (kept q ne) in
            let same_moved : H p ≡ G last = ap f moved in
            let one_more : suc last ≡ m = omega (arith, place_inside) in
            let all : sum G m ≡ sum G last + G last = ap (sum G) (sym one_more) in
            let F : ℕ → ℕ = λ j. f (get_or asks j none) in
            let total = w.same (λ _ a. f a) in
            let out = sum_without P i F (length asks) l e in
            by_eq p last
            (λ z.
            let same = sum_ext H G last (λ q h. same_kept q (λ y. omega arith)) in
            omega (arith, ap f its_own, ap G z))
            (λ z.
            let same = sum_changed H G p last (omega (arith, place_inside)) (λ q _ ne. same_kept q ne) in
            omega (arith, ap f its_own));
      }

  -- put back, the level is as it was
  pub back_same : set left p (get_or asks i none) ≡ level
  back_same =
      let long = length-set level p (get_or level last none) in
      ext_get_or none (set left p (get_or asks i none)) level
      (length-set left p (get_or asks i none) ∙ long)
      (λ k _.
      by_eq k p
      (λ z. rw z (get_or-set_same left p (get_or asks i none) none (omega (arith, long, whole, w.few, place_inside))
      ∙ sym its_own))
      (λ z. get_or-set_other left p k (get_or asks i none) none z ∙ kept k z))

-- whether row i stands in the level, at its place, or not
module _ (set : ℕ) {A : Type 0} {none : A} {asks before level : List A} {m : ℕ}
    (w : Picked none asks (marked set) before level m) (whole : length level ≡ most_rows) (i : ℕ) (l : i < length asks) where
  pub place_within : (at : Option ℕ) → Placed set i at → IfSome at (λ p. p < m)
  place_within (Some q) h = omega (arith, place_inside w whole i l h.0)
  place_within None h = tt

  pub left_whole : (at : Option ℕ) (left : List A) (r : ℕ) → Vacated none at level m left r → length left ≡ most_rows
  left_whole (Some q) _ _ o = ap length o.1 ∙ length-set level q _ ∙ whole
  left_whole None _ _ o = ap length o.1 ∙ whole

  pub left_few : (at : Option ℕ) (left : List A) (r : ℕ) → Vacated none at level m left r → r ≤ most_rows
  left_few (Some q) _ _ o = omega (arith, o.0, w.few)
  left_few None _ _ o = omega (arith, o.0, w.few)

  absent : marked set i ≡ false → marked set ≡ without (marked set) i
  absent e = fun_ext (λ j. is_without (marked set) i j (marked set j) (λ q. ap (marked set) q ∙ e) (λ _. refl))

  -- the rows that stay are the others
  pub left_others : (at : Option ℕ) (left : List A) (r : ℕ) → Placed set i at → Vacated none at level m left r →
      Holding none asks (without (marked set) i) left r
  left_others (Some q) _ _ h o = rw (o.1, o.0, h.1) (left_holding w whole i l h.0)
  left_others None _ _ h o = rw (o.1, o.0, ← absent h) (packed_holding w)

  -- put back, the level is as it was
  pub back_as_was : (at : Option ℕ) (left back : List A) (r : ℕ) → Placed set i at → Vacated none at level m left r →
      PutBack at (get_or asks i none) left back → back ≡ level
  back_as_was (Some q) _ _ _ h o b = b ∙ rw (o.1, h.1) (back_same w whole i l h.0)
  back_as_was None _ _ _ h o b = b ∙ o.1
