-- Any two sets and any two rows that the promise of a function of this crate allows are equal.
use Prim.Native.Nat.{ℕ, ◌^◌, ◌<◌}
use mathlib.Core.Path.{◌≡◌, refl, sym, ap, ◌∙◌}
use mathlib.Core.Bool.{Bool}
use Rattle.std.specs.Prelude.{Option, Some, None}
use Rattle.counting.proofs.Cases.{not_both}
use Rattle.counting.proofs.Least.{least_unique}
use Rattle.marks.specs.inside.Marks.{marked, Whole, Where, Next, Both, Placed, Less, More}
use Rattle.marks.proofs.Marks.{same_marks, next_by_zeros}

pub next_unique : {s a b : ℕ} → Next s a → Next s b → a ≡ b
next_unique p q = least_unique p.first q.first

pub placed_unique : (s i : ℕ) (a b : Option ℕ) → Placed s i a → Placed s i b → a ≡ b
placed_unique s i (Some p) (Some q) x y = ap Some (x.1 ∙ sym y.1)
placed_unique s i (Some p) None x y = not_both (marked s i) y x.0
placed_unique s i None (Some q) x y = not_both (marked s i) x y.0
placed_unique s i None None x y = refl

-- sets of 32 rows
module _ (a b : ℕ) (fits-a : a < 2 ^ 32) (fits-b : b < 2 ^ 32) where
  pub whole_unique : (n : ℕ) → Whole n a → Whole n b → a ≡ b
  whole_unique n p q = same_marks 32 a b fits-a fits-b (λ j. p j ∙ sym (q j))

  pub less_unique : (s i : ℕ) → Less s i a → Less s i b → a ≡ b
  less_unique s i p q = same_marks 32 a b fits-a fits-b (λ j. ap (λ (m : ℕ → Bool). m j) (p.marks ∙ sym q.marks))

  pub more_unique : (s i : ℕ) → More s i a → More s i b → a ≡ b
  more_unique s i p q = same_marks 32 a b fits-a fits-b (λ j. p j ∙ sym (q j))

  pub where_unique : (P : ℕ → Bool) (n : ℕ) → Where P n a → Where P n b → a ≡ b
  where_unique P n p q = same_marks 32 a b fits-a fits-b (λ j. p j ∙ sym (q j))

  pub both_unique : (s t : ℕ) → Both s t a → Both s t b → a ≡ b
  both_unique s t p q = same_marks 32 a b fits-a fits-b (λ j. p j ∙ sym (q j))

  pub others_unique : (s : ℕ) → 0 < s → s < 2 ^ 32 → ((i : ℕ) → Next s i → Less s i a) →
      ((i : ℕ) → Next s i → Less s i b) → a ≡ b
  others_unique s some fits p q =
      let n = next_by_zeros s some fits in
      less_unique s _ (p _ n) (q _ n)
