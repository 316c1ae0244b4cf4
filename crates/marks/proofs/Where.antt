-- Laws of the set of the rows at which a test passes, made row by row.
use Prim.Native.Nat.{ℕ, ◌+◌}
use mathlib.Core.Path.{◌≡◌, refl, ◌∙◌}
use mathlib.Core.Bool.{Bool, true, false, ◌&&◌, or-false}
use native.Mathlib.Omega.{arith}
use lib.Dec.{ltb}
use borrow.Author.Tests.{lt-ltb, le-ltb, eq-eqb, ne_eqb}
use Rattle.counting.proofs.Cases.{by_le, by_eq}
use Rattle.marks.specs.inside.Marks.{marked, Where, More}
use Rattle.marks.proofs.Marks.{none}

module _ (P : ℕ → Bool) where
  pub where_none : Where P 0 0
  where_none j = rw (none j, le-ltb j 0 (omega arith))

  -- the rows before i
  module _ (i set : ℕ) (a : Where P i set) where
    -- row i is not among them
    pub where_apart : marked set i ≡ false
    where_apart = a i ∙ rw (le-ltb i i (omega arith))

    -- another row stands before i where it stands before i + 1
    others : (j : ℕ) → ¬ (j ≡ i) → marked set j ≡ (ltb j (i + 1) && P j)
    others j e =
        by_le i j
        (λ l. a j ∙ rw (le-ltb j i l, le-ltb j (i + 1) (omega arith)))
        (λ l. a j ∙ rw (lt-ltb j i l, lt-ltb j (i + 1) (omega arith)))

    pub where_more : (more : ℕ) → P i ≡ true → More set i more → Where P (i + 1) more
    where_more more h m j =
        by_eq j i
        (λ e. m j ∙ rw (e, where_apart, eq-eqb i i refl, lt-ltb i (i + 1) (omega arith), h))
        (λ e. m j ∙ rw (ne_eqb j i e) (or-false (marked set j) ∙ others j e))

    pub where_same : P i ≡ false → Where P (i + 1) set
    where_same h j =
        by_eq j i
        (λ e. rw (e, where_apart, lt-ltb i (i + 1) (omega arith), h))
        (others j)
