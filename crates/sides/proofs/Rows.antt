-- Laws of lists of asks: what is summed over a list is what is summed over its places; and two asks of the same numbers
-- are the same.
use Prim.Native.Nat.{ℕ, ◌+◌, ◌≤◌, ◌<◌}
use mathlib.Core.Path.{◌≡◌, refl, ap, subst, ◌∙◌}
use mathlib.Core.List.{List, [], ◌∷◌}
use native.Mathlib.Bridge.{le_prop}
use native.Mathlib.Omega.{arith}
use lib.ListN.{length, get_or}
use Rattle.std.proofs.lemmas.List.{get_or_default}
use Rattle.std.specs.List.{sum_by}
use Rattle.std.proofs.lemmas.List.Sums.{sum_by-cons}
use Rattle.counting.specs.Sum.{sum}
use Rattle.marks.proofs.Marks.{sum_head}
use Rattle.tables.specs.Table.{most}
use Rattle.sides.specs.declared.ask.Ask.{Ask}
use Rattle.sides.specs.inside.Inverse.{inverse_of}
use Rattle.sides.specs.inside.Asks.{row}

pub over_rows : (f : Ask → ℕ) (level : List Ask) → sum_by f level ≡ sum (λ p. f (row level p)) (length level)
unfolding sum
over_rows f [] = refl
over_rows f (a ∷ level) =
    sum_by-cons f a level
    ∙ ap (λ n. f a + n) (over_rows f level)
    ∙ omega (arith, sum_head (λ p. f (row (a ∷ level) p)) (length level))

-- what is read at a place is what stands there
pub read_is : {A : Type 0} (items : List A) {j : ℕ} (a none : A) → j < length items → a ≡ get_or items j a →
    a ≡ get_or items j none
read_is items {j} a none l e = e ∙ get_or_default items j a none l

made : (r i : ℕ) → r ≤ most → i ≤ inverse_of 1 → Ask
made r i h g = record { run = r; inverse = i; small_run = h; small_inverse = g }

pub ask_same : (a b : Ask) → a.run ≡ b.run → a.inverse ≡ b.inverse → a ≡ b
unfolding made
ask_same a b r i =
    subst (λ (x : ℕ). (h : x ≤ most) → a ≡ made x a.inverse h a.small_inverse) r
    (λ h. ap (λ e. made a.run a.inverse e a.small_inverse) (le_prop a.small_run h)) b.small_run
    ∙ subst
    (λ (y : ℕ). (g : y ≤ inverse_of 1) →
    made b.run a.inverse b.small_run a.small_inverse ≡ made b.run y b.small_run g) i
    (λ g. ap (λ e. made b.run a.inverse b.small_run e) (le_prop a.small_inverse g)) b.small_inverse
