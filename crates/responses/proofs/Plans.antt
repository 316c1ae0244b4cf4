-- Laws of the most that a row below a rank blocks with, row by row, where what each blocks with stands in a list.
use Prim.Native.Nat.{ℕ, pred, max, ◌+◌, ◌≤◌, ◌<◌}
use mathlib.Core.Path.{◌≡◌, refl, ap, ◌∙◌}
use mathlib.Core.List.{List}
use native.Mathlib.Omega.{arith}
use native.Mathlib.Numerals.{add-one}
use lib.ListN.{get_or}
use borrow.Author.Tests.{lt-ltb, le-ltb}
use Rattle.counting.specs.Sum.{given, largest}
use Rattle.tables.specs.Table.{Table}
use Rattle.tables.specs.Plan.{Plan}
use Rattle.test.specs.Test.{below, longest, blocking}
use Rattle.counting.proofs.Sum.{given_yes, given_no, largest_ext}
use Rattle.responses.specs.inside.Asked.{Blocks, Blocking}

module _ (p : Plan) (bs : List ℕ) (r : ℕ) where
  -- the most that a row below blocks with, of the rows before i
  unfoldable pub longest_in : ℕ → ℕ
  longest_in i = largest (λ j. given (below p r j) (get_or bs j 0)) i

  pub longest_none : longest_in 0 ≡ 0
  unfolding longest_in largest
  longest_none = refl

  longest_step : (i : ℕ) → longest_in (i + 1) ≡ max (longest_in i) (given (below p r i) (get_or bs i 0))
  unfolding longest_in largest
  longest_step i = rw (add-one i)

  pub longest_more : (i : ℕ) → r < p.rank i → longest_in (i + 1) ≡ max (longest_in i) (get_or bs i 0)
  longest_more i h = omega (arith, longest_step i, given_yes (below p r i) (get_or bs i 0) (lt-ltb r (p.rank i) h))

  pub longest_same : (i : ℕ) → p.rank i ≤ r → longest_in (i + 1) ≡ longest_in i
  longest_same i h = omega (arith, longest_step i, given_no (below p r i) (get_or bs i 0) (le-ltb r (p.rank i) h))

  pub longest_is : (n b : ℕ) → b ≡ pred (longest_in n) → Blocking p n bs r b
  unfolding longest_in
  longest_is n b e = e

-- where the list holds what each row blocks with, that is the blocking
pub blocking_in : (tb : Table) (p : Plan) (bs : List ℕ) (r b : ℕ) → Blocks tb p bs → Blocking p tb.n bs r b →
    b ≡ blocking tb p r
unfolding blocking longest
blocking_in tb p bs r b each e =
    e ∙ ap pred (largest_ext _ _ tb.n (λ j l. ap (given (below p r j)) (each.each j l)))
