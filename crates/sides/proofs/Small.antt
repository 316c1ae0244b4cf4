-- How large the numbers of a level grow within the horizon: no right side passes 64 bits, and no sum of runs 32.
use Prim.Native.Nat.{ℕ, zero, suc, ◌*◌, ◌≤◌, ◌<◌}
use mathlib.Core.List.{List}
use native.Mathlib.Omega.{arith}
use native.Mathlib.Nat.{mul-le-mul, mul-le-mul_right, div-lt_iff_lt-mul}
use lib.ListN.{length}
use Rattle.std.specs.List.{sum_by}
use Rattle.counting.specs.Sum.{sum}
use Rattle.tables.specs.Table.{most_rows, most}
use Rattle.test.specs.Test.{horizon}
use Rattle.sides.specs.declared.ask.Ask.{Ask}
use Rattle.sides.specs.inside.Inverse.{scale, inverse_of}
use Rattle.sides.specs.inside.Asks.{row, releases, part_of}
use Rattle.sides.specs.inside.Level.{runs_of, later}
use Rattle.sides.proofs.Rows.{over_rows}

-- the most that one row asks for after the first tick
abbrev pub most_later : ℕ
most_later = horizon * most

sum_small : (f : ℕ → ℕ) (n b : ℕ) → ((j : ℕ) → j < n → f j ≤ b) → sum f n ≤ n * b
unfolding sum
sum_small f zero b h = omega arith
sum_small f (suc n) b h = omega (arith, sum_small f n b (λ j l. h j (omega arith)), h n (omega arith))

module _ (a : Ask) {s : ℕ} (le : s ≤ horizon) where
  pub product_small : s * a.inverse ≤ horizon * inverse_of 1
  product_small = mul-le-mul {n₂ = horizon} {m₂ = inverse_of 1} le a.small_inverse

  pub releases_small : releases a s < 1000001
  releases_small = (div-lt_iff_lt-mul {k = scale} {y = 1000001} (omega arith)).1 (omega (arith, product_small))

  pub part_small : part_of a s ≤ most_later
  part_small = mul-le-mul {n₂ = horizon} {m₂ = most} (omega (arith, releases_small)) a.small_run

module _ (level : List Ask) (few : length level ≤ most_rows) where
  rows_small : (f : Ask → ℕ) (b : ℕ) → ((a : Ask) → f a ≤ b) → sum_by f level ≤ most_rows * b
  rows_small f b h =
      omega (
        arith,
        over_rows f level,
        sum_small (λ p. f (row level p)) (length level) b (λ p _. h (row level p)),
        mul-le-mul_right {m = length level} {n = most_rows} b few,
      )

  pub runs_small : runs_of level ≤ most_rows * most
  unfolding runs_of
  runs_small = rows_small (λ a. a.run) most (λ a. a.small_run)

  pub later_small : {s : ℕ} → s ≤ horizon → later level s ≤ most_rows * most_later
  unfolding later
  later_small {s} le = rows_small (λ a. part_of a s) most_later (λ a. part_small a le)
