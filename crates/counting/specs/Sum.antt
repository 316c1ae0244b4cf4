-- Sums, largest values and counts over the numbers below n, guarded by a test: what document 01 means by "the sum
-- over", "the largest" and "the number of".
use Rattle.std.specs.Prelude.{ℕ, zero, suc, ◌+◌, max, Bool, true, false, ◌&&◌, not, eqb}

-- x where the test passes, and 0 where it does not
abbrev pub given : Bool → ℕ → ℕ
given true x = x
given false x = 0

-- the set U without i
abbrev pub without : (ℕ → Bool) → ℕ → ℕ → Bool
without U i j = U j && not (eqb j i)

-- f 0 + .. + f (n - 1); 0 where n is 0
unfoldable pub sum : (ℕ → ℕ) → ℕ → ℕ
sum f zero = 0
sum f (suc n) = sum f n + f n

-- the largest of f 0, .., f (n - 1); 0 where n is 0
unfoldable pub largest : (ℕ → ℕ) → ℕ → ℕ
largest f zero = 0
largest f (suc n) = max (largest f n) (f n)

-- how many of 0, .., n - 1 pass the test
unfoldable pub count : (ℕ → Bool) → ℕ → ℕ
count P n = sum (λ j. given (P j) 1) n
