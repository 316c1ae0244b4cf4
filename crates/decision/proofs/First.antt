-- What `find` says of a range from `from` to N, where N stands for none: the number that is found is the first that
-- passes, and none before it does.
use Prim.Native.Nat.{ℕ, ◌≤◌, ◌<◌}
use native.Mathlib.Omega.{arith}
use Rattle.std.proofs.Common.{Option, Some, None, MatchOption, unwrap_or}

pub record First (Yes No : ℕ → Type 0) (from N k : ℕ) : Type 0 where
  pub low : from ≤ k
  pub high : k ≤ N
  pub is : k < N → Yes k
  pub none : (l : ℕ) → from ≤ l → l < k → No l

pub first_or_end : {Yes No : ℕ → Type 0} {from N : ℕ} → from ≤ N → (r : Option ℕ) →
    MatchOption r ((k : ℕ) → from ≤ k → k < N → No k)
    (λ i. (from ≤ i) × (i < N) × Yes i × ((k : ℕ) → from ≤ k → k < i → No k)) →
    First Yes No from N (unwrap_or r N)
first_or_end some None none = record { low = some; high = omega arith; is = λ h. absurd (omega arith); none = none }
first_or_end some (Some k) found =
    record { low = found.0; high = omega (arith, found.1); is = λ _. found.2; none = found.3 }
