-- Searches that compute: the first number at which a test passes, and whether it passes at all numbers below n.
use Prim.Native.Nat.{ℕ, zero, suc, ◌+◌, ◌≤◌, ◌<◌}
use mathlib.Core.Path.{◌≡◌, refl, ap, ◌∙◌}
use mathlib.Core.Bool.{Bool, true, false}
use native.Mathlib.Omega.{arith}
use Rattle.counting.proofs.Cases.{by_bool, by_eq, not_both}

-- the first of t, t + 1, .. at which the test passes; t + k if none of t, .., t + k - 1 does
unfoldable pub first : (ℕ → Bool) → ℕ → ℕ → ℕ
first P zero t = t
first P (suc k) t = elim (P t) [ true ↦ t | false ↦ first P k (suc t) ]

pub first_ge : (P : ℕ → Bool) (k t : ℕ) → t ≤ first P k t
unfolding first
first_ge P zero t = omega arith
first_ge P (suc k) t =
    by_bool (P t) (λ e. rw (e, first) (omega arith)) (λ e. rw (e, first) (omega (arith, first_ge P k (suc t))))

-- below the first the test fails
pub first_before : (P : ℕ → Bool) (k t u : ℕ) → t ≤ u → u < first P k t → P u ≡ false
unfolding first
first_before P zero t u a b = absurd (omega arith)
first_before P (suc k) t u a b =
    by_bool (P t)
    (λ e. absurd (omega (arith, rw (e, first) at b)))
    (λ e. by_eq t u (λ q. rw (← q) e) (λ q. first_before P k (suc t) u (omega arith) (rw (e, first) at b)))

-- what passes within the bound is found, or something before it
pub first_found : (P : ℕ → Bool) (k t u : ℕ) → t ≤ u → u < t + k → P u ≡ true →
    (P (first P k t) ≡ true) × (first P k t ≤ u)
unfolding first
first_found P zero t u a b e = absurd (omega arith)
first_found P (suc k) t u a b e =
    by_bool (P t)
    (λ h. rw (h, first) (h, a))
    (λ h. rw (h, first)
    (by_eq t u (λ q. not_both (P t) h (ap P q ∙ e)) (λ q. first_found P k (suc t) u (omega arith) (omega arith) e)))

-- where it ends within the bound the test passes
pub first_within : (P : ℕ → Bool) (k t : ℕ) → first P k t < t + k → P (first P k t) ≡ true
unfolding first
first_within P zero t h = absurd (omega arith)
first_within P (suc k) t h =
    by_bool (P t)
    (λ e. rw (e, first) e)
    (λ e. rw (e, first) (first_within P k (suc t) (omega (arith, rw (e, first) at h))))

-- the test passes at 0, .., n - 1
unfoldable pub all : (ℕ → Bool) → ℕ → Bool
all P zero = true
all P (suc n) = elim (all P n) [ true ↦ P n | false ↦ false ]

pub all_at : (P : ℕ → Bool) (n : ℕ) → all P n ≡ true → (j : ℕ) → j < n → P j ≡ true
unfolding all
all_at P zero e j h = absurd (omega arith)
all_at P (suc n) e j h =
    by_bool (all P n)
    (λ a. let e' : P n ≡ true = rw (a, all) at e in by_eq j n (λ q. rw q e') (λ q. all_at P n a j (omega arith)))
    (λ a. let z : false ≡ true = rw (a, all) at e in cc)

pub all_not : (P : ℕ → Bool) (n : ℕ) → all P n ≡ false → (j : ℕ) × (j < n) × (P j ≡ false)
unfolding all
all_not P zero e = not_both true e refl
all_not P (suc n) e =
    by_bool (all P n)
    (λ a. (n, omega arith, rw (a, all) at e))
    (λ a. let r = all_not P n a in (r.0, omega arith, r.2))

-- no number below n passes, or some number does
pub by_any {ℓ} : {X : Type ℓ} (P : ℕ → Bool) (n : ℕ) → (((k : ℕ) → k < n → P k ≡ false) → X) →
    ((k : ℕ) → k < n → P k ≡ true → X) → X
by_any P zero f g = f (λ k l. absurd (omega arith))
by_any P (suc n) f g =
    by_bool (P n)
    (λ e. g n (omega arith) e)
    (λ e. by_any P n (λ h. f (λ k l. by_eq k n (λ q. ap P q ∙ e) (λ q. h k (omega arith))))
    (λ k l q. g k (omega arith) q))
