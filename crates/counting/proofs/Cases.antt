-- Case splits in continuation form: on a test, on an order, on an equation of numbers.
use Prim.Native.Nat.{ℕ, ◌≤◌, ◌<◌}
use mathlib.Core.Path.{◌≡◌, refl}
use mathlib.Core.Bool.{Bool, true, false, ◌&&◌, ◌||◌}
use native.Mathlib.Omega.{arith}
use native.Mathlib.Nat.{lt_of_not-le}
use native.Mathlib.Decide.{dec_le, ℕ_discrete}

-- A recursive call may stand in either branch.
pub by_bool {ℓ} : {X : Type ℓ} (b : Bool) → (b ≡ true → X) → (b ≡ false → X) → X
by_bool true f g = f refl
by_bool false f g = g refl

by_dec {ℓ} : {A : Type 0} {X : Type ℓ} → Dec A → (A → X) → (¬ A → X) → X
by_dec (yes a) f g = f a
by_dec (no h) f g = g h

pub by_le {ℓ} : {X : Type ℓ} (a b : ℕ) → (a ≤ b → X) → (b < a → X) → X
by_le a b f g = by_dec (dec_le a b) f (λ h. g (lt_of_not-le h))

pub by_eq {ℓ} : {X : Type ℓ} (a b : ℕ) → (a ≡ b → X) → (¬ (a ≡ b) → X) → X
by_eq a b f g = by_dec (ℕ_discrete a b) f g

-- a test does not both fail and pass
pub not_both {ℓ} : {X : Type ℓ} (b : Bool) → b ≡ false → b ≡ true → X
not_both b f t = absurd (let o : ◌≡◌ {A = ℕ} 0 1 = cc in omega arith)

-- both tests of a pair
pub and_left : (a b : Bool) → (a && b) ≡ true → a ≡ true
and_left true b e = refl
and_left false b e = e

pub and_right : (a b : Bool) → (a && b) ≡ true → b ≡ true
and_right true b e = e
and_right false b e = not_both false refl e

pub and_both : (a b : Bool) → a ≡ true → b ≡ true → (a && b) ≡ true
and_both a b e g = rw (e, g)

-- one of two tests
pub or_cases {ℓ} : {X : Type ℓ} (a b : Bool) → (a || b) ≡ true → (a ≡ true → X) → (b ≡ true → X) → X
or_cases true b e f g = f refl
or_cases false b e f g = g e

pub or_left : (a b : Bool) → a ≡ true → (a || b) ≡ true
or_left a b e = rw e

pub or_right : (a b : Bool) → b ≡ true → (a || b) ≡ true
or_right true b e = refl
or_right false b e = e
