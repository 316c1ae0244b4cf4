-- Laws of decimal text: how one digit more is appended, and how long it is.
use Prim.Native.Nat.{ℕ, zero, suc, ◌+◌, ◌*◌, ◌/◌, ◌%◌, ◌^◌, ◌≤◌, ◌<◌}
use mathlib.Core.Path.{◌≡◌, refl, ap, ◌∙◌}
use mathlib.Core.List.{[], ◌∷◌, ◌++◌}
use native.Mathlib.Omega.{arith}
use native.Mathlib.Nat.{pow-suc}
use lib.ListN.{length, length-append}
use Rattle.counting.proofs.Cases.{by_le}
use Rattle.decimal.specs.Decimal.{nought, digits_in, digits, decimal}

-- as many digits asked for as there are or more
same : (k j x : ℕ) → x ≤ k → x ≤ j → digits_in k x ≡ digits_in j x
unfolding digits_in
same zero zero x p q = refl
same zero (suc j) zero p q = refl
same zero (suc j) (suc x) p q = absurd (omega arith)
same (suc k) zero zero p q = refl
same (suc k) zero (suc x) p q = absurd (omega arith)
same (suc k) (suc j) zero p q = refl
same (suc k) (suc j) (suc x) p q = rw (same k j (suc x / 10) (omega arith) (omega arith))

pub digits_zero : digits 0 ≡ []
unfolding digits digits_in
digits_zero = refl

pub digits_last : (x : ℕ) → 0 < x → digits x ≡ digits (x / 10) ++ (nought + x % 10) ∷ []
unfolding digits digits_in
digits_last zero p = absurd (omega arith)
digits_last (suc x) p = rw (same x (suc x / 10) (suc x / 10) (omega arith) (omega arith))

-- one digit more behind those of v
pub digits_more : (v d : ℕ) → d < 10 → 0 < 10 * v + d → digits (10 * v + d) ≡ digits v ++ (nought + d) ∷ []
digits_more v d p q =
    let a : (10 * v + d) / 10 ≡ v = omega arith in
    let b : (10 * v + d) % 10 ≡ d = omega arith in
    rw (digits_last (10 * v + d) q, a, b)

pub decimal_digits : (x : ℕ) → 0 < x → decimal x ≡ digits x
unfolding decimal
decimal_digits zero p = absurd (omega arith)
decimal_digits (suc x) p = refl

pub decimal_small : (x : ℕ) → x < 10 → decimal x ≡ (nought + x) ∷ []
unfolding decimal
decimal_small zero p = refl
decimal_small (suc x) p =
    let a : suc x / 10 ≡ 0 = omega arith in
    let b : suc x % 10 ≡ suc x = omega arith in
    digits_last (suc x) (omega arith) ∙ rw (a, b, digits_zero)

pub decimal_big : (x : ℕ) → 10 ≤ x → decimal x ≡ decimal (x / 10) ++ (nought + x % 10) ∷ []
decimal_big x p =
    rw (decimal_digits x (omega arith), decimal_digits (x / 10) (omega arith)) (digits_last x (omega arith))

pub length_small : (x : ℕ) → x < 10 → length (decimal x) ≡ 1
length_small x p = ap length (decimal_small x p)

pub length_big : (x : ℕ) → 10 ≤ x → length (decimal x) ≡ length (decimal (x / 10)) + 1
length_big x p = rw (decimal_big x p, length-append)

-- a number below 10 ^ k has k digits or fewer
pub few_digits : (k x : ℕ) → x < 10 ^ k → length (digits x) ≤ k
unfolding digits digits_in
few_digits zero zero p = omega arith
few_digits zero (suc x) p = absurd (omega arith)
few_digits (suc k) x p =
    by_le x 0
    (λ z. let e : x ≡ 0 = omega arith in rw e (omega arith))
    (λ z.
    rw (digits_last x z, length-append) (omega (arith, few_digits k (x / 10) (omega (arith, pow-suc 10 k)))))

pub few : (k x : ℕ) → x < 10 ^ suc k → length (decimal x) ≤ suc k
few k x p =
    by_le x 0
    (λ z. omega (arith, length_small x (omega arith)))
    (λ z. omega (arith, few_digits (suc k) x p, ap length (decimal_digits x z)))

-- every number has a digit
pub some : (x : ℕ) → 1 ≤ length (decimal x)
some x = by_le 10 x (λ p. omega (arith, length_big x p)) (λ p. omega (arith, length_small x p))
