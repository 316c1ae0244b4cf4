-- The laws of marks: the first mark by trailing zeros, how many there are, one less, one more, all of n. Each by
-- induction on the digits.
use Prim.Native.Nat.{ℕ, zero, suc, ◌+◌, ◌-◌, ◌*◌, ◌/◌, ◌%◌, ◌^◌, min, ◌≤◌, ◌<◌, zero-le}
use mathlib.Core.Path.{◌≡◌, refl, sym, ap, ◌∙◌, fun_ext}
use mathlib.Core.Bool.{Bool, true, false, or-false, or-true}
use native.Mathlib.Omega.{arith}
use native.Mathlib.Nat.{div-one, div-div-eq-div-mul, pow-suc, le_of_suc-le-suc, not-suc-le-zero, one-mul}
use lib.Dec.{eqb, ltb, lit<}
use lib.Pow.{pow_pos, pow_mono, ones_split, high, shl_exact}
use lib.Bits.{bit_and, and_step, and_self, and_zero_r}
use lib.Count.{ones, count_trailing_zeros, ones_step}
use borrow.Author.Tests.{eqb-true, eqb-false, eq-eqb, ne_eqb, lt-ltb, le-ltb}
use Rattle.counting.specs.Sum.{given, sum, count}
use Rattle.counting.proofs.Cases.{by_bool, by_eq, by_le, not_both}
use Rattle.counting.proofs.Least.{least_unique}
use Rattle.counting.proofs.Sum.{is_without, given_no, sum_zero, sum_ext, sum_front, count_without, count_all}
use Rattle.marks.specs.inside.Marks.{marked, Whole, Next, Both, Less, More}

-- the lowest digit is 0 or 1
digit : {P : Type 0} (s : ℕ) → (s % 2 ≡ 0 → P) → (s % 2 ≡ 1 → P) → P
digit s a b = by_eq (s % 2) 0 a (λ h. b (omega arith))

-- the trailing zeros of a number that is not 0 lead to its lowest mark
lowest_marked : (k s : ℕ) → 0 < s → s < 2 ^ k → marked s (count_trailing_zeros k s) ≡ true
unfolding count_trailing_zeros marked
lowest_marked zero s p h = absurd (let q : s < 1 = h in omega arith)
lowest_marked (suc k) s p h =
    let w = pow-suc 2 k in
    digit s (λ e. rw e (lowest_marked k (s / 2) (omega arith) (omega arith))) (λ e. rw e (eq-eqb (s % 2) 1 e))

none_lower : (k s j : ℕ) → j < count_trailing_zeros k s → marked s j ≡ false
unfolding count_trailing_zeros marked
none_lower zero s j h = absurd (not-suc-le-zero h)
none_lower (suc k) s zero h =
    digit s (λ e. ne_eqb (s % 2) 1 (λ o. omega arith)) (λ e. absurd (not-suc-le-zero (rw e at h)))
none_lower (suc k) s (suc j) h =
    digit s
    (λ e. none_lower k (s / 2) j (le_of_suc-le-suc (rw e at h)))
    (λ e. absurd (not-suc-le-zero (rw e at h)))

-- a mark i is worth 2 ^ i
pub worth : (i s : ℕ) → marked s i ≡ true → 2 ^ i ≤ s
unfolding marked
worth zero s m = let e = eqb-true (s % 2) 1 m in let q : 1 ≤ s = omega arith in q
worth (suc i) s m = let w = pow-suc 2 i in let q = worth i (s / 2) m in omega arith

-- a set below 2 ^ k marks rows below k only
pub inside : (k s i : ℕ) → s < 2 ^ k → marked s i ≡ true → i < k
inside k s i h m = by_le k i (λ l. absurd (omega (arith, worth i s m, pow_mono l))) (λ l. l)

pub next_by_zeros : (s : ℕ) → 0 < s → s < 2 ^ 32 → Next s (count_trailing_zeros 32 s)
next_by_zeros s p h =
    let i = count_trailing_zeros 32 s in
    let m = lowest_marked 32 s p h in
    let low : (j : ℕ) → 0 ≤ j → marked s j ≡ true → i ≤ j =
    λ j _ g. by_le i j (λ l. l) (λ l. not_both (marked s j) (none_lower 32 s j l) g) in
    record { inside = inside 32 s i h m; first = record { low = zero-le; holds = m; least = low } }

pub none : (j : ℕ) → marked 0 j ≡ false
unfolding marked
none zero = refl
none (suc j) = none j

lowest_one : (s : ℕ) → given (eqb (s % 2) 1) 1 ≡ s % 2
lowest_one s = digit s (λ e. rw e) (λ e. rw e)

-- a number is the set of its marks
pub same_marks : (k s t : ℕ) → s < 2 ^ k → t < 2 ^ k → ((j : ℕ) → marked s j ≡ marked t j) → s ≡ t
unfolding marked
same_marks zero s t a b h = let p : s < 1 = a in let q : t < 1 = b in omega arith
same_marks (suc k) s t a b h =
    let w = pow-suc 2 k in
    let r = same_marks k (s / 2) (t / 2) (omega arith) (omega arith) (λ j. h (suc j)) in
    let d : s % 2 ≡ t % 2 = sym (lowest_one s) ∙ ap (λ b. given b 1) (h zero) ∙ lowest_one t in
    omega arith

-- a sum taken apart at its first number
pub sum_head : (f : ℕ → ℕ) (n : ℕ) → sum f (suc n) ≡ f 0 + sum (λ j. f (suc j)) n
unfolding sum
sum_head f zero = omega arith
sum_head f (suc n) = omega (arith, sum_head f n)

-- the count of ones is the number of marks
pub ones_count : (k s : ℕ) → s < 2 ^ k → ones s ≡ count (marked s) k
unfolding count sum ones marked
ones_count zero s h = ap ones (let q : s ≡ 0 = let r : s < 1 = h in omega arith in q)
ones_count (suc k) s h =
    let w = pow-suc 2 k in
    let r = ones_count k (s / 2) (omega arith) in
    omega (arith, sum_head (λ j. given (marked s j) 1) k, ones_step s, lowest_one s)

-- of the digits below i alone the ones are the marks before row i
pub ones_before : (i s : ℕ) → ones (bit_and s (2 ^ i - 1)) ≡ count (marked s) i
unfolding count sum ones marked
ones_before zero s = ap ones (and_zero_r s)
ones_before (suc i) s =
    let x = bit_and s (2 ^ suc i - 1) in
    let half : (2 ^ suc i - 1) / 2 ≡ 2 ^ i - 1 = omega (arith, pow-suc 2 i, pow_pos i) in
    let odd : (2 ^ suc i - 1) % 2 ≡ 1 = omega (arith, pow-suc 2 i, pow_pos i) in
    let step = and_step s (2 ^ suc i - 1) in
    let digits : (x / 2 ≡ bit_and (s / 2) (2 ^ i - 1)) × (x % 2 ≡ s % 2) =
    let e = ap (bit_and (s / 2)) half in (omega arith, omega arith) in
    omega (
      arith,
      ones_step x,
      ap ones digits.0,
      digits.1,
      ones_before i (s / 2),
      sum_head (λ j. given (marked s j) 1) i,
      lowest_one s,
    )

half_more : (i s : ℕ) → (s + 2 ^ suc i) / 2 ≡ s / 2 + 2 ^ i
half_more i s = let w = pow-suc 2 i in omega arith

unmarked_digit : (s : ℕ) → eqb (s % 2) 1 ≡ false → s % 2 ≡ 0
unmarked_digit s m = digit s (λ e. e) (λ e. absurd (eqb-false (s % 2) 1 m e))

come_more : (i s : ℕ) → marked s i ≡ false → marked (s + 2 ^ i) i ≡ true
unfolding marked
come_more zero s m = let e = unmarked_digit s m in eq-eqb ((s + 1) % 2) 1 (omega arith)
come_more (suc i) s m = rw (half_more i s) (come_more i (s / 2) m)

kept_more : (i s j : ℕ) → marked s i ≡ false → ¬ (j ≡ i) → marked (s + 2 ^ i) j ≡ marked s j
unfolding marked
kept_more zero s zero m ne = absurd (ne refl)
kept_more zero s (suc j) m ne =
    let e = unmarked_digit s m in
    let q : (s + 1) / 2 ≡ s / 2 = omega arith in
    ap (λ (x : ℕ). marked x j) q
kept_more (suc i) s zero m ne =
    let w = pow-suc 2 i in
    let q : (s + 2 ^ suc i) % 2 ≡ s % 2 = omega arith in
    ap (λ (x : ℕ). eqb x 1) q
kept_more (suc i) s (suc j) m ne = rw (half_more i s) (kept_more i (s / 2) j m (λ e. ne (ap suc e)))

pub more_by_worth : (i s : ℕ) → marked s i ≡ false → More s i (s + 2 ^ i)
more_by_worth i s m j =
    by_eq j i
    (λ e. rw (e, come_more i s m, eq-eqb i i refl) (sym (or-true (marked s i))))
    (λ e. rw (kept_more i s j m e, ne_eqb j i e) (sym (or-false (marked s j))))

pub more_fits : (k i s : ℕ) → i < k → s < 2 ^ k → marked s i ≡ false → s + 2 ^ i < 2 ^ k
unfolding marked
more_fits zero i s l h m = absurd (not-suc-le-zero l)
more_fits (suc k) zero s l h m = let q : s + 1 < 2 ^ suc k = omega (arith, pow-suc 2 k, unmarked_digit s m) in q
more_fits (suc k) (suc i) s l h m =
    let w = pow-suc 2 k in
    omega (arith, pow-suc 2 i, more_fits k i (s / 2) (omega arith) (omega arith) m)

gone_less : (i s : ℕ) → marked s i ≡ true → marked (s - 2 ^ i) i ≡ false
unfolding marked
gone_less zero s m = let e = eqb-true (s % 2) 1 m in ne_eqb ((s - 1) % 2) 1 (λ o. omega arith)
gone_less (suc i) s m =
    let half : (s - 2 ^ suc i) / 2 ≡ s / 2 - 2 ^ i = omega (arith, pow-suc 2 i, worth (suc i) s m) in
    rw half (gone_less i (s / 2) m)

-- a row less is the set to which that row is one more
kept_less : (i s j : ℕ) → marked s i ≡ true → ¬ (j ≡ i) → marked (s - 2 ^ i) j ≡ marked s j
kept_less i s j m ne =
    let whole : s - 2 ^ i + 2 ^ i ≡ s = omega (arith, worth i s m) in
    sym (rw whole at (kept_more i (s - 2 ^ i) j (gone_less i s m) ne))

pub less_by_worth : (i s : ℕ) → marked s i ≡ true → Less s i (s - 2 ^ i)
less_by_worth i s m =
    record {
      marks = fun_ext (λ j. is_without (marked s) i j _ (λ e. rw e (gone_less i s m)) (kept_less i s j m));
      smaller = omega (arith, pow_pos i, worth i s m);
    }

-- a number and one less have all digits in common but the lowest 1 and what is below it
clears_lowest : (k s : ℕ) → 0 < s → s < 2 ^ k → bit_and s (s - 1) ≡ s - 2 ^ count_trailing_zeros k s
unfolding count_trailing_zeros
clears_lowest zero s p h = absurd (let q : s < 1 = h in omega arith)
clears_lowest (suc k) s p h =
    let w = pow-suc 2 k in
    digit s
    (λ e.
    let half : (s - 1) / 2 ≡ s / 2 - 1 = omega arith in
    let less = clears_lowest k (s / 2) (omega arith) (omega arith) in
    rw e (omega (arith, and_step s (s - 1), ap (bit_and (s / 2)) half, pow-suc 2 (count_trailing_zeros k (s / 2)))))
    (λ e.
    let half : (s - 1) / 2 ≡ s / 2 = omega arith in
    rw e (omega (arith, and_step s (s - 1), ap (bit_and (s / 2)) half, and_self (s / 2))))

pub others_by_and : (s i : ℕ) → 0 < s → s < 2 ^ 32 → Next s i → Less s i (bit_and s (s - 1))
others_by_and s i p h n =
    let first = next_by_zeros s p h in
    let e : count_trailing_zeros 32 s ≡ i = least_unique first.first n.first in
    rw (clears_lowest 32 s p h, e) (less_by_worth i s n.first.holds)

-- a mark is a digit of the number shifted down to it
pub digit_at : (i s : ℕ) → marked s i ≡ eqb (s / 2 ^ i % 2) 1
unfolding marked
digit_at zero s = ap (λ x. eqb (x % 2) 1) (sym (div-one s))
digit_at (suc i) s =
    let twice : 2 * 2 ^ i ≡ 2 ^ suc i = omega (arith, pow-suc 2 i) in
    digit_at i (s / 2) ∙ ap (λ x. eqb (x % 2) 1) (div-div-eq-div-mul s 2 (2 ^ i) ∙ ap (λ x. s / x) twice)

-- two numbers have the ones in common that both have
pub both_by_and : (a b : ℕ) → Both a b (bit_and a b)
unfolding marked
both_by_and a b zero =
    let low : bit_and a b % 2 ≡ min (a % 2) (b % 2) = omega (arith, and_step a b) in
    digit a
    (λ e. digit b (λ f. rw (low, e, f)) (λ f. rw (low, e, f)))
    (λ e. digit b (λ f. rw (low, e, f)) (λ f. rw (low, e, f)))
both_by_and a b (suc j) =
    let half : bit_and a b / 2 ≡ bit_and (a / 2) (b / 2) = omega (arith, and_step a b) in
    rw half (both_by_and (a / 2) (b / 2) j)

all_marked : (n j : ℕ) → j < n → marked (2 ^ n - 1) j ≡ true
unfolding marked
all_marked zero j h = absurd (not-suc-le-zero h)
all_marked (suc n) zero h = eq-eqb ((2 ^ suc n - 1) % 2) 1 (omega (arith, pow-suc 2 n, pow_pos n))
all_marked (suc n) (suc j) h =
    let e : (2 ^ suc n - 1) / 2 ≡ 2 ^ n - 1 = omega (arith, pow-suc 2 n, pow_pos n) in
    rw e (all_marked n j (le_of_suc-le-suc h))

pub whole_by_power : (n : ℕ) → Whole n (2 ^ n - 1)
whole_by_power n j =
    by_le n j
    (λ l.
    by_bool (marked (2 ^ n - 1) j)
    (λ m. let p = pow_pos n in absurd (omega (arith, inside n (2 ^ n - 1) j (omega arith) m)))
    (λ m. m ∙ sym (le-ltb j n l)))
    (λ l. all_marked n j l ∙ sym (lt-ltb j n l))

-- the same set by a shift of all 32 marks
pub shifted : (n : ℕ) → n ≤ 32 → 4294967295 / 2 ^ (32 - n) ≡ 2 ^ n - 1
shifted n h =
    let f : n + (32 - n) ≡ 32 = omega arith in
    let e : 4294967295 ≡ (2 ^ n - 1) * 2 ^ (32 - n) + (2 ^ (32 - n) - 1) =
    ap (λ (x : ℕ). 2 ^ x - 1) (sym f) ∙ ones_split n (32 - n) in
    rw e (high (2 ^ n - 1) (32 - n) (let p = pow_pos (32 - n) in omega arith))

-- 1 << i
pub one_shl : (i : ℕ) → i < 32 → 1 * 2 ^ i % 4294967296 ≡ 2 ^ i
one_shl i h = shl_exact 1 i 32 (lit< tt) (omega arith) ∙ one-mul (2 ^ i)

-- nothing is marked in 0
pub sum_none_marked : (f : ℕ → ℕ) (n : ℕ) → sum (λ j. given (marked 0 j) (f j)) n ≡ 0
sum_none_marked f n = sum_zero (λ j. given (marked 0 j) (f j)) n (λ j _. given_no (marked 0 j) (f j) (none j))

-- a row less is one fewer
pub count_less : {s i r : ℕ} (n : ℕ) → Less s i r → i < n → marked s i ≡ true →
    count (marked r) n + 1 ≡ count (marked s) n
count_less {s} {i} {r} n l h m = ap (λ (P : ℕ → Bool). count P n + 1) l.marks ∙ count_without (marked s) i n h m

-- how many rows a set has: n where it is whole, none where it is 0, and some otherwise
pub whole_count : (n s : ℕ) → Whole n s → n ≤ 32 → count (marked s) 32 ≡ n
unfolding count
whole_count n s w h =
    sum_ext (λ j. given (marked s j) 1) (λ j. given (ltb j n) 1) 32 (λ j _. ap (λ b. given b 1) (w j))
    ∙ sum_front (λ _. 1) n 32 h
    ∙ count_all n

pub count_nothing : (n : ℕ) → count (marked 0) n ≡ 0
unfolding count
count_nothing n = sum_none_marked (λ _. 1) n

below_power : (s : ℕ) → s < 2 ^ s
below_power zero = omega arith
below_power (suc s) = omega (arith, below_power s, pow-suc 2 s)

-- a set that is not empty has a row
pub something : (s : ℕ) → 0 < s → marked s (count_trailing_zeros s s) ≡ true
something s p = lowest_marked s s p (below_power s)

pub count_something : (s n : ℕ) → 0 < s → ((j : ℕ) → marked s j ≡ true → j < n) → 1 ≤ count (marked s) n
count_something s n p within =
    let i = count_trailing_zeros s s in
    let m = something s p in
    omega (arith, count_without (marked s) i n (within i m) m)
