-- The numbers below m that pass a test, listed in order, and sums over them; pairs of a tick and a row as numbers;
-- multiples.
use Prim.Native.Nat.{ℕ, zero, suc, ◌+◌, ◌*◌, ◌/◌, ◌%◌, ◌≤◌, ◌<◌}
use mathlib.Core.Path.{◌≡◌, refl, ap, sym, ◌∙◌}
use mathlib.Core.Bool.{Bool, true, false}
use mathlib.Core.List.{List, [], ◌∷◌, ◌++◌}
use native.Mathlib.Omega.{arith}
use native.Mathlib.Nat.{mul-le-mul_right, div-mul-le_self, div-add-mod', le_of_mul-le-mul_right, suc-mul, zero-mul}
use lib.Dec.{eqb}
use lib.Arith.{digits_div, digits_mod}
use lib.ListN.{length, get_or, length-append, get_or-append}
use lib.Seq.{get_or-append_seam}
use borrow.Author.Tests.{eq-eqb}
use Rattle.counting.specs.Up.{up}
use Rattle.counting.specs.Sum.{given, sum}
use Rattle.counting.proofs.Cases.{by_eq, by_le, by_bool}
use Rattle.counting.proofs.Up.{up_suc, lt_up, up_le, le_up}
use Rattle.counting.proofs.Sum.{sum_ext, sum_add, sum_shift}

-- the numbers 0, .., m - 1 that pass, in order
unfoldable pub keep : (ℕ → Bool) → ℕ → List ℕ
keep P zero = []
keep P (suc m) = elim (P m) [ true ↦ keep P m ++ (m ∷ []) | false ↦ keep P m ]

keep_in : (P : ℕ → Bool) (m : ℕ) → P m ≡ true → keep P (suc m) ≡ keep P m ++ (m ∷ [])
unfolding keep
keep_in P m e = rw (e, keep)

keep_out : (P : ℕ → Bool) (m : ℕ) → P m ≡ false → keep P (suc m) ≡ keep P m
unfolding keep
keep_out P m e = rw (e, keep)

abbrev pub size : (ℕ → Bool) → ℕ → ℕ
size P m = length (keep P m)

abbrev pub nth : (ℕ → Bool) → ℕ → ℕ → ℕ
nth P m k = get_or (keep P m) k 0

size_in : (P : ℕ → Bool) (m : ℕ) → P m ≡ true → size P (suc m) ≡ size P m + 1
size_in P m e = rw (keep_in P m e) (length-append (keep P m) (m ∷ []))

size_out : (P : ℕ → Bool) (m : ℕ) → P m ≡ false → size P (suc m) ≡ size P m
size_out P m e = rw (keep_out P m e)

nth_old : (P : ℕ → Bool) (m k : ℕ) → k < size P m → nth P (suc m) k ≡ nth P m k
nth_old P m k l =
    by_bool (P m)
    (λ e. rw (keep_in P m e) (get_or-append (keep P m) (m ∷ []) 0 k l))
    (λ e. rw (keep_out P m e))

nth_new : (P : ℕ → Bool) (m : ℕ) → P m ≡ true → nth P (suc m) (size P m) ≡ m
nth_new P m e = rw (keep_in P m e) (get_or-append_seam (keep P m) m [] 0)

-- what is listed lies below m and passes
pub record Listed (P : ℕ → Bool) (m c : ℕ) : Type 0 where
  pub below : c < m
  pub ok : P c ≡ true

pub nth_is : (P : ℕ → Bool) (m k : ℕ) → k < size P m → Listed P m (nth P m k)
unfolding keep
nth_is P zero k l = absurd (omega arith)
nth_is P (suc m) k l =
    by_le (size P m) k
    (λ h. by_bool (P m)
    (λ e.
    let q : k ≡ size P m = omega (arith, size_in P m e) in
    rw (q, nth_new P m e) (record { below = omega arith; ok = e }))
    (λ e. absurd (omega (arith, size_out P m e))))
    (λ h. let i = nth_is P m k h in rw (nth_old P m k h) (record { below = omega arith; ok = i.ok }))

-- the list rises
pub nth_rises : (P : ℕ → Bool) (m k l : ℕ) → k < l → l < size P m → nth P m k < nth P m l
unfolding keep
nth_rises P zero k l a b = absurd (omega arith)
nth_rises P (suc m) k l a b =
    by_le (size P m) l
    (λ h. by_bool (P m)
    (λ e.
    let q : l ≡ size P m = omega (arith, size_in P m e) in
    rw (q, nth_new P m e) (omega (arith, nth_old P m k (omega arith), nth_is P m k (omega arith))))
    (λ e. absurd (omega (arith, size_out P m e))))
    (λ h. omega (arith, nth_rises P m k l a h, nth_old P m k (omega arith), nth_old P m l h))

-- what passes is listed
pub nth_has : (P : ℕ → Bool) (m c : ℕ) → c < m → P c ≡ true → (k : ℕ) × (k < size P m) × (nth P m k ≡ c)
nth_has P zero c l e = absurd (omega arith)
nth_has P (suc m) c l e =
    by_eq c m
    (λ q. let e' : P m ≡ true = rw (← q) e in (size P m, omega (arith, size_in P m e'), nth_new P m e' ∙ sym q))
    (λ q.
    let r = nth_has P m c (omega arith) e in
    let grows : size P m ≤ size P (suc m) =
    by_bool (P m) (λ y. omega (arith, size_in P m y)) (λ y. omega (arith, size_out P m y)) in
    (r.0, omega (arith, r.1), nth_old P m r.0 r.1 ∙ r.2))

-- a sum over the list is a sum over the numbers
pub sum_keep : (P : ℕ → Bool) (f : ℕ → ℕ) (m : ℕ) → sum (λ k. f (nth P m k)) (size P m) ≡ sum (λ c. given (P c) (f c)) m
unfolding sum keep
sum_keep P f zero = refl
sum_keep P f (suc m) =
    let old = sum_ext (λ k. f (nth P (suc m) k)) (λ k. f (nth P m k)) (size P m) (λ k l. ap f (nth_old P m k l)) in
    by_bool (P m)
    (λ e.
    let q : size P (suc m) ≡ suc (size P m) = omega (arith, size_in P m e) in
    rw (e, q) (omega (arith, ap f (nth_new P m e), sum_keep P f m)))
    (λ e. rw (e, size_out P m e) (omega (arith, sum_keep P f m)))

pub sum_three : (f g h : ℕ → ℕ) (n : ℕ) → sum (λ k. f k + (g k + h k)) n ≡ sum f n + (sum g n + sum h n)
sum_three f g h n = omega (arith, sum_add f (λ k. g k + h k) n, sum_add g h n)

-- the number u n + h stands for tick u and row h
pub sum_pairs : (g : ℕ → ℕ → ℕ) (n m : ℕ) → sum (λ c. g (c / n) (c % n)) (m * n) ≡ sum (λ u. sum (g u) n) m
unfolding sum
sum_pairs g n zero = rw (zero-mul n)
sum_pairs g n (suc m) =
    let last = sum_ext (λ h. g ((m * n + h) / n) ((m * n + h) % n)) (g m) n
    (λ h l. rw (digits_div m l, digits_mod m l)) in
    rw (suc-mul m n) (omega (arith, sum_shift (λ c. g (c / n) (c % n)) (m * n) n, sum_pairs g n m))

-- of y numbers from 0 on, y / d rounded up at least are multiples of d
pub multiples : (d y : ℕ) → 0 < d → up y d ≤ sum (λ v. given (eqb (v % d) 0) 1) y
unfolding sum
multiples d zero p = up_le 0 0 p (omega arith)
multiples d (suc y) p =
    by_eq (y % d) 0
    (λ q.
    let a : y / d ≤ up y d = le_of_mul-le-mul_right {k = d} (omega (arith, le_up y p, div-mul-le_self y d)) p in
    rw (eq-eqb (y % d) 0 q) (omega (arith, multiples d y p, up_suc y p)))
    (λ q. omega (arith, multiples d y p, up_suc y p, lt_up y (y / d) p (omega (arith, div-add-mod' y d))))

-- two multiples are apart
pub multiples_apart : (d a b : ℕ) → a % d ≡ 0 → b % d ≡ 0 → a < b → a + d ≤ b
multiples_apart d a b e f h =
    by_le (b / d) (a / d)
    (λ g. absurd (omega (arith, mul-le-mul_right d g, div-add-mod' a d, div-add-mod' b d)))
    (λ g. omega (arith, mul-le-mul_right d g, div-add-mod' a d, div-add-mod' b d))
