-- Laws of sums, largest values and counts over the numbers below n.
use Prim.Native.Nat.{ℕ, zero, suc, ◌+◌, ◌-◌, ◌*◌, ◌≤◌, ◌<◌}
use mathlib.Core.Path.{◌≡◌, refl, ap, sym, ◌∙◌, subst, fun_ext}
use mathlib.Core.Bool.{Bool, true, false, not, and_comm}
use native.Mathlib.Omega.{arith}
use native.Mathlib.Nat.{add-zero, add-suc}
use lib.Dec.{eqb, ltb}
use borrow.Author.Tests.{eq-eqb, ne_eqb, lt-ltb, le-ltb}
use Rattle.counting.specs.Sum.{given, without, sum, largest, count}
use Rattle.counting.proofs.Search.{by_any}
use Rattle.counting.proofs.Cases.{by_bool, by_eq, by_le, not_both}

-- a set without one of its numbers
pub without_same : (U : ℕ → Bool) (y : ℕ) → without U y y ≡ false
without_same U y = by_bool (U y) (λ e. rw (e, eq-eqb y y refl)) (λ e. rw e)

pub without_other : (U : ℕ → Bool) (y j : ℕ) → ¬ (j ≡ y) → without U y j ≡ U j
without_other U y j h = by_bool (U j) (λ e. rw (e, ne_eqb j y h)) (λ e. rw e)

-- a test that fails at y and is that of U at every other number
pub is_without : (U : ℕ → Bool) (y j : ℕ) (b : Bool) → (j ≡ y → b ≡ false) → (¬ (j ≡ y) → b ≡ U j) → b ≡ without U y j
is_without U y j b same other =
    by_eq j y
    (λ e. same e ∙ sym (ap (without U y) e ∙ without_same U y))
    (λ e. other e ∙ sym (without_other U y j e))

pub without_intro : (U : ℕ → Bool) (y j : ℕ) → ¬ (j ≡ y) → U j ≡ true → without U y j ≡ true
without_intro U y j h e = without_other U y j h ∙ e

pub without_elim {ℓ} : {X : Type ℓ} (U : ℕ → Bool) (y j : ℕ) → without U y j ≡ true → (¬ (j ≡ y) → U j ≡ true → X) → X
without_elim U y j e k =
    by_eq j y
    (λ q. not_both (without U y y) (without_same U y) (ap (without U y) (sym q) ∙ e))
    (λ q. k q (sym (without_other U y j q) ∙ e))

pub without_comm : (U : ℕ → Bool) (x y : ℕ) → without (without U x) y ≡ without (without U y) x
without_comm U x y = fun_ext (λ j. by_bool (U j) (λ e. rw e (and_comm (not (eqb j x)) (not (eqb j y)))) (λ e. rw e))

pub sum_le : (f g : ℕ → ℕ) (n : ℕ) → ((j : ℕ) → j < n → f j ≤ g j) → sum f n ≤ sum g n
unfolding sum
sum_le f g zero h = omega arith
sum_le f g (suc n) h = omega (arith, sum_le f g n (λ j l. h j (omega arith)), h n (omega arith))

pub sum_ext : (f g : ℕ → ℕ) (n : ℕ) → ((j : ℕ) → j < n → f j ≡ g j) → sum f n ≡ sum g n
sum_ext f g n h =
    omega (arith, sum_le f g n (λ j l. omega (arith, h j l)), sum_le g f n (λ j l. omega (arith, h j l)))

pub given_yes : (b : Bool) (x : ℕ) → b ≡ true → given b x ≡ x
given_yes b x e = rw e

pub given_no : (b : Bool) (x : ℕ) → b ≡ false → given b x ≡ 0
given_no b x e = rw e

pub given_le : (b : Bool) {x y : ℕ} → x ≤ y → given b x ≤ given b y
given_le true h = h
given_le false h = omega arith

pub largest_ge : (f : ℕ → ℕ) (n j : ℕ) → j < n → f j ≤ largest f n
unfolding largest
largest_ge f zero j h = absurd (omega arith)
largest_ge f (suc n) j h = by_eq j n (λ e. rw e (omega arith)) (λ e. omega (arith, largest_ge f n j (omega arith)))

pub largest_le : (f : ℕ → ℕ) (n b : ℕ) → ((j : ℕ) → j < n → f j ≤ b) → largest f n ≤ b
unfolding largest
largest_le f zero b h = omega arith
largest_le f (suc n) b h = omega (arith, largest_le f n b (λ j l. h j (omega arith)), h n (omega arith))

pub given_sub : (a b : Bool) (x : ℕ) → (a ≡ true → b ≡ true) → given a x ≤ given b x
given_sub true b x h = rw (h refl) (omega arith)
given_sub false b x h = omega arith

pub largest_ext : (f g : ℕ → ℕ) (n : ℕ) → ((j : ℕ) → j < n → f j ≡ g j) → largest f n ≡ largest g n
largest_ext f g n same =
    let up = largest_le f n (largest g n) (λ j l. omega (arith, same j l, largest_ge g n j l)) in
    let down = largest_le g n (largest f n) (λ j l. omega (arith, same j l, largest_ge f n j l)) in
    omega arith

pub largest_cases {ℓ} : {X : Type ℓ} (f : ℕ → ℕ) (n : ℕ) → (largest f n ≡ 0 → X) →
    ((j : ℕ) → j < n → largest f n ≡ f j → X) → X
unfolding largest
largest_cases f zero a b = a refl
largest_cases f (suc n) a b =
    by_le (largest f n) (f n)
    (λ h. b n (omega arith) (omega arith))
    (λ h. largest_cases f n (λ e. a (omega arith)) (λ j l e. b j (omega arith) (omega arith)))

pub count_all : (n : ℕ) → count (λ _. true) n ≡ n
unfolding count sum
count_all zero = refl
count_all (suc n) = omega (arith, count_all n)

pub sum_add : (f g : ℕ → ℕ) (n : ℕ) → sum (λ j. f j + g j) n ≡ sum f n + sum g n
unfolding sum
sum_add f g zero = refl
sum_add f g (suc n) = omega (arith, sum_add f g n)

pub sum_zero : (f : ℕ → ℕ) (n : ℕ) → ((j : ℕ) → j < n → f j ≡ 0) → sum f n ≡ 0
unfolding sum
sum_zero f zero h = refl
sum_zero f (suc n) h = omega (arith, sum_zero f n (λ j l. h j (omega arith)), h n (omega arith))

pub sum_mul : (f : ℕ → ℕ) (c n : ℕ) → sum (λ j. f j * c) n ≡ sum f n * c
unfolding sum
sum_mul f c zero = omega arith
sum_mul f c (suc n) = omega (arith, sum_mul f c n)

pub sum_delta : (x y n : ℕ) → y < n → sum (λ j. given (eqb y j) x) n ≡ x
unfolding sum
sum_delta x y zero l = absurd (omega arith)
sum_delta x y (suc n) l =
    by_eq y n
    (λ q.
    let others = sum_zero (λ j. given (eqb y j) x) n (λ j g. given_no (eqb y j) x (ne_eqb y j (omega arith))) in
    omega (arith, given_yes (eqb y n) x (eq-eqb y n q)))
    (λ q. omega (arith, given_no (eqb y n) x (ne_eqb y n q), sum_delta x y n (omega arith)))

pub sum_lt : (f g : ℕ → ℕ) (n k : ℕ) → ((j : ℕ) → j < n → f j ≤ g j) → k < n → f k < g k → sum f n < sum g n
unfolding sum
sum_lt f g zero k h l a = absurd (omega arith)
sum_lt f g (suc n) k h l a =
    by_eq k n
    (λ q. omega (arith, sum_le f g n (λ j i. h j (omega arith)), subst (λ z. f z < g z) q a))
    (λ q. omega (arith, sum_lt f g n k (λ j i. h j (omega arith)) (omega arith) a, h n (omega arith)))

pub sum_shift : (f : ℕ → ℕ) (a b : ℕ) → sum f (a + b) ≡ sum f a + sum (λ v. f (a + v)) b
unfolding sum
sum_shift f a zero = rw (add-zero a) (omega arith)
sum_shift f a (suc b) = rw (add-suc a b) (omega (arith, sum_shift f a b))

pub sum_more : (f : ℕ → ℕ) (a b : ℕ) → a ≤ b → sum f a ≤ sum f b
sum_more f a b h = let q : a + (b - a) ≡ b = omega arith in omega (arith, sum_shift f a (b - a), ap (sum f) q)

pub sum_ge : (f : ℕ → ℕ) (n j : ℕ) → j < n → f j ≤ sum f n
unfolding sum
sum_ge f n j l = omega (arith, sum_more f (suc j) n l)

pub sum_front : (f : ℕ → ℕ) (m n : ℕ) → m ≤ n → sum (λ k. given (ltb k m) (f k)) n ≡ sum f m
sum_front f m n l =
    let q : m + (n - m) ≡ n = omega arith in
    let g : ℕ → ℕ = λ k. given (ltb k m) (f k) in
    let front = sum_ext g f m (λ k h. given_yes (ltb k m) (f k) (lt-ltb k m h)) in
    let rest = sum_zero (λ v. g (m + v)) (n - m)
    (λ v _. given_no (ltb (m + v) m) (f (m + v)) (le-ltb (m + v) m (omega arith))) in
    omega (arith, ap (sum g) q, sum_shift g m (n - m))

pub sum_fubini : (h : ℕ → ℕ → ℕ) (m n : ℕ) → sum (λ u. sum (h u) n) m ≡ sum (λ r. sum (λ u. h u r) m) n
unfolding sum
sum_fubini h zero n = sym (sum_zero (λ r. sum (λ u. h u r) zero) n (λ _ _. refl))
sum_fubini h (suc m) n = omega (arith, sum_fubini h m n, sum_add (λ r. sum (λ u. h u r) m) (h m) n)

-- a sum over jobs, row by row
pub sum_swap : (r h : ℕ → ℕ) (n m : ℕ) → ((k : ℕ) → k < m → r k < n) →
    sum h m ≡ sum (λ j. sum (λ k. given (eqb (r k) j) (h k)) m) n
sum_swap r h n m l =
    sum_ext h (λ k. sum (λ j. given (eqb (r k) j) (h k)) n) m (λ k g. sym (sum_delta (h k) (r k) n (l k g)))
    ∙ sum_fubini (λ k j. given (eqb (r k) j) (h k)) m n

-- what at most one number below n is counted for is counted once at most
pub sum_once : (P : ℕ → Bool) (b n : ℕ) → ((k l : ℕ) → k < n → l < n → P k ≡ true → P l ≡ true → k ≡ l) →
    sum (λ k. given (P k) b) n ≤ b
sum_once P b n once =
    by_any P n
    (λ none. omega (arith, sum_zero (λ k. given (P k) b) n (λ k l. given_no (P k) b (none k l))))
    (λ k l e.
    let only = sum_le (λ j. given (P j) b) (λ j. given (eqb k j) b) n
    (λ j g. given_sub (P j) (eqb k j) b (λ f. eq-eqb k j (once k j l g e f))) in
    omega (arith, sum_delta b k n l))

-- one number taken out of a sum
pub sum_without : (U : ℕ → Bool) (y : ℕ) (f : ℕ → ℕ) (n : ℕ) → y < n → U y ≡ true →
    sum (λ j. given (without U y j) (f j)) n + f y ≡ sum (λ j. given (U j) (f j)) n
sum_without U y f n h e =
    let left : ℕ → ℕ = λ j. given (without U y j) (f j) in
    let out : ℕ → ℕ = λ j. given (eqb y j) (f y) in
    let each = sum_ext (λ j. left j + out j) (λ j. given (U j) (f j)) n
    (λ j _.
    by_eq y j
    (λ q. rw (← q, without_same U y, eq-eqb y y refl, e) (omega arith))
    (λ q. rw (without_other U y j (λ z. q (sym z)), ne_eqb y j q) (omega arith))) in
    omega (arith, sum_add left out n, sum_delta (f y) y n h)

pub count_without : (U : ℕ → Bool) (y n : ℕ) → y < n → U y ≡ true → count (without U y) n + 1 ≡ count U n
unfolding count
count_without U y n l e = sum_without U y (λ _. 1) n l e

pub count_zero : (P : ℕ → Bool) (n : ℕ) → count P n ≡ 0 → (j : ℕ) → j < n → P j ≡ false
unfolding count
count_zero P n h j l =
    by_bool (P j)
    (λ g. absurd (omega (arith, sum_ge (λ k. given (P k) 1) n j l, given_yes (P j) 1 g)))
    (λ g. g)

pub count_ext : (P Q : ℕ → Bool) (n : ℕ) → ((j : ℕ) → j < n → P j ≡ Q j) → count P n ≡ count Q n
unfolding count
count_ext P Q n h = sum_ext _ _ n (λ j l. ap (λ b. given b 1) (h j l))

pub count_none : (P : ℕ → Bool) (n : ℕ) → ((j : ℕ) → j < n → P j ≡ false) → count P n ≡ 0
unfolding count
count_none P n h = sum_zero (λ j. given (P j) 1) n (λ j l. given_no (P j) 1 (h j l))

pub count_le : (P : ℕ → Bool) (n : ℕ) → count P n ≤ n
unfolding count
count_le P n = omega (arith, sum_le _ (λ j. given true 1) n (λ j l. given_sub (P j) true 1 (λ _. refl)), count_all n)
