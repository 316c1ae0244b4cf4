-- Laws of lists of two numbers a row: zeros at first, stored to row by row, and equal where their rows are.
use Prim.Native.Nat.{ℕ, ◌+◌, ◌*◌, ◌/◌, ◌<◌}
use mathlib.Core.Path.{◌≡◌, ◌∙◌}
use mathlib.Core.List.{List}
use native.Mathlib.Omega.{arith}
use lib.ListN.{length, get_or, set, length-set, replicate, length-replicate, get_or-replicate, get_or-eq_default}
use lib.Seq.{ext_get_or, get_or-set_same, get_or-set_other}
use Rattle.counting.proofs.Cases.{by_le, by_eq}

-- a list in which the row p has become two numbers
abbrev pub put : List ℕ → ℕ → ℕ → ℕ → List ℕ
put l p x y = set (set l (2 * p) x) (2 * p + 1) y

pub zeros : (m k : ℕ) → ◌≡◌ {A = ℕ} (get_or (replicate m 0) k 0) 0
zeros m k =
    by_le m k
    (λ h. get_or-eq_default (replicate m 0) 0 {n = k} (omega (arith, length-replicate {A = ℕ} m 0)))
    (λ h. get_or-replicate m k 0 0 h)

pub pairs_same : (l m : List ℕ) → length l ≡ length m →
    ((i : ℕ) → get_or l (2 * i) 0 ≡ get_or m (2 * i) 0) →
    ((i : ℕ) → get_or l (2 * i + 1) 0 ≡ get_or m (2 * i + 1) 0) → l ≡ m
pairs_same l m long first second =
    ext_get_or 0 l m long
    (λ k _.
    let i = k / 2 in
    by_eq k (2 * i) (λ e. rw e (first i)) (λ c. let e : k ≡ 2 * i + 1 = omega arith in rw e (second i)))

module _ (l : List ℕ) (i x y : ℕ) where
  pub put_length : length (put l i x y) ≡ length l
  put_length = simp length-set

  pub put_other : (k : ℕ) → ¬ (k ≡ 2 * i) → ¬ (k ≡ 2 * i + 1) → get_or (put l i x y) k 0 ≡ get_or l k 0
  put_other k e f =
      get_or-set_other (set l (2 * i) x) (2 * i + 1) k y 0 f
      ∙ get_or-set_other l (2 * i) k x 0 e

  module _ (inside : 2 * i + 1 < length l) where
    pub put_first : get_or (put l i x y) (2 * i) 0 ≡ x
    put_first =
        get_or-set_other (set l (2 * i) x) (2 * i + 1) (2 * i) y 0 (λ e. omega arith)
        ∙ get_or-set_same l (2 * i) x 0 (omega arith)

    pub put_second : get_or (put l i x y) (2 * i + 1) 0 ≡ y
    put_second = get_or-set_same (set l (2 * i) x) (2 * i + 1) y 0
        (omega (arith, length-set l (2 * i) x))
