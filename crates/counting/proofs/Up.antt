-- Laws of rounding up: it is the least m with t ≤ m · d, it never falls as t grows and never rises as d grows.
use Prim.Native.Nat.{ℕ, zero, suc, ◌+◌, ◌-◌, ◌*◌, ◌/◌, ◌%◌, min, ◌≤◌, ◌<◌}
use mathlib.Core.Path.{◌≡◌, ap, ◌∙◌}
use native.Mathlib.Omega.{arith}
use native.Mathlib.Nat.{mul-le-mul_left, le-div_iff_mul-le, div-lt_iff_lt-mul, div-mul-le_self, lt-div-mul-add}
use native.Mathlib.Nat.{div-zero, add-div_right}
use Rattle.counting.specs.Up.{up}
use Rattle.counting.proofs.Cases.{by_eq}

pub div_mono : (d : ℕ) {a b : ℕ} → a ≤ b → a / d ≤ b / d
div_mono zero {a} {b} h = omega (arith, div-zero a, div-zero b)
div_mono (suc d) {a} {b} h =
    (le-div_iff_mul-le {k = suc d} {x = a / suc d} {y = b} (omega arith)).1 (omega (arith, div-mul-le_self a (suc d)))

-- the least m with t ≤ m · d
pub le_up : {d : ℕ} (t : ℕ) → 0 < d → t ≤ up t d * d
unfolding up
le_up {d} t p = omega (arith, lt-div-mul-add {a = t + (d - 1)} p)

pub up_le : {d : ℕ} (t m : ℕ) → 0 < d → t ≤ m * d → up t d ≤ m
unfolding up
up_le {d} t m p h = let q : (t + (d - 1)) / d < suc m = (div-lt_iff_lt-mul p).1 (omega arith) in omega arith

-- what lies below t by d's is below it
pub lt_up : {d : ℕ} (t m : ℕ) → 0 < d → m * d < t → m < up t d
unfolding up
lt_up {d} t m p h = (le-div_iff_mul-le {x = suc m} p).1 (omega arith)

-- the whole quotient, and one more where there is a remainder
pub up_div : {d : ℕ} (t : ℕ) → 0 < d → t / d + min 1 (t % d) ≡ up t d
up_div {d} t p =
    let q = t / d in
    let low : q < suc (up t d) = (div-lt_iff_lt-mul p).1 (omega (arith, le_up t p)) in
    by_eq (t % d) 0
    (λ e. omega (arith, up_le t q p (omega arith)))
    (λ e. omega (arith, up_le t (suc q) p (omega arith), lt_up t q p (omega arith)))

pub up_mono : (d : ℕ) {a b : ℕ} → a ≤ b → up a d ≤ up b d
unfolding up
up_mono d h = div_mono d (omega arith)

-- a larger divisor
pub up_anti : (t : ℕ) {d e : ℕ} → 0 < d → d ≤ e → up t e ≤ up t d
up_anti t {d} {e} p h = up_le t (up t d) (omega arith) (omega (arith, le_up t p, mul-le-mul_left (up t d) h))

pub up_pos : {d : ℕ} (t : ℕ) → 0 < d → 0 < t → 0 < up t d
up_pos t p h = lt_up t 0 p (omega arith)

-- floor plus one is rounding up one tick later
pub up_suc : {d : ℕ} (t : ℕ) → 0 < d → up (suc t) d ≡ t / d + 1
unfolding up
up_suc {d} t p = let e : suc t + (d - 1) ≡ t + d = omega arith in ap (λ x. x / d) e ∙ add-div_right t p
