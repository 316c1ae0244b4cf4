-- The law of the inverse of a spacing: a product with it, over the scale, is what a division by the spacing gives.
use Prim.Native.Nat.{ℕ, ◌+◌, ◌*◌, ◌/◌, ◌≤◌, ◌<◌}
use mathlib.Core.Path.{◌≡◌}
use native.Mathlib.Omega.{arith}
use native.Mathlib.Nat.{div-add-mod', mod-lt, div-eq_of_lt-le, lt_of_mul-lt-mul_right, mul-le-mul_left}
use native.Mathlib.Nat.{mul-le-mul_right}
use Rattle.sides.specs.inside.Inverse.{scale, inverse_of}

-- the inverse times T passes the scale by 1 to T, and s times that stays below the scale
pub by_inverse : (s T : ℕ) → 1 ≤ T → s * T < scale → s * inverse_of T / scale ≡ s / T
by_inverse s T some small =
    let m = inverse_of T in
    let q = s / T in
    let apart = div-add-mod' scale T in
    let less = mod-lt scale some in
    let s-apart = div-add-mod' s T in
    let s_less = mod-lt s some in
    let from : scale ≤ m * T = omega arith in
    let to : m * T ≤ scale + T = omega arith in
    let low : q * scale ≤ s * m =
    let a = mul-le-mul_left q from in
    let b : q * T ≤ s = omega arith in
    omega (arith, mul-le-mul_right m b) in
    let high : s * m * T < (q + 1) * scale * T =
    let a = mul-le-mul_left s to in
    omega arith in
    div-eq_of_lt-le scale low (lt_of_mul-lt-mul_right T high)
