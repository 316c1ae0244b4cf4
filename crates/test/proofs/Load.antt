-- Laws of the load: what rows ask for never falls with time, grows with the rows, and a row is taken out of it by its
-- own part.
use Prim.Native.Nat.{ℕ, suc, ◌+◌, ◌*◌, ◌≤◌, ◌<◌}
use mathlib.Core.Path.{◌≡◌, refl, ap, sym}
use mathlib.Core.Bool.{Bool, true}
use native.Mathlib.Omega.{arith}
use native.Mathlib.Nat.{mul-le-mul_right}
use Rattle.counting.specs.Sum.{given, without}
use Rattle.counting.proofs.Up.{div_mono, up_mono, up_suc, up_pos}
use Rattle.counting.proofs.Sum.{sum_le, sum_ext, sum_without, given_le, given_sub}
use Rattle.counting.proofs.Least.{Mono}
use Rattle.tables.specs.Table.{Table, Sound}
use Rattle.test.specs.Test.{before, upto, load, every_row, busy_side}

-- every run and every spacing is at least 1
pub record Positive (tb : Table) : Type 0 where
  pub C : (j : ℕ) → j < tb.n → 0 < tb.C j
  pub T : (j : ℕ) → j < tb.n → 0 < tb.T j

pub sound_positive : (tb : Table) → Sound tb → Positive tb
sound_positive tb s = record { C = λ j l. (s.row j l).C.low; T = λ j l. (s.row j l).T.low }

-- floor plus one at s is rounding up at s + 1
upto_before : {T : ℕ} (s : ℕ) → 0 < T → upto s T ≡ before (suc s) T
upto_before s h = sym (up_suc s h)

module _ (tb : Table) where
  pub load_mono : (P : ℕ → Bool) → Mono (load before tb P)
  unfolding load
  load_mono P a b h = sum_le _ _ tb.n (λ j l. given_le (P j) (mul-le-mul_right (tb.C j) (up_mono (tb.T j) h)))

  -- up to and with s is before s + 1
  pub load_upto : Positive tb → (P : ℕ → Bool) (s : ℕ) → load upto tb P s ≡ load before tb P (suc s)
  unfolding load
  load_upto pos P s = sum_ext _ _ tb.n (λ j l. ap (λ x. given (P j) (x * tb.C j)) (upto_before s (pos.T j l)))

  pub load_upto_mono : (P : ℕ → Bool) → Mono (load upto tb P)
  unfolding load
  load_upto_mono P a b h =
      sum_le _ _ tb.n (λ j l. given_le (P j) (mul-le-mul_right (tb.C j) (omega (arith, div_mono (tb.T j) h))))

  -- more rows ask for no less, whatever rule counts the releases; the rows below n alone count
  module _ (releases : ℕ → ℕ → ℕ) where
    pub load_sub : (P Q : ℕ → Bool) → ((j : ℕ) → j < tb.n → P j ≡ true → Q j ≡ true) → (t : ℕ) →
        load releases tb P t ≤ load releases tb Q t
    unfolding load
    load_sub P Q h t = sum_le _ _ tb.n (λ j l. given_sub (P j) (Q j) _ (h j l))

    pub load_ext : (P Q : ℕ → Bool) → ((j : ℕ) → j < tb.n → P j ≡ Q j) → (t : ℕ) →
        load releases tb P t ≡ load releases tb Q t
    unfolding load
    load_ext P Q h t = sum_ext _ _ tb.n (λ j l. ap (λ b. given b (releases t (tb.T j) * tb.C j)) (h j l))

    -- a row taken out
    pub load_without : (U : ℕ → Bool) (y t : ℕ) → y < tb.n → U y ≡ true →
        load releases tb (without U y) t + releases t (tb.T y) * tb.C y ≡ load releases tb U t
    unfolding load
    load_without U y t l e = sum_without U y (λ j. releases t (tb.T j) * tb.C j) tb.n l e

    -- one row's part
    pub load_part : (U : ℕ → Bool) (y t : ℕ) → y < tb.n → U y ≡ true →
        releases t (tb.T y) * tb.C y ≤ load releases tb U t
    load_part U y t l e = omega (arith, load_without U y t l e)

  -- a row asks for its whole run before any t of at least 1
  pub run_asked : Positive tb → (y t : ℕ) → y < tb.n → 1 ≤ t → tb.C y ≤ before t (tb.T y) * tb.C y
  run_asked pos y t l h = omega (arith, mul-le-mul_right (tb.C y) (up_pos t (pos.T y l) h))

  pub busy_side_mono : Mono (busy_side tb)
  unfolding busy_side
  busy_side_mono a b h = load_mono every_row a b h

  pub busy_side_up : Positive tb → 1 ≤ tb.n → 1 ≤ busy_side tb 1
  unfolding busy_side
  busy_side_up pos some =
      omega (arith, load_part before every_row 0 1 some refl, run_asked pos 0 1 some (omega arith), pos.C 0 some)
