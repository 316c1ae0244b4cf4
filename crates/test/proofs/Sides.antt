-- Laws of the right sides of the active period and of the starts: they never fall, and nothing is cut off.
use Prim.Native.Nat.{ℕ, ◌+◌, ◌-◌, ◌*◌, ◌≤◌, ◌<◌}
use mathlib.Core.Path.{◌≡◌, refl, ap}
use mathlib.Core.Bool.{Bool, true}
use native.Mathlib.Omega.{arith}
use native.Mathlib.Nat.{mul-le-mul_right}
use Rattle.counting.specs.Sum.{without}
use Rattle.counting.proofs.Up.{up_le, up_mono, up_pos}
use Rattle.counting.proofs.Least.{Mono}
use Rattle.tables.specs.Table.{Table}
use Rattle.test.specs.Test.{before, upto, load, active_side, start_side}
use Rattle.test.proofs.Load.{Positive, load_mono, load_upto, load_upto_mono, load_without, run_asked}

module _ (tb : Table) (P : ℕ → Bool) (b i : ℕ) where
  -- the text of each side, for omega
  pub active_side_is : (t : ℕ) → active_side tb P b i t ≡ b + before t (tb.T i) * tb.C i + load before tb P t
  unfolding active_side
  active_side_is t = refl

  pub start_side_is : (q k s : ℕ) → start_side tb P b i upto q k s ≡ b + (k * tb.C i - q) + load upto tb P s
  unfolding start_side
  start_side_is q k s = refl

  -- for k of at least 1 and a length of at most C nothing is cut off
  pub start_side_whole : (q k s : ℕ) → 1 ≤ k → q ≤ tb.C i →
      start_side tb P b i upto q k s + q ≡ b + k * tb.C i + load upto tb P s
  start_side_whole q k s h w = omega (arith, start_side_is q k s, mul-le-mul_right (tb.C i) h)

  pub active_side_mono : Mono (active_side tb P b i)
  active_side_mono x y h =
      let own = mul-le-mul_right (tb.C i) (up_mono (tb.T i) h) in
      omega (arith, active_side_is x, active_side_is y, load_mono tb P x y h)

  pub start_side_mono : (q k : ℕ) → Mono (start_side tb P b i upto q k)
  start_side_mono q k x y h = omega (arith, start_side_is q k x, start_side_is q k y, load_upto_mono tb P x y h)

  pub active_side_up : Positive tb → i < tb.n → 1 ≤ active_side tb P b i 1
  active_side_up pos l = omega (arith, active_side_is 1, run_asked tb pos i 1 l (omega arith), pos.C i l)

  -- in the first tick blocking, own run and the runs of the rows above are asked for
  pub active_side_first : Positive tb → i < tb.n → active_side tb P b i 1 ≡ b + tb.C i + load upto tb P 0
  active_side_first pos l =
      let T = pos.T i l in
      let once : before 1 (tb.T i) ≡ 1 = omega (arith, up_le 1 1 T (omega arith), up_pos 1 T (omega arith)) in
      omega (arith, active_side_is 1, ap (λ n. n * tb.C i) once, load_upto tb pos P 0)

-- over the rows of U but row i: the level's load is the same for every row of U
pub active_side_level : (tb : Table) (U : ℕ → Bool) (b i t : ℕ) → i < tb.n → U i ≡ true →
    active_side tb (without U i) b i t ≡ b + load before tb U t
active_side_level tb U b i t l e =
    omega (arith, active_side_is tb (without U i) b i t, load_without tb before U i t l e)
