-- Laws of a level: before a bound, what it asks for is what the rows of its table ask for; so each right side over it
-- is that of the test, and so is each least fixed point.
use Prim.Native.Nat.{ℕ, suc, ◌+◌, ◌-◌, ◌*◌, ◌/◌, ◌≤◌, ◌<◌}
use mathlib.Core.Path.{◌≡◌, sym, ap, ◌∙◌}
use mathlib.Core.Bool.{Bool, true}
use mathlib.Core.List.{List}
use native.Mathlib.Omega.{arith}
use native.Mathlib.Nat.{mul-le-mul_right}
use lib.ListN.{length}
use Rattle.counting.specs.Sum.{without}
use Rattle.counting.proofs.Cases.{by_le}
use Rattle.counting.proofs.Up.{div_mono}
use Rattle.counting.proofs.Least.{Mono, least_unique}
use Rattle.counting.proofs.Sum.{sum_le, sum_zero}
use Rattle.tables.specs.Table.{Table, most_rows}
use Rattle.test.specs.Test.{before, upto, load, every_row, busy_side, active_side, start_side}
use Rattle.test.proofs.Load.{Positive, load_upto}
use Rattle.test.proofs.Sides.{active_side_first, active_side_level, start_side_whole}
use Rattle.sides.specs.declared.ask.Ask.{Ask}
use Rattle.sides.specs.inside.Inverse.{scale}
use Rattle.sides.specs.inside.Asks.{row, part_of}
use Rattle.sides.specs.inside.Level.{runs_of, later, busy_of, active_of, start_of}
use Rattle.sides.proofs.Rows.{over_rows}
use Rattle.sides.specs.inside.Found.{Fixed}

-- before the bound the level asks, after the first tick, for what the rows of the table at which P passes ask for
pub record Asking (tb : Table) (P : ℕ → Bool) (bound : ℕ) (level : List Ask) : Type 0 where
  pub few : length level ≤ most_rows
  pub asks : (s : ℕ) → s < bound → load upto tb P 0 + later level s ≡ load upto tb P s

module _ (level : List Ask) where
  -- after the first tick nothing is asked for in it
  pub later_none : later level 0 ≡ 0
  unfolding later
  later_none =
      over_rows (λ a. part_of a 0) level
      ∙ sum_zero (λ p. part_of (row level p) 0) (length level)
      (λ p _.
      let none : 0 * (row level p).inverse / scale ≡ 0 = omega arith in
      omega (arith, ap (λ n. n * (row level p).run) none))

  -- what is asked for never falls, and so does no right side
  later_mono : Mono (later level)
  unfolding later
  later_mono a b h =
      let rows = sum_le (λ p. part_of (row level p) a) (λ p. part_of (row level p) b) (length level)
      (λ p _. mul-le-mul_right (row level p).run (div_mono scale (mul-le-mul_right (row level p).inverse h))) in
      omega (arith, rows, over_rows (λ x. part_of x a) level, over_rows (λ x. part_of x b) level)

  pub busy_of_mono : Mono (busy_of level)
  busy_of_mono x y h = omega (arith, later_mono (x - 1) (y - 1) (omega arith))

  pub active_of_mono : (first : ℕ) → Mono (active_of level first)
  active_of_mono first x y h = omega (arith, later_mono (x - 1) (y - 1) (omega arith))

  pub start_of_mono : (base : ℕ) → Mono (start_of level base)
  start_of_mono base x y h = omega (arith, later_mono x y h)

module _ {tb : Table} {P : ℕ → Bool} {bound : ℕ} {level : List Ask} (a : Asking tb P bound level) (pos : Positive tb)
  where
    asked_before : (t : ℕ) → 1 ≤ t → t ≤ bound → load upto tb P 0 + later level (t - 1) ≡ load before tb P t
    asked_before t low high =
        let e : suc (t - 1) ≡ t = omega arith in
        a.asks (t - 1) (omega arith) ∙ load_upto tb pos P (t - 1) ∙ ap (load before tb P) e

    -- it holds the row and those above it
    pub active_of_is : (b i t : ℕ) {first : ℕ} → first ≡ b + load upto tb P 0 → i < tb.n → P i ≡ true → 1 ≤ t →
        t ≤ bound → active_of level first t ≡ active_side tb (without P i) b i t
    active_of_is b i t f l e low high =
        omega (arith, asked_before t low high, active_side_level tb P b i t l e)

    -- it holds the rows above row i, of whose jobs k have come before
    pub start_of_is : (b i q k : ℕ) {base : ℕ} → i < tb.n → q ≤ tb.C i →
        base ≡ active_side tb P b i 1 + k * tb.C i - q → (s : ℕ) → s < bound →
        start_of level base s ≡ start_side tb P b i upto q (suc k) s
    start_of_is b i q k l most e s h =
        omega (
          arith,
          a.asks s h,
          active_side_first tb P b i pos l,
          start_side_whole tb P b i q (suc k) s (omega arith) most,
        )

-- the level holds all rows
pub busy_of_is : {tb : Table} {bound : ℕ} {level : List Ask} → Asking tb every_row bound level →
    runs_of level ≡ load upto tb every_row 0 → Positive tb → (t : ℕ) → 1 ≤ t → t ≤ bound →
    busy_of level t ≡ busy_side tb t
unfolding busy_side
busy_of_is a runs pos t low high = omega (arith, asked_before a pos t low high)

-- right sides that agree up to m have the same least fixed point there
pub fixed_same : {f g : ℕ → ℕ} {lo m t : ℕ} → ((u : ℕ) → lo ≤ u → u ≤ m → f u ≡ g u) → t ≤ m → Fixed f lo t →
    Fixed g lo t
fixed_same {f} {g} {lo} {m} {t} same h x =
    record {
      low = x.low;
      holds = x.holds ∙ same t x.low h;
      least =
          λ u l e. by_le u m
          (λ w. x.least u l (e ∙ sym (same u l w)))
          (λ w. omega arith);
    }

-- and what is found for the one is what the other has
pub fixed_found : {f g : ℕ → ℕ} {lo m t r : ℕ} → ((u : ℕ) → lo ≤ u → u ≤ m → f u ≡ g u) → t ≤ m → Fixed g lo t →
    Fixed f lo r → r ≡ t
fixed_found same h x y = least_unique y (fixed_same (λ u l w. sym (same u l w)) h x)
