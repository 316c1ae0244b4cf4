-- Where the iterations may begin: what a level asks for in the first tick passes neither its active period nor the
-- first job's finish.
use Prim.Native.Nat.{ℕ, suc, ◌+◌, ◌-◌, ◌*◌, ◌≤◌, ◌<◌}
use mathlib.Core.Path.{◌≡◌, sym}
use mathlib.Core.Bool.{Bool, true}
use mathlib.Core.List.{List}
use native.Mathlib.Omega.{arith}
use Rattle.counting.specs.Sum.{without}
use Rattle.tables.specs.Table.{Table}
use Rattle.test.specs.Test.{horizon, upto, load, active_side, Active, start_side, Start}
use Rattle.sides.specs.declared.ask.Ask.{Ask}
use Rattle.sides.specs.inside.Level.{active_of, start_of}
use Rattle.sides.specs.inside.Found.{Fixed, FixedWithin}
use Rattle.test.proofs.Load.{Positive, load_upto, load_upto_mono}
use Rattle.test.proofs.Sides.{active_side_first, active_side_level, active_side_mono, active_side_up, start_side_whole}
use Rattle.sides.proofs.Level.{Asking, active_of_is, start_of_is, fixed_same, fixed_found}

module _ (tb : Table) (P : ℕ → Bool) (b i : ℕ) (pos : Positive tb) (l : i < tb.n) where
  pub run_first : tb.C i ≤ active_side tb P b i 1
  run_first = omega (arith, active_side_first tb P b i pos l)

  -- a job with k others of its row before it ends no sooner than what is asked for in the first tick and their runs
  pub start_base : (k : ℕ) {q s : ℕ} → q ≤ tb.C i → Start tb P b i q (suc k) s →
      active_side tb P b i 1 + k * tb.C i ≤ s + q
  start_base k {q} {s} most st =
      omega (
        arith,
        st.holds,
        start_side_whole tb P b i q (suc k) s (omega arith) most,
        active_side_first tb P b i pos l,
        load_upto_mono tb P 0 s (omega arith),
      )

-- a level of row i and those above it
module _ {tb : Table} {U : ℕ → Bool} {bound : ℕ} {level : List Ask} (a : Asking tb U bound level) (pos : Positive tb)
    (b i : ℕ) {first : ℕ} (f : first ≡ b + load upto tb U 0) (l : i < tb.n) (e : U i ≡ true) where
  abbrev P : ℕ → Bool
  P = without U i

  same : (t : ℕ) → 1 ≤ t → t ≤ bound → active_of level first t ≡ active_side tb P b i t
  same t = active_of_is a pos b i t f l e

  pub active_first : first ≡ active_side tb P b i 1
  active_first = omega (arith, active_side_level tb U b i 1 l e, load_upto tb pos U 0)

  -- its active period, up to the bound and to H
  module _ {L : ℕ} (h : L ≤ bound) (g : L ≤ horizon) (x : Active tb P b i L) where
    pub active_within : FixedWithin (active_of level first) 1 first
    active_within =
        let up = active_side_up tb P b i pos l in
        record {
          up = omega (arith, active_first);
          point = L;
          fixed = fixed_same (λ t from to. sym (same t from to)) h x;
          within = g;
          from = omega (arith, active_first);
          under = omega (arith, active_first, x.holds, active_side_mono tb P b i 1 L x.low);
        }

    pub active_found : {t : ℕ} → Fixed (active_of level first) 1 t → t ≡ L
    active_found = fixed_found same h x

-- a level of the rows above row i, and the start of its job with k others before it, before the bound and up to H
module _ {tb : Table} {P : ℕ → Bool} {bound : ℕ} {level : List Ask} (a : Asking tb P bound level) (pos : Positive tb)
    (b i q k : ℕ) (l : i < tb.n) (most : q ≤ tb.C i) {base s : ℕ}
    (e : base ≡ active_side tb P b i 1 + k * tb.C i - q) (h : s < bound) (g : s ≤ horizon)
    (x : Start tb P b i q (suc k) s) where
  agrees : (u : ℕ) → 0 ≤ u → u ≤ bound - 1 → start_of level base u ≡ start_side tb P b i upto q (suc k) u
  agrees u _ w = start_of_is a pos b i q k l most e u (omega arith)

  pub start_within : {low : ℕ} → low ≤ s → FixedWithin (start_of level base) 0 low
  start_within le =
      record {
        up = omega arith;
        point = s;
        fixed = fixed_same (λ u from to. sym (agrees u from to)) (omega arith) x;
        within = g;
        from = omega arith;
        under = le;
      }

  pub start_found : {u : ℕ} → Fixed (start_of level base) 0 u → u ≡ s
  start_found = fixed_found agrees (omega arith) x
