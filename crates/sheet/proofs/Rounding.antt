-- Rounding to whole ticks, proved: neither a deadline nor a spacing grows, and a region is covered.
use Prim.Native.Nat.{ℕ, zero, suc, ◌+◌, ◌*◌, ◌-◌, ◌/◌, ◌≤◌, ◌<◌}
use mathlib.Core.Path.{◌≡◌, sym, ap, ◌∙◌, subst}
use mathlib.Core.List.{List}
use native.Mathlib.Omega.{arith}
use native.Mathlib.Nat.{suc-mul, div-mul-le_self, lt-div-mul-add, div-lt_iff_lt-mul}
use lib.ListN.{get_or}
use Rattle.counting.specs.Up.{up}
use Rattle.counting.proofs.Cases.{by_le}
use Rattle.counting.proofs.Up.{le_up, lt_up, up_le}
use Rattle.sheet.specs.Sheet.{start_ticks, length_ticks}
use Rattle.sheet.specs.Rounding.{RoundedUp, RoundedDown, NeitherGrows, RegionCovered}

-- the least number of ticks that are not below the time is less than a tick above it
fewest : (tick time m : ℕ) → 1 ≤ tick → ((k : ℕ) → time ≤ k * tick → m ≤ k) → m * tick < time + tick
fewest tick time zero low least = omega arith
fewest tick time (suc m) low least =
    by_le time (m * tick)
    (λ h. absurd (omega (arith, least m h)))
    (λ h. omega (arith, suc-mul m tick))

rounded_up : (tick time : ℕ) → 1 ≤ tick → RoundedUp tick time (up time tick)
rounded_up tick time low =
    record {
      not_below = le_up time low;
      fewest = fewest tick time (up time tick) low (λ k. up_le time k low);
    }

rounded_down : (tick time : ℕ) → 1 ≤ tick → RoundedDown tick time (time / tick)
rounded_down tick time low =
    record {
      not_above = div-mul-le_self time tick;
      most = omega (arith, suc-mul (time / tick) tick, lt-div-mul-add {a = time} low);
      none = (
        λ e. omega (arith, ap (λ (q : ℕ). q * tick) e, lt-div-mul-add {a = time} low),
        λ h. let q : time / tick < 1 = (div-lt_iff_lt-mul low).1 (omega arith) in omega arith,
      );
    }

-- the numbers of a row, one by one
at : {xs ys : List ℕ} → xs ≡ ys → (i : ℕ) → get_or xs i 0 ≡ get_or ys i 0
at e i = ap (λ (l : List ℕ). get_or l i 0) e

pub neither_grows : NeitherGrows
neither_grows tick t c d s region low e = (
  subst (RoundedUp tick t.C) (at e 0) (rounded_up tick t.C low),
  subst (RoundedDown tick t.D) (at e 1) (rounded_down tick t.D low),
  subst (RoundedDown tick t.T) (at e 2) (rounded_down tick t.T low),
)

-- from the start rounded down to the end rounded up there is some tick
ends_later : (tick x y : ℕ) → 1 ≤ tick → 1 ≤ y → x / tick < up (x + y) tick
ends_later tick x y low some = lt_up (x + y) (x / tick) low (omega (arith, div-mul-le_self x tick))

pub region_covered : RegionCovered
region_covered tick t r c d s start region low some e row =
    let S : r.start / tick ≡ start = ap (start_ticks tick) (sym e) ∙ at row 3 in
    let M : up (r.start + r.length) tick - r.start / tick ≡ region = ap (length_ticks tick) (sym e) ∙ at row 4 in
    let l = ends_later tick r.start r.length low some in
    let z : start + region ≡ up (r.start + r.length) tick = omega arith in (
      subst (RoundedDown tick r.start) S (rounded_down tick r.start low),
      rw z (rounded_up tick (r.start + r.length) low),
      omega arith,
    )
