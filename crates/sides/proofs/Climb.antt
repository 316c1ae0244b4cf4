-- The iteration of a right side: it climbs towards the least fixed point, and where that lies within the horizon, so
-- does every value reached.
use Prim.Native.Nat.{ℕ, ◌≤◌}
use mathlib.Core.Path.{◌≡◌}
use native.Mathlib.Omega.{arith}
use Rattle.counting.proofs.Least.{Mono, Climbing, climbing_below, climbing_step}
use Rattle.test.specs.Test.{horizon}
use Rattle.sides.specs.inside.Found.{FixedWithin}

module _ {f : ℕ → ℕ} {lo : ℕ} (mono : Mono f) where
  pub climbs : {s r : ℕ} → Climbing f lo s → r ≡ f s → Climbing f lo r
  climbs {s} c e = rw e (climbing_step f lo s mono c)

  module _ {low : ℕ} (w : FixedWithin f lo low) where
    pub reached_first : Climbing f lo low × (low ≤ horizon)
    reached_first =
        (climbing_below f lo low mono w.up w.fixed w.from w.under, omega (arith, w.under, w.within))

    pub next_within : {s : ℕ} → Climbing f lo s × (s ≤ horizon) → f s ≤ horizon
    next_within {s} x =
        let c = climbing_step f lo s mono x.0 in
        omega (arith, w.within, c.under w.point w.fixed.low w.fixed.holds)

    pub reached_next : {s r : ℕ} → Climbing f lo s × (s ≤ horizon) → r ≡ f s → Climbing f lo r × (r ≤ horizon)
    reached_next x e = (climbs x.0 e, omega (arith, next_within x))
