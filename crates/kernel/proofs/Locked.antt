-- Laws of the two regions in which a job is locked.
use Prim.Native.Nat.{ℕ, ◌+◌, ◌≤◌, ◌<◌}
use mathlib.Core.Path.{◌≡◌}
use mathlib.Core.Bool.{true, false}
use native.Mathlib.Omega.{arith}
use lib.Dec.{ltb}
use borrow.Author.Tests.{lt-ltb, ltb-true}
use Rattle.counting.proofs.Cases.{by_bool, and_left, and_right, and_both, or_cases, or_left, or_right}
use Rattle.tables.specs.Table.{Table, region_end}
use Rattle.tables.specs.Plan.{Plan}
use Rattle.kernel.specs.Rule.{locked}

module _ (tb : Table) (p : Plan) (i e : ℕ) where
  pub locked_final : tb.C i < e + p.len i → locked tb p i e ≡ true
  locked_final h = or_left _ _ (lt-ltb _ _ h)

  pub locked_middle : tb.S i < e → e < region_end tb i → locked tb p i e ≡ true
  locked_middle begun on = or_right (ltb (tb.C i) (e + p.len i)) _ (and_both _ _ (lt-ltb _ _ begun) (lt-ltb _ _ on))

  pub locked_cases {ℓ} : {X : Type ℓ} → locked tb p i e ≡ true → (tb.C i < e + p.len i → X) →
      (tb.S i < e → e < region_end tb i → X) → X
  locked_cases h final middle =
      let begun = ltb (tb.S i) e in
      or_cases (ltb (tb.C i) (e + p.len i)) _ h
      (λ a. final (ltb-true _ _ a))
      (λ a. middle (ltb-true _ _ (and_left begun _ a)) (ltb-true _ _ (and_right begun _ a)))

  -- before its final region, and not inside its middle one
  pub not_locked : e + p.len i ≤ tb.C i → (tb.S i < e → region_end tb i ≤ e) → locked tb p i e ≡ false
  not_locked before over =
      by_bool (locked tb p i e)
      (λ h. absurd (locked_cases h (λ a. omega arith) (λ a b. omega (arith, over a))))
      (λ h. h)
