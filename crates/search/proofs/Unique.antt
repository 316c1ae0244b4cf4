-- Any two fillings that the promise of `fill` allows are equal.
use Prim.Native.Nat.{ℕ, ◌+◌, ◌*◌, ◌≤◌}
use mathlib.Core.Path.{◌≡◌, sym, ap, ◌∙◌}
use mathlib.Core.List.{List}
use native.Mathlib.Omega.{arith}
use lib.ListN.{get_or}
use Rattle.std.specs.Prelude.{Result, Ok, Err}
use Rattle.counting.proofs.Cases.{by_le}
use Rattle.tables.specs.Table.{Table}
use Rattle.tables.specs.Plan.{plan_of, plan_width}
use Rattle.test.proofs.Load.{Positive}
use Rattle.search.proofs.Pairs.{pairs_same}
use Rattle.responses.proofs.Unique.{responses_unique}
use Rattle.choice.proofs.Filled.{chosen_unique, chosen_not_stopped, stopped_unique}
use Rattle.search.specs.inside.Ended.{FilledAll, Ended}
use Rattle.search.specs.declared.Filled.{Filled}

filled_same : {p o t u : List ℕ} → p ≡ o → t ≡ u →
    ◌≡◌ {A = Filled} (record { plan = p; times = t }) (record { plan = o; times = u })
filled_same p t = rw (p, t)

module _ (tb : Table) (pos : Positive tb) where
  same_plan : (f g : Filled) → FilledAll tb f → FilledAll tb g → f.plan ≡ g.plan
  same_plan f g x y =
      let one = chosen_unique tb (plan_of f.plan) (plan_of g.plan) pos x.chosen y.chosen in
      let none : (k : ℕ) → plan_width * tb.n ≤ k → get_or f.plan k 0 ≡ get_or g.plan k 0 =
      λ k h. x.past k h ∙ sym (y.past k h) in
      pairs_same f.plan g.plan (x.whole ∙ sym y.whole)
      (λ i. by_le tb.n i (λ h. none (plan_width * i) (omega arith)) (λ h. (one i h).0))
      (λ i. by_le tb.n i (λ h. none (plan_width * i + 1) (omega arith)) (λ h. (one i h).1))

  pub ended_unique : (f g : Result Filled ℕ) → Ended tb f → Ended tb g → f ≡ g
  ended_unique (Ok f) (Ok g) x y =
      let e = same_plan f g x y in
      ap Ok
      (filled_same e
      (responses_unique tb (plan_of g.plan) f.times g.times (rw e at x.responses) y.responses))
  ended_unique (Ok f) (Err _) x y = absurd (chosen_not_stopped tb (plan_of f.plan) pos x.chosen y.stop)
  ended_unique (Err _) (Ok g) x y = absurd (chosen_not_stopped tb (plan_of g.plan) pos y.chosen x.stop)
  ended_unique (Err _) (Err _) x y = ap Err (x.said ∙ stopped_unique tb pos x.stop y.stop ∙ sym y.said)
