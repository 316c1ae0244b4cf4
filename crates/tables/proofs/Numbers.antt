-- Laws of the five numbers of a row: where each stands in the slice, and which of those at fault comes first.
use Prim.Native.Nat.{ℕ, ◌+◌, ◌*◌, ◌≤◌, ◌<◌}
use mathlib.Core.Path.{◌≡◌}
use mathlib.Core.Logic.{⊎_elim}
use native.Mathlib.Omega.{arith}
use Rattle.counting.proofs.Cases.{by_le}
use Rattle.tables.specs.Table.{Table, Within, row_width}
use Rattle.tables.specs.Checks.{StartAtFault, RegionAtFault, NumberAtFault}

module _ (tb : Table) (i : ℕ) where
  -- which number of the row is at fault
  pub by_number : {X : Type 0} {at : ℕ} →
      (at ≡ row_width * i → (Within (tb.C i) → ⊥) → X) →
      (at ≡ row_width * i + 1 → (Within (tb.D i) → ⊥) → X) →
      (at ≡ row_width * i + 2 → (Within (tb.T i) → ⊥) → X) →
      (at ≡ row_width * i + 3 → StartAtFault (tb.S i) (tb.M i) → X) →
      (at ≡ row_width * i + 4 → RegionAtFault (tb.C i) (tb.S i) (tb.M i) → X) →
      NumberAtFault tb i at → X
  by_number run deadline spacing start region =
      ⊎_elim (λ f. run f.0 f.1)
      (⊎_elim (λ f. deadline f.0 f.1)
      (⊎_elim (λ f. spacing f.0 f.1)
      (⊎_elim (λ f. start f.0 f.1) (λ f. region f.0 f.1))))

  -- it stands in the row's own part of the slice
  pub number_in : {at : ℕ} → NumberAtFault tb i at → (row_width * i ≤ at) × (at < row_width * i + row_width)
  number_in =
      by_number (λ e _. omega arith) (λ e _. omega arith) (λ e _. omega arith) (λ e _. omega arith) (λ e _. omega arith)

  -- where none of the first k numbers is at fault, none before the k-th is
  pub none_before : (k : ℕ) →
      (0 < k → (Within (tb.C i) → ⊥) → ⊥) →
      (1 < k → (Within (tb.D i) → ⊥) → ⊥) →
      (2 < k → (Within (tb.T i) → ⊥) → ⊥) →
      (3 < k → StartAtFault (tb.S i) (tb.M i) → ⊥) →
      (4 < k → RegionAtFault (tb.C i) (tb.S i) (tb.M i) → ⊥) →
      (at : ℕ) → NumberAtFault tb i at → row_width * i + k ≤ at
  none_before k run deadline spacing start region at =
      by_number
      (λ e f. by_le k 0 (λ h. omega arith) (λ h. absurd (run h f)))
      (λ e f. by_le k 1 (λ h. omega arith) (λ h. absurd (deadline h f)))
      (λ e f. by_le k 2 (λ h. omega arith) (λ h. absurd (spacing h f)))
      (λ e f. by_le k 3 (λ h. omega arith) (λ h. absurd (start h f)))
      (λ e f. by_le k 4 (λ h. omega arith) (λ h. absurd (region h f)))
