-- The exchange: rows peeled off one after another, each lowest in its turn, and the row that takes a rank among them.
use Prim.Native.Nat.{ℕ, zero, suc, pred, ◌+◌, ◌≤◌, ◌<◌, max}
use mathlib.Core.Path.{◌≡◌, refl, ap, sym, ◌∙◌}
use mathlib.Core.Bool.{Bool, true, ◌&&◌, not}
use native.Mathlib.Omega.{arith}
use lib.Dec.{eqb}
use Rattle.counting.specs.Sum.{without}
use Rattle.counting.proofs.Cases.{by_eq}
use Rattle.counting.proofs.Sum.{without_other, without_comm}
use Rattle.tables.specs.Table.{Table}
use Rattle.tables.specs.Plan.{cap, longer}
use Rattle.tables.proofs.Plan.{longer_run}
use Rattle.test.specs.Test.{before, load}
use Rattle.test.proofs.Load.{Positive, load_ext, load_without, run_asked}
use Rattle.choice.specs.Choice.{Fits}
use Rattle.choice.proofs.Level.{fits_compare}

-- row y of U can stand lowest in U with the length q, over rows that block with m at most
pub record Step (tb : Table) (U : ℕ → Bool) (m y q : ℕ) : Type 0 where
  pub row : y < tb.n
  pub mem : U y ≡ true
  pub low : 1 ≤ q
  pub high : q ≤ cap tb y
  pub fits : Fits tb (without U y) (pred m) y q

-- r rows can be peeled off U
abbrev pub Peels : Table → ℕ → (ℕ → Bool) → ℕ → Type 0
Peels tb zero U m = Unit {0}
Peels tb (suc r) U m = (y : ℕ) × (q : ℕ) × Step tb U m y q × Peels tb r (without U y) (max m (longer tb y q))

module _ (tb : Table) (pos : Positive tb) where
  -- a row that stands lowest goes on doing so where its level asks for no more
  step_compare : (U U' : ℕ → Bool) (m m' x q : ℕ) → Step tb U' m' x q → U x ≡ true →
      ((t : ℕ) → 1 ≤ t → pred m + load before tb (without U x) t ≤ pred m' + load before tb (without U' x) t) →
      Step tb U m x q
  step_compare U U' m m' x q s e le =
      let f = fits_compare tb pos x s.row (without U x) (without U' x) (pred m) (pred m') q s.low s.high le in
      record { row = s.row; mem = e; low = s.low; high = s.high; fits = f s.fits }

  -- the same rows below n, and no row below that blocks with more
  pub peels_compare : (r : ℕ) (U U' : ℕ → Bool) (m m' : ℕ) → ((j : ℕ) → j < tb.n → U j ≡ U' j) → m ≤ m' →
      Peels tb r U' m' → Peels tb r U m
  peels_compare zero U U' m m' same h F = tt
  peels_compare (suc r) U U' m m' same h F =
      let y = F.0 in
      let q = F.1 in
      let less : (j : ℕ) → j < tb.n → without U y j ≡ without U' y j =
      λ j l. ap (λ b. b && not (eqb j y)) (same j l) in (
        y,
        q,
        step_compare U U' m m' y q F.2 (same y F.2.row ∙ F.2.mem)
            (λ t _. omega (arith, load_ext tb before (without U y) (without U' y) less t)),
        peels_compare r (without U y) (without U' y) (max m (longer tb y q)) (max m' (longer tb y q)) less (omega arith)
            F.3,
      )

  -- a row taken out, and what the rows below block with raised by at most that row's C, and to no more than any row
  -- that stands lowest would raise it
  peels_without : (r : ℕ) (U : ℕ → Bool) (m m' y : ℕ) → y < tb.n → U y ≡ true → pred m' ≤ pred m + tb.C y →
      ((x q : ℕ) → Step tb U m x q → m' ≤ max m (longer tb x q)) → Peels tb (suc r) U m → Peels tb r (without U y) m'
  peels_without zero U m m' y l e grows short F = tt
  peels_without (suc r) U m m' y l e grows short F =
      let x = F.0 in
      let q = F.1 in
      let le = short x q F.2 in
      by_eq x y
      (λ g. rw g at (peels_compare (suc r) (without U x) (without U x) m' (max m (longer tb x q)) (λ _ _. refl) le
      F.3))
      (λ g.
      let ex = without_other U y x g in
      let ey : without U x y ≡ true = without_other U x y (λ z. g (sym z)) ∙ e in (
        x,
        q,
        step_compare (without U y) U m' m x q F.2 (ex ∙ F.2.mem)
            (λ t h.
            let out = load_without tb before (without U x) y t l ey in
            omega (arith, ap (λ Q. load before tb Q t) (without_comm U x y), run_asked tb pos y t l h)),
        rw (without_comm U x y) at
            (peels_without r (without U x) (max m (longer tb x q)) (max m' (longer tb x q)) y l ey (omega arith)
            (λ _ _ _. omega arith) F.3),
      ))

  -- a row that stands lowest, where no row that stands lowest blocks with less, may be the one that does
  pub exchange : (r : ℕ) (U : ℕ → Bool) (m y p : ℕ) → Step tb U m y p →
      ((x q : ℕ) → Step tb U m x q → longer tb y p ≤ longer tb x q) →
      Peels tb (suc r) U m → Peels tb r (without U y) (max m (longer tb y p))
  exchange r U m y p S best =
      peels_without r U m (max m (longer tb y p)) y S.row S.mem
      (omega (arith, longer_run tb y S.low S.high))
      (λ x q s. omega (arith, best x q s))
