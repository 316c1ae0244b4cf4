-- The rank and length columns of a planned table, as a slice of their own.
use Prim.Native.Nat.{ℕ, zero, suc, ◌+◌, ◌*◌, ◌/◌, ◌%◌, ◌<◌}
use mathlib.Core.Path.{◌≡◌, refl, ap}
use mathlib.Core.Bool.{cond}
use mathlib.Core.List.{List, [], ◌∷◌}
use native.Mathlib.Omega.{arith}
use lib.Dec.{eqb}
use lib.ListN.{length, get_or}
use borrow.Author.Tests.{eq-eqb, ne_eqb}
use Rattle.tables.specs.Table.{Table}
use Rattle.tables.specs.Plan.{Plan, plan_width}
use Rattle.choice.specs.Answers.{planned_of}
use Rattle.demands.specs.Demand2.{Columns}

-- f 0, .., f (m - 1)
slice : (ℕ → ℕ) → ℕ → List ℕ
slice f zero = []
slice f (suc m) = f 0 ∷ slice (λ j. f (suc j)) m

slice_length : (f : ℕ → ℕ) (m : ℕ) → length (slice f m) ≡ m
unfolding slice
slice_length f zero = refl
slice_length f (suc m) = ap suc (slice_length (λ j. f (suc j)) m)

slice_at : (f : ℕ → ℕ) (m i : ℕ) → i < m → get_or (slice f m) i 0 ≡ f i
unfolding slice
slice_at f zero i l = absurd (omega arith)
slice_at f (suc m) zero l = refl
slice_at f (suc m) (suc i) l = slice_at (λ j. f (suc j)) m i (omega arith)

-- a plan's numbers one after another, rank and length in turn
in_turn : Plan → ℕ → ℕ
in_turn p j = cond (eqb (j % 2) 0) (p.rank (j / 2)) (p.len (j / 2))

pub columns_exist : (tb : Table) (planned : List ℕ) → (ps : List ℕ) × Columns tb planned ps
unfolding in_turn
columns_exist tb planned =
    let p = planned_of planned in
    let m = plan_width * tb.n in
    let at = slice_at (in_turn p) m in (
      slice (in_turn p) m,
      record {
        whole = slice_length (in_turn p) m;
        rank =
            λ i l.
            let half : plan_width * i / 2 ≡ i = omega arith in
            rw (at (plan_width * i) (omega arith), eq-eqb (plan_width * i % 2) 0 (omega arith), half);
        len =
            λ i l.
            let half : (plan_width * i + 1) / 2 ≡ i = omega arith in
            rw (at (plan_width * i + 1) (omega arith), ne_eqb ((plan_width * i + 1) % 2) 0 (omega arith), half);
      },
    )
