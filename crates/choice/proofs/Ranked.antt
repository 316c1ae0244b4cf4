-- Laws of ranks: where the ranks greater than r are held once each and r rows are left, every such rank has its row.
use Prim.Native.Nat.{ℕ, zero, suc, ◌+◌, ◌-◌, ◌≤◌, ◌<◌}
use mathlib.Core.Path.{◌≡◌, ap, sym, ◌∙◌}
use mathlib.Core.Bool.{true}
use native.Mathlib.Omega.{arith}
use lib.Dec.{eqb}
use borrow.Author.Tests.{eqb-true, eq-eqb, le-leb, lt-leb}
use Rattle.counting.specs.Sum.{without, count}
use Rattle.counting.proofs.Cases.{by_le, not_both}
use Rattle.counting.proofs.Search.{by_any}
use Rattle.counting.proofs.Sum.{is_without, count_without, count_all, count_ext, count_none}
use Rattle.tables.specs.Table.{Table}
use Rattle.tables.specs.Plan.{Plan, WellFormed}
use Rattle.choice.specs.Choice.{unplaced}

-- the ranks greater than r are at most n and held once each, and r rows are not placed
pub record Ranked (tb : Table) (p : Plan) (r : ℕ) : Type 0 where
  pub high : (i : ℕ) → i < tb.n → p.rank i ≤ tb.n
  pub once : (i j : ℕ) → i < tb.n → j < tb.n → r < p.rank i → p.rank i ≡ p.rank j → i ≡ j
  pub left : count (unplaced p r) tb.n ≡ r

-- the row of a rank, or there is none
pub holder {ℓ} : {X : Type ℓ} (p : Plan) (n s : ℕ) → ((y : ℕ) → y < n → p.rank y ≡ s → X) →
    (((j : ℕ) → j < n → ¬ (p.rank j ≡ s)) → X) → X
holder p n s some none =
    by_any (λ j. eqb (p.rank j) s) n
    (λ no. none (λ j l h. not_both (eqb (p.rank j) s) (no j l) (eq-eqb (p.rank j) s h)))
    (λ y l e. some y l (eqb-true (p.rank y) s e))

-- to fill rank s + 1 changes nothing for a row of another rank
unplaced_other : (p : Plan) (s j : ℕ) → ¬ (p.rank j ≡ suc s) → unplaced p s j ≡ unplaced p (suc s) j
unplaced_other p s j ne =
    let a = p.rank j in
    by_le a s
    (λ h. le-leb a s h ∙ sym (le-leb a (suc s) (omega arith)))
    (λ h. lt-leb a s h ∙ sym (lt-leb a (suc s) (omega arith)))

-- the rows not placed once rank s + 1 is: those before, without its row
pub unplaced_next : (p : Plan) (s y j : ℕ) → p.rank y ≡ suc s → (p.rank j ≡ suc s → j ≡ y) →
    unplaced p s j ≡ without (unplaced p (suc s)) y j
unplaced_next p s y j e once =
    is_without (unplaced p (suc s)) y j _
    (λ q. lt-leb (p.rank j) s (omega (arith, ap p.rank q)))
    (λ q. unplaced_other p s j (λ x. q (once x)))

module _ (tb : Table) (p : Plan) (r : ℕ) (k : Ranked tb p r) where
  -- how many rows are not placed rises by one where the rank is held, and by none where it is not
  count_held : (s y : ℕ) → r ≤ s → y < tb.n → p.rank y ≡ suc s →
      count (unplaced p s) tb.n + 1 ≡ count (unplaced p (suc s)) tb.n
  count_held s y h l e =
      let next = count_ext (unplaced p s) (without (unplaced p (suc s)) y) tb.n
      (λ j g. unplaced_next p s y j e (λ x. k.once j y g l (omega arith) (x ∙ sym e))) in
      omega (arith, count_without (unplaced p (suc s)) y tb.n l (le-leb (p.rank y) (suc s) (omega arith)))

  count_bare : (s : ℕ) → ((j : ℕ) → j < tb.n → ¬ (p.rank j ≡ suc s)) →
      count (unplaced p s) tb.n ≡ count (unplaced p (suc s)) tb.n
  count_bare s none = count_ext (unplaced p s) (unplaced p (suc s)) tb.n (λ j l. unplaced_other p s j (none j l))

  count_rises : (s : ℕ) → r ≤ s → count (unplaced p (suc s)) tb.n ≤ count (unplaced p s) tb.n + 1
  count_rises s h =
      holder p tb.n (suc s) (λ y l e. omega (arith, count_held s y h l e)) (λ none. omega (arith, count_bare s none))

  count_most : (d s : ℕ) → r + d ≡ s → count (unplaced p s) tb.n ≤ s
  count_most zero s e = let q : s ≡ r = omega arith in rw q (omega (arith, k.left))
  count_most (suc d) s e =
      let q : s ≡ suc (r + d) = omega arith in
      rw q (omega (arith, count_most d (r + d) (omega arith), count_rises (r + d) (omega arith)))

  count_least : (e s : ℕ) → r ≤ s → s + e ≡ tb.n → s ≤ count (unplaced p s) tb.n
  count_least zero s h q =
      let all = count_ext (unplaced p s) (λ _. true) tb.n
      (λ j l. le-leb (p.rank j) s (omega (arith, k.high j l))) in
      omega (arith, count_all tb.n)
  count_least (suc e) s h q = omega (arith, count_least e (suc s) (omega arith) (omega arith), count_rises s h)

  -- while rank s is being filled, s rows are not placed
  pub ranked_left : (s : ℕ) → r ≤ s → s ≤ tb.n → count (unplaced p s) tb.n ≡ s
  ranked_left s h g =
      omega (arith, count_least (tb.n - s) s h (omega arith), count_most (s - r) s (omega arith))

  -- each rank greater than r has its row
  pub held : (s : ℕ) → r ≤ s → suc s ≤ tb.n → (y : ℕ) × (y < tb.n) × (p.rank y ≡ suc s)
  held s h g =
      holder p tb.n (suc s)
      (λ y l e. (y, l, e))
      (λ none.
      let here = ranked_left s h (omega arith) in
      absurd (omega (arith, count_bare s none, ranked_left (suc s) (omega arith) g)))

-- the ranks of a well-formed plan
pub ranked_well : (tb : Table) (p : Plan) → WellFormed tb p → Ranked tb p 0
ranked_well tb p wf =
    record {
      high = wf.rank_high;
      once = λ i j a b _. wf.once i j a b;
      left = count_none (unplaced p 0) tb.n (λ j l. lt-leb (p.rank j) 0 (wf.rank_low j l));
    }
