-- A plan filled one rank further by the row that takes it, from a plan that has placed nothing.
use Prim.Native.Nat.{ℕ, suc, ◌-◌, max, ◌≤◌, ◌<◌}
use mathlib.Core.Path.{◌≡◌, ap, sym, ◌∙◌}
use mathlib.Core.Bool.{true}
use mathlib.Core.Logic.{inl, inr}
use native.Mathlib.Omega.{arith}
use borrow.Author.Tests.{le-leb, leb-true}
use Rattle.counting.specs.Sum.{without, count}
use Rattle.counting.proofs.Cases.{by_eq}
use Rattle.counting.proofs.Sum.{count_all, count_without, count_ext, count_le}
use Rattle.tables.specs.Table.{Table}
use Rattle.tables.specs.Plan.{Plan, longer, blocks}
use Rattle.test.specs.Test.{longest, blocking}
use Rattle.test.proofs.Load.{Positive}
use Rattle.test.proofs.Plans.{blocking_is, longest_ge, longest_le, longest_cases}
use Rattle.choice.specs.Choice.{unplaced, TakesRank, Filled}
use Rattle.choice.proofs.Ranked.{unplaced_next}
use Rattle.choice.proofs.Filled.{Agree, agree_alike, takes_agree}

-- a plan that has placed nothing is filled to n
pub filled_none : (tb : Table) (p : Plan) → ((j : ℕ) → j < tb.n → p.rank j ≡ 0) → Filled tb p tb.n
filled_none tb p h =
    record {
      high = λ i l. omega (arith, h i l);
      once = λ i j a b c. absurd (omega (arith, h i a));
      left = count_ext (unplaced p tb.n) (λ _. true) tb.n
          (λ j l. le-leb (p.rank j) tb.n (omega (arith, h j l))) ∙ count_all tb.n;
      takes = λ y l c. absurd (omega (arith, h y l));
    }

-- p' is p with row y placed at rank s with the length q
pub record Placed (tb : Table) (p p' : Plan) (s y q : ℕ) : Type 0 where
  pub rank : p'.rank y ≡ s
  pub len : p'.len y ≡ q
  pub others : (j : ℕ) → j < tb.n → ¬ (j ≡ y) → (p'.rank j ≡ p.rank j) × (p'.len j ≡ p.len j)

-- filled one rank further, by the row that takes it
module _ (tb : Table) (pos : Positive tb) (p p' : Plan) (r y q : ℕ) (f : Filled tb p (suc r))
    (free : (j : ℕ) → j < tb.n → ¬ (p.rank j ≡ suc r))
    (t : TakesRank tb p (suc r) y q) (h : Placed tb p p' (suc r) y q) where
  -- row y had no rank greater than r + 1
  before_placed : p.rank y ≤ suc r
  before_placed = leb-true (p.rank y) (suc r) t.try

  -- any other row with a rank greater than r had it before
  higher_before : (j : ℕ) → j < tb.n → ¬ (j ≡ y) → r < p'.rank j → suc r < p.rank j
  higher_before j l e g =
      by_eq (p.rank j) (suc r) (λ z. absurd (free j l z)) (λ z. omega (arith, (h.others j l e).0))

  pub placed_agree : (s : ℕ) → suc r ≤ s → Agree tb p p' s
  placed_agree s g j l =
      by_eq j y
      (λ e. inl (omega (arith, ap p.rank e, before_placed), omega (arith, ap p'.rank e, h.rank)))
      (λ e. let o = h.others j l e in inr (sym o.0, sym o.1))

  placed_takes : (s x l : ℕ) → suc r ≤ s → TakesRank tb p s x l → TakesRank tb p' s x l
  placed_takes s x l g k = takes_agree tb p p' s x l pos (placed_agree s g) k

  pub filled_placed : Filled tb p' r
  filled_placed =
      record {
        high =
            λ i l.
            by_eq i y
            (λ e. omega (arith, ap p'.rank e, h.rank, f.left, room))
            (λ e. omega (arith, (h.others i l e).0, f.high i l));
        once = once;
        left = left;
        takes =
            λ x l g.
            by_eq x y
            (λ e. rw (e, h.rank, h.len) (placed_takes (suc r) y q (omega arith) t))
            (λ e.
            let o = h.others x l e in
            let above = higher_before x l e g in
            rw (o.0, o.1) (placed_takes (p.rank x) x (p.len x) (omega arith) (f.takes x l above)));
      }
    where
      room : suc r ≤ tb.n
      room = omega (arith, f.left, count_le (unplaced p (suc r)) tb.n)

      once : (i j : ℕ) → i < tb.n → j < tb.n → r < p'.rank i → p'.rank i ≡ p'.rank j → i ≡ j
      once i j a b c e =
          by_eq i y
          (λ x.
          by_eq j y (λ w. x ∙ sym w)
          (λ w. absurd (free j b (sym (h.others j b w).0 ∙ sym e ∙ ap p'.rank x ∙ h.rank))))
          (λ x.
          by_eq j y
          (λ w. absurd (free i a (sym (h.others i a x).0 ∙ e ∙ ap p'.rank w ∙ h.rank)))
          (λ w. f.once i j a b (higher_before i a x c) (sym (h.others i a x).0 ∙ e ∙ (h.others j b w).0)))

      left : count (unplaced p' r) tb.n ≡ r
      left =
          let u = unplaced p' (suc r) in
          let before = count_ext (unplaced p (suc r)) u tb.n
          (agree_alike tb p p' (suc r) (placed_agree (suc r) (omega arith))).rows in
          let after = count_ext (unplaced p' r) (without u y) tb.n
          (λ j l. unplaced_next p' r y j h.rank (λ e. once j y l t.row (omega arith) (e ∙ sym h.rank))) in
          let mine = count_without u y tb.n t.row (le-leb (p'.rank y) (suc r) (omega (arith, h.rank))) in
          omega (arith, f.left)

  -- the blocking of the rows placed grows to that of row y
  pub blocking_placed : blocking tb p' r ≡ max (blocking tb p (suc r)) (longer tb y q - 1)
  blocking_placed =
      let own = longest_ge tb p' r y t.row (omega (arith, h.rank)) in
      let old = longest_le tb p p' (suc r) r
      (λ j l lt.
      let o = h.others j l (λ x. omega (arith, ap p.rank x, before_placed)) in
      (omega (arith, o.0), omega (arith, o.1))) in
      omega (arith, blocking_is tb p' r, blocking_is tb p (suc r), ap (longer tb y) h.len, new)
    where
      new : longest tb p' r ≤ max (longest tb p (suc r)) (longer tb y q)
      new =
          longest_cases tb p' r
          (λ e. omega arith)
          (λ j l lt e.
          by_eq j y
          (λ x. omega (arith, ap (longer tb y) h.len, ap (blocks tb p') x))
          (λ x. omega (
            arith,
            ap (longer tb j) (h.others j l x).1,
            longest_ge tb p (suc r) j l (higher_before j l x lt),
          )))
