-- Laws of plans filled from n down to a rank: two of them agree on the rows placed, and choice and stop exclude each
-- other.
use Prim.Native.Nat.{ℕ, zero, suc, ◌+◌, ◌-◌, ◌≤◌, ◌<◌}
use mathlib.Core.Path.{◌≡◌, ap, sym, ◌∙◌}
use mathlib.Core.Logic.{◌⊎◌, inl, inr, ⊎_elim}
use native.Mathlib.Omega.{arith}
use lib.Dec.{leb}
use borrow.Author.Tests.{le-leb, leb-false}
use Rattle.counting.proofs.Cases.{by_le, by_eq}
use Rattle.counting.proofs.Sum.{count_zero, count_ext}
use Rattle.tables.specs.Table.{Table}
use Rattle.tables.specs.Plan.{Plan}
use Rattle.test.specs.Test.{longest, blocking}
use Rattle.test.proofs.Load.{Positive}
use Rattle.test.proofs.Plans.{blocking_is, longest_le}
use Rattle.choice.specs.Choice.{unplaced, TakesRank, NoneFitsRank, Filled, Chosen, Stopped}
use Rattle.choice.proofs.Level.{Alike, fits_alike, takes_alike, takes_unique}
use Rattle.choice.proofs.Ranked.{Ranked, ranked_left, held}

pub filled_ranked : {tb : Table} {p : Plan} {r : ℕ} → Filled tb p r → Ranked tb p r
filled_ranked f = record { high = f.high; once = f.once; left = f.left }

-- a plan filled to a rank is filled to every later one
pub filled_more : {tb : Table} {p : Plan} {r : ℕ} (s : ℕ) → Filled tb p r → r ≤ s → s ≤ tb.n → Filled tb p s
filled_more {tb} {p} {r} s f h g =
    record {
      high = f.high;
      once = λ i j a b c. f.once i j a b (omega arith);
      left = ranked_left tb p r (filled_ranked f) s h g;
      takes = λ y l c. f.takes y l (omega arith);
    }

-- two plans place the same rows with the same lengths at the ranks greater than s
abbrev pub Agree : Table → Plan → Plan → ℕ → Type 0
Agree tb p p' s =
    (j : ℕ) → j < tb.n → ((p.rank j ≤ s) × (p'.rank j ≤ s)) ⊎ ((p.rank j ≡ p'.rank j) × (p.len j ≡ p'.len j))

pub agree_sym : (tb : Table) (p p' : Plan) (s : ℕ) → Agree tb p p' s → Agree tb p' p s
agree_sym tb p p' s a j l = ⊎_elim (λ x. inl (x.1, x.0)) (λ x. inr (sym x.0, sym x.1)) (a j l)

longest_agree : (tb : Table) (p p' : Plan) (s : ℕ) → Agree tb p p' s → longest tb p s ≤ longest tb p' s
longest_agree tb p p' s a =
    longest_le tb p p' s s
    (λ j l h.
    ⊎_elim (λ x. absurd (omega (arith, x.0))) (λ x. (omega (arith, x.0), omega (arith, x.1))) (a j l))

-- then their levels are alike
pub agree_alike : (tb : Table) (p p' : Plan) (s : ℕ) → Agree tb p p' s →
    Alike tb (unplaced p s) (unplaced p' s) (blocking tb p s) (blocking tb p' s)
agree_alike tb p p' s a =
    let up = longest_agree tb p p' s a in
    let down = longest_agree tb p' p s (agree_sym tb p p' s a) in
    record {
      rows =
          λ j l.
          ⊎_elim
          (λ x. le-leb (p.rank j) s x.0 ∙ sym (le-leb (p'.rank j) s x.1))
          (λ x. ap (λ r. leb r s) x.0)
          (a j l);
      blocking = omega (arith, blocking_is tb p s, blocking_is tb p' s);
    }

-- so the same row takes the rank s
pub takes_agree : (tb : Table) (p p' : Plan) (s y q : ℕ) → Positive tb → Agree tb p p' s → TakesRank tb p s y q →
    TakesRank tb p' s y q
takes_agree tb p p' s y q pos a t =
    takes_alike tb (unplaced p s) (unplaced p' s) (blocking tb p s) (blocking tb p' s) y q pos
    (agree_alike tb p p' s a) t

-- the row that holds a rank takes it
pub filled_takes : {tb : Table} {p : Plan} {r : ℕ} (s : ℕ) → Filled tb p r → r ≤ s → suc s ≤ tb.n →
    (y : ℕ) × (y < tb.n) × (p.rank y ≡ suc s) × TakesRank tb p (suc s) y (p.len y)
filled_takes {tb} {p} {r} s f h up =
    let k = held tb p r (filled_ranked f) s h up in
    (k.0, k.1, k.2, rw k.2 at (f.takes k.0 k.1 (omega (arith, k.2))))

-- "Ranks are filled from n down": whatever plans are filled to rank r, they agree on the rows placed
module _ (tb : Table) (pos : Positive tb) (p p' : Plan) where
  agree_from : (e r : ℕ) → r + e ≡ tb.n → Filled tb p r → Filled tb p' r → Agree tb p p' r
  agree_from zero r q f f' j l = inl (omega (arith, f.high j l), omega (arith, f'.high j l))
  agree_from (suc e) r q f f' j l =
      let s = suc r in
      let up : s ≤ tb.n = omega arith in
      let a = agree_from e s (omega arith) (filled_more s f (omega arith) up) (filled_more s f' (omega arith) up) in
      let h = filled_takes r f (omega arith) up in
      let h' = filled_takes r f' (omega arith) up in
      let y = h.0 in
      let y' = h'.0 in
      let u = takes_unique tb (unplaced p' s) (blocking tb p' s) (unplaced p' s) y (p.len y) y' (p'.len y')
      (takes_agree tb p p' s y (p.len y) pos a h.3) h'.3 in
      by_eq j y
      (λ x. inr (
        ap p.rank x ∙ h.2 ∙ sym (ap p'.rank (x ∙ u.0) ∙ h'.2),
        ap p.len x ∙ u.1 ∙ sym (ap p'.len (x ∙ u.0)),
      ))
      (λ x.
      ⊎_elim
      (λ w. inl (
        by_eq (p.rank j) s (λ v. absurd (x (f.once j y l h.1 (omega arith) (v ∙ sym h.2))))
            (λ v. omega (arith, w.0)),
        by_eq (p'.rank j) s
            (λ v. absurd (x (f'.once j y' l h'.1 (omega arith) (v ∙ sym h'.2) ∙ sym u.0)))
            (λ v. omega (arith, w.1)),
      ))
      inr
      (a j l))

  pub filled_agree : (r : ℕ) → r ≤ tb.n → Filled tb p r → Filled tb p' r → Agree tb p p' r
  filled_agree r h = agree_from (tb.n - r) r (omega arith)

-- the rows of a plan that is filled to 0 all have a rank
pub chosen_low : (tb : Table) (p : Plan) → Chosen tb p → (j : ℕ) → j < tb.n → 1 ≤ p.rank j
chosen_low tb p f j l = omega (arith, leb-false (p.rank j) 0 (count_zero (unplaced p 0) tb.n f.left j l))

-- two chosen plans agree on every row
pub chosen_unique : (tb : Table) (p p' : Plan) → Positive tb → Chosen tb p → Chosen tb p' →
    (j : ℕ) → j < tb.n → (p.rank j ≡ p'.rank j) × (p.len j ≡ p'.len j)
chosen_unique tb p p' pos f f' j l =
    ⊎_elim
    (λ x. absurd (omega (arith, x.0, chosen_low tb p f j l)))
    (λ x. x)
    (filled_agree tb pos p p' 0 (omega arith) f f' j l)

-- where no row fits at a rank, no plan is filled past it
pub none_past : (tb : Table) (p p' : Plan) (r s : ℕ) → Positive tb → s ≤ tb.n → Filled tb p s → NoneFitsRank tb p s →
    Filled tb p' r → ¬ (r < s)
none_past tb p p' r zero pos h f none f' lt = omega arith
none_past tb p p' r (suc s) pos up f none f' lt =
    let k = suc s in
    let h = filled_takes s f' (omega arith) up in
    let y = h.0 in
    let t = h.3 in
    let a = agree_alike tb p' p k (filled_agree tb pos p' p k up (filled_more k f' (omega arith) up) f) in
    none y (p'.len y) h.1 (sym (a.rows y h.1) ∙ t.try) t.shortest.low t.shortest.holds.0
    (fits_alike tb pos (unplaced p' k) (unplaced p k) (blocking tb p' k) (blocking tb p k) a y (p'.len y) h.1
    t.shortest.low t.shortest.holds.0 t.shortest.holds.1)

-- the choice does not both end and stop
pub chosen_not_stopped : (tb : Table) (p : Plan) → Positive tb → Chosen tb p → Stopped tb → ⊥
chosen_not_stopped tb p pos f s =
    none_past tb s.plan p 0 s.rank pos s.high s.filled s.none f s.low

-- it stops at one rank only
pub stopped_unique : (tb : Table) → Positive tb → (s s' : Stopped tb) → s.rank ≡ s'.rank
stopped_unique tb pos s s' =
    let a = none_past tb s.plan s'.plan s'.rank s.rank pos s.high s.filled s.none s'.filled in
    let b = none_past tb s'.plan s.plan s.rank s'.rank pos s'.high s'.filled s'.none s.filled in
    by_le s.rank s'.rank (λ h. by_le s'.rank s.rank (λ g. omega arith) (λ g. absurd (b g)))
    (λ h. absurd (a h))

-- two plans have the same ranks and lengths
abbrev pub Same : Table → Plan → Plan → Type 0
Same tb p p' = (j : ℕ) → j < tb.n → (p.rank j ≡ p'.rank j) × (p.len j ≡ p'.len j)

pub same_agree : (tb : Table) (p p' : Plan) (s : ℕ) → Same tb p p' → Agree tb p p' s
same_agree tb p p' s same j l = inr (same j l)

pub filled_same : (tb : Table) (p p' : Plan) (r : ℕ) → Positive tb → Same tb p p' → Filled tb p r → Filled tb p' r
filled_same tb p p' r pos same f =
    record {
      high = λ i l. omega (arith, (same i l).0, f.high i l);
      once = λ i j a b h e. f.once i j a b (omega (arith, (same i a).0)) ((same i a).0 ∙ e ∙ sym (same j b).0);
      left = count_ext (unplaced p' r) (unplaced p r) tb.n (λ j l. ap (λ x. leb x r) (sym (same j l).0)) ∙ f.left;
      takes =
          λ y l h.
          let s = p.rank y in
          let t = f.takes y l (omega (arith, (same y l).0)) in
          rw ((same y l).0, (same y l).1) at (takes_agree tb p p' s y (p.len y) pos (same_agree tb p p' s same) t);
    }
