-- The choice always ends or stops: under a busy period within H, some plan is chosen or the choice stops at a rank.
use Prim.Native.Nat.{ℕ, zero, suc, ◌≤◌, ◌<◌}
use mathlib.Core.Path.{◌≡◌, refl, ap, ◌∙◌}
use mathlib.Core.Bool.{Bool, true, false, cond}
use mathlib.Core.Logic.{◌⊎◌, inl, inr, ⊎_elim}
use native.Mathlib.Omega.{arith}
use lib.Dec.{eqb}
use borrow.Author.Tests.{eq-eqb, ne_eqb, lt-leb}
use Rattle.counting.specs.Sum.{without, largest}
use Rattle.counting.specs.Least.{Least}
use Rattle.counting.proofs.Cases.{by_bool, by_eq, not_both}
use Rattle.counting.proofs.Least.{least_unique}
use Rattle.tables.specs.Table.{Table, Sound}
use Rattle.tables.specs.Plan.{Plan, WellFormed, cap, longer}
use Rattle.tables.proofs.Plan.{longer_run}
use Rattle.test.specs.Test.{BusyWithin, Active, blocking, Passes}
use Rattle.test.proofs.Load.{Positive, sound_positive}
use Rattle.test.proofs.Sides.{active_side_level}
use Rattle.test.proofs.Plans.{level_active, room}
use Rattle.choice.specs.Choice.{unplaced, Shortest, Takes, NoneFits, Filled, Chosen, Stopped}
use Rattle.choice.proofs.Level.{first_of, shortest_or_not, least_fit}
use Rattle.counting.proofs.Sum.{largest_ge, count_le}
use Rattle.choice.proofs.Placed.{Placed, filled_none, filled_placed}
use Rattle.choice.proofs.Complete.{chosen_well_formed, chosen_passes, stopped_no_plan}

-- one level, where the active period of each of its rows is known
module _ (tb : Table) (pos : Positive tb) (U : ℕ → Bool) (b : ℕ)
    (periods : (z : ℕ) → z < tb.n → U z ≡ true → (L : ℕ) × Active tb (without U z) b z L) where
  -- the row z of U has a shortest passing length, and blocks with m at it
  abbrev Blocking : ℕ → ℕ → Type 0
  Blocking m z = (z < tb.n) × (U z ≡ true) × (q : ℕ) × Shortest tb U b z q × (longer tb z q ≡ m)

  blocking_or_not : (m z : ℕ) → z < tb.n → Blocking m z ⊎ ¬ Blocking m z
  blocking_or_not m z l =
      by_bool (U z)
      (λ u.
      let a = periods z l u in
      ⊎_elim
      (λ s.
      by_eq (longer tb z s.0) m
      (λ e. inl (l, u, s.0, s.1, e))
      (λ e. inr (λ x. e (ap (longer tb z) (least_unique s.1 x.3) ∙ x.4))))
      (λ none. inr (λ x. none x.2 x.3.low x.3.holds.0 x.3.holds.1))
      (shortest_or_not tb pos z l (without U z) b a.0 a.1))
      (λ u. inr (λ x. not_both (U z) u x.1))

  -- the first row that blocks with m
  abbrev FirstRow : ℕ → Type 0
  FirstRow m = (y : ℕ) × Least (Blocking m) 0 y

  first_row : (m : ℕ) → FirstRow m ⊎ ((z : ℕ) → ¬ Blocking m z)
  first_row m = ⊎_elim inl (λ none. inr (λ z x. none z x.0 x)) (first_of tb.n (blocking_or_not m))

  some_row : (m z : ℕ) → Blocking m z → FirstRow m
  some_row m z x = ⊎_elim (λ f. f) (λ none. absurd (none z x)) (first_row m)

  -- one of the rows of U takes the rank, the first of those that block with the least; or none fits
  level_found : ((y : ℕ) × (q : ℕ) × Takes tb U b U y q) ⊎ NoneFits tb U b U
  level_found =
      ⊎_elim
      (λ r.
      let first = r.1.holds.1 in
      let w = first.holds in
      inl (
        r.1.holds.0,
        w.2,
        record {
          row = w.0;
          try = w.1;
          shortest = w.3;
          least = λ z l g e s.
              omega (
                arith,
                w.4,
                r.1.least (longer tb z l) (omega arith)
                    (some_row (longer tb z l) z (g, e, l, s, refl)),
              );
          earliest = λ z l h e s same.
              omega (arith, first.least z (omega arith) (omega (arith, w.0), e, l, s, same ∙ w.4));
        },
      ))
      (λ none. inr (λ z q l e low high f.
      let s = least_fit tb pos z l (without U z) b q low high f in
      none (longer tb z s.0)
      (omega (arith, longer_run tb z s.1.low s.1.holds.0, largest_ge tb.C tb.n z l))
      (some_row _ z (l, e, s.0, s.1, refl))))
      (first_of (suc (largest tb.C tb.n)) (λ m _.
      ⊎_elim inl (λ none. inr (λ x. none x.0 x.1.holds)) (first_row m)))

-- row y of a plan placed at rank s with the length q
place : Plan → ℕ → ℕ → ℕ → Plan
place p s y q = record { rank = λ j. cond (eqb j y) s (p.rank j); len = λ j. cond (eqb j y) q (p.len j) }

place_is : (tb : Table) (p : Plan) (s y q : ℕ) → Placed tb p (place p s y q) s y q
unfolding place
place_is tb p s y q =
    record {
      rank = rw (eq-eqb y y refl);
      len = rw (eq-eqb y y refl);
      others = λ j _ ne. let miss = ne_eqb j y ne in (rw miss, rw miss);
    }

module _ (tb : Table) (sound : Sound tb) (w : BusyWithin tb) where
  pos : Positive tb
  pos = sound_positive tb sound

  -- the rows that are not placed have no rank yet
  abbrev Open : Plan → ℕ → Type 0
  Open p r = (j : ℕ) → j < tb.n → (p.rank j ≡ 0) ⊎ (r < p.rank j)

  fill_from : (r : ℕ) (p : Plan) → Filled tb p r → Open p r → ((p : Plan) × Chosen tb p) ⊎ Stopped tb
  fill_from zero p f free = inl (p, f)
  fill_from (suc r) p f free =
      let s = suc r in
      let U = unplaced p s in
      let b = blocking tb p s in
      let out : (j : ℕ) → j < tb.n → s < p.rank j → (U j ≡ false) × (1 ≤ p.len j) × (p.len j ≤ cap tb j) =
      λ j g lt.
      let placed = (f.takes j g lt).shortest in
      (lt-leb (p.rank j) s lt, placed.low, placed.holds.0) in
      let periods : (z : ℕ) → z < tb.n → U z ≡ true → (L : ℕ) × Active tb (without U z) b z L =
      λ z l e.
      let a = level_active tb (without U z) b z pos l w
      (λ t h. omega (arith, active_side_level tb U b z t l e, room tb p s U pos out t h)) in
      (a.0, a.1) in
      ⊎_elim
      (λ t.
      let y = t.0 in
      let h = place_is tb p s y t.1 in
      let none : (j : ℕ) → j < tb.n → ¬ (p.rank j ≡ s) =
      λ j l e. ⊎_elim (λ x. omega arith) (λ x. omega arith) (free j l) in
      fill_from r (place p s y t.1) (filled_placed tb pos p (place p s y t.1) r y t.1 f none t.2 h)
      (λ j l.
      by_eq j y
      (λ e. inr (rw e (omega (arith, h.rank))))
      (λ e. let o = (h.others j l e).0 in ⊎_elim (λ x. inl (o ∙ x)) (λ x. inr (omega arith)) (free j l))))
      (λ n.
      let high : s ≤ tb.n = omega (arith, f.left, count_le U tb.n) in
      inr (record { plan = p; rank = s; low = omega arith; high = high; filled = f; none = n }))
      (level_found tb pos U b periods)

  pub chosen_or_stopped : ((p : Plan) × Chosen tb p) ⊎ Stopped tb
  chosen_or_stopped =
      let p : Plan = record { rank = λ _. 0; len = λ _. 0 } in
      fill_from tb.n p (filled_none tb p (λ _ _. refl)) (λ _ _. inl refl)

  -- Complete: the choice stops exactly if no well-formed plan passes
  pub complete : (Stopped tb → (p : Plan) → WellFormed tb p → Passes tb p → ⊥)
      × (((p : Plan) → WellFormed tb p → Passes tb p → ⊥) → Stopped tb)
  complete = (
    stopped_no_plan tb pos,
    λ none.
        ⊎_elim
        (λ c. absurd (none c.0 (chosen_well_formed tb pos c.0 c.1) (chosen_passes tb pos c.0 c.1)))
        (λ s. s)
        chosen_or_stopped,
  )
