-- Demand 2 over plans: a chosen plan is well formed and passes, it is shortest at each rank, and the choice stops only
-- where no plan passes.
use Prim.Native.Nat.{ℕ, zero, suc, pred, ◌+◌, ◌-◌, ◌≤◌, ◌<◌, max}
use mathlib.Core.Path.{◌≡◌, ap, sym, ◌∙◌, subst}
use mathlib.Core.Bool.{Bool}
use native.Mathlib.Omega.{arith}
use borrow.Author.Tests.{le-leb, lt-leb, lt-ltb, le-ltb}
use Rattle.counting.specs.Sum.{without}
use Rattle.counting.proofs.Cases.{by_le, by_eq}
use Rattle.counting.proofs.Sum.{is_without}
use Rattle.tables.specs.Table.{Table}
use Rattle.tables.specs.Plan.{Plan, WellFormed, cap, longer, blocks}
use Rattle.test.specs.Test.{before, load, Response, above, longest, blocking, RowPasses, Passes}
use Rattle.test.proofs.Load.{Positive, load_ext}
use Rattle.test.proofs.Plans.{blocking_is, longest_ge, longest_le, longest_cases}
use Rattle.choice.specs.Choice.{unplaced, Fits, Filled, Chosen, Stopped}
use Rattle.choice.proofs.Level.{fits_compare, takes_least}
use Rattle.choice.proofs.Ranked.{unplaced_next, ranked_well, held}
use Rattle.choice.proofs.Filled.{filled_takes, filled_more, chosen_low}
use Rattle.choice.proofs.Exchange.{Peels, peels_compare, exchange}

-- where a rank is held once, the rows above its row are the other rows not placed
pub above_others : (p : Plan) (y j : ℕ) → (p.rank j ≡ p.rank y → j ≡ y) →
    above p (p.rank y) j ≡ without (unplaced p (p.rank y)) y j
above_others p y j once =
    let a = p.rank j in
    let r = p.rank y in
    is_without (unplaced p r) y j _
    (λ e. le-ltb a r (omega (arith, ap p.rank e)))
    (λ e.
    by_le r a
    (λ h. by_eq a r (λ x. absurd (e (once x))) (λ x. le-ltb a r h ∙ sym (lt-leb a r (omega arith))))
    (λ h. lt-ltb a r h ∙ sym (le-leb a r (omega arith))))

module _ (tb : Table) (pos : Positive tb) (p : Plan) where
  module _ (y : ℕ) (l : y < tb.n) (low : 1 ≤ p.len y) (high : p.len y ≤ cap tb y)
      (once : (j : ℕ) → j < tb.n → p.rank j ≡ p.rank y → j ≡ y) where
    abbrev r : ℕ
    r = p.rank y

    abbrev B : ℕ
    B = blocking tb p r

    abbrev others : ℕ → Bool
    others = without (unplaced p r) y

    same_load : (t : ℕ) → load before tb (above p r) t ≡ load before tb others t
    same_load = load_ext tb before (above p r) others (λ j g. above_others p y j (once j g))

    -- a row passes exactly if its length fits at its rank
    passes_fits : RowPasses tb p y → Fits tb others B y (p.len y)
    passes_fits x =
        fits_compare tb pos y l others (above p r) B B (p.len y) low high (λ t _. omega (arith, same_load t))
        (record { R = x.R; response = x.response; within = x.within })

    fits_passes : Fits tb others B y (p.len y) → RowPasses tb p y
    fits_passes x =
        let f = fits_compare tb pos y l (above p r) others B B (p.len y) low high
        (λ t _. omega (arith, same_load t)) x in
        record { R = f.R; response = f.response; within = f.within }

  -- a chosen plan is well formed, and passes
  module _ (f : Chosen tb p) where
    pub chosen_well_formed : WellFormed tb p
    chosen_well_formed =
        record {
          rank_low = chosen_low tb p f;
          rank_high = f.high;
          once = λ i j a b. f.once i j a b (chosen_low tb p f i a);
          len_low = λ i l. (f.takes i l (chosen_low tb p f i l)).shortest.low;
          len_high = λ i l. (f.takes i l (chosen_low tb p f i l)).shortest.holds.0;
        }

    pub chosen_passes : Passes tb p
    chosen_passes i l =
        let t = (f.takes i l (chosen_low tb p f i l)).shortest in
        fits_passes i l t.low t.holds.0
        (λ j g e. f.once j i g l (omega (arith, chosen_low tb p f j g)) e) t.holds.1

    -- Shortest at each rank: row y, any row z of no greater rank number, and any length of z that passes where the
    -- other rows of rank up to that of y stand above and those of greater rank below
    pub chosen_shortest : (y z q R : ℕ) → y < tb.n → z < tb.n → p.rank z ≤ p.rank y → 1 ≤ q → q ≤ cap tb z →
        Response tb (without (unplaced p (p.rank y)) z) (blocking tb p (p.rank y)) z q R → R ≤ tb.D z →
        (blocks tb p y ≤ longer tb z q) × (blocks tb p y ≡ longer tb z q → y ≤ z) × (y ≡ z → p.len y ≤ q)
    chosen_shortest y z q R l g h low high x within =
        let s = p.rank y in
        takes_least tb (unplaced p s) (blocking tb p s) (unplaced p s) y (p.len y) z q pos
        (f.takes y l (chosen_low tb p f y l)) g
        (le-leb (p.rank z) s h) low high (record { R = R; response = x; within = within })

  -- a passing plan, peeled from its lowest rank up
  module _ (wf : WellFormed tb p) (ok : Passes tb p) where
    peels_of : (r : ℕ) → r ≤ tb.n → Peels tb r (unplaced p r) (longest tb p r)
    peels_of zero h = tt
    peels_of (suc r) h =
        let s = suc r in
        let k = held tb p 0 (ranked_well tb p wf) r (omega arith) h in
        let y = k.0 in
        let l = k.1 in
        let once : (j : ℕ) → j < tb.n → p.rank j ≡ p.rank y → j ≡ y = λ j g e. wf.once j y g l e in
        let own = longest_ge tb p r y l (omega (arith, k.2)) in
        let fits = passes_fits y l (wf.len_low y l) (wf.len_high y l) once (ok y l) in (
          y,
          p.len y,
          record {
            row = l;
            mem = le-leb (p.rank y) s (omega (arith, k.2));
            low = wf.len_low y l;
            high = wf.len_high y l;
            fits = rw (k.2, blocking_is tb p s) at fits;
          },
          peels_compare tb pos r (without (unplaced p s) y) (unplaced p r) (max (longest tb p s) (blocks tb p y)) _
              (λ j g. sym (unplaced_next p r y j k.2 (λ e. once j g (e ∙ sym k.2))))
              (omega (arith, own, longest_le tb p p s r (λ j g lt. (omega arith, omega arith))))
              (peels_of r (omega arith)),
        )

-- what is left to a plan that is filled as the choice says can be peeled, where any plan passes
module _ (tb : Table) (pos : Positive tb) (p : Plan) (o : Plan) (wf : WellFormed tb o) (ok : Passes tb o) where
  left_peels : (e r : ℕ) → r + e ≡ tb.n → Filled tb p r → Peels tb r (unplaced p r) (longest tb p r)
  left_peels zero r h f =
      let n : r ≡ tb.n = omega arith in
      rw n
      (peels_compare tb pos tb.n (unplaced p tb.n) (unplaced o tb.n) (longest tb p tb.n) _
      (λ j l. le-leb (p.rank j) tb.n (f.high j l) ∙ sym (le-leb (o.rank j) tb.n (wf.rank_high j l)))
      (longest_le tb p o tb.n tb.n (λ j l lt. absurd (omega (arith, f.high j l))))
      (peels_of tb pos o wf ok tb.n (omega arith)))
  left_peels (suc e) r h f =
      let s = suc r in
      let up : s ≤ tb.n = omega arith in
      let k = filled_takes r f (omega arith) up in
      let y = k.0 in
      let q = p.len y in
      let t = k.3 in
      let b = blocking_is tb p s in
      peels_compare tb pos r (unplaced p r) (without (unplaced p s) y) (longest tb p r)
      (max (longest tb p s) (longer tb y q))
      (λ j g. unplaced_next p r y j k.2 (λ e. f.once j y g k.1 (omega arith) (e ∙ sym k.2)))
      (longest_cases tb p r
      (λ e. omega arith)
      (λ j l lt e.
      by_eq (p.rank j) s
      (λ x. omega (arith, ap (blocks tb p) (f.once j y l k.1 lt (x ∙ sym k.2))))
      (λ x. omega (arith, longest_ge tb p s j l (omega arith)))))
      (exchange tb pos r (unplaced p s) (longest tb p s) y q
      (record {
        row = k.1;
        mem = t.try;
        low = t.shortest.low;
        high = t.shortest.holds.0;
        fits = rw b at t.shortest.holds.1;
      })
      (λ x l S.
      (takes_least tb (unplaced p s) (blocking tb p s) (unplaced p s) y q x l pos t S.row S.mem S.low S.high
      (rw b S.fits)).0)
      (left_peels e s (omega arith) (filled_more s f (omega arith) up)))

-- the choice stops only where no well-formed plan passes
pub stopped_no_plan : (tb : Table) → Positive tb → Stopped tb → (o : Plan) → WellFormed tb o → Passes tb o → ⊥
stopped_no_plan tb pos s o wf ok =
    let p = s.plan in
    let r = pred s.rank in
    let e : suc r ≡ s.rank = omega (arith, s.low) in
    let F : Peels tb (suc r) (unplaced p s.rank) (longest tb p s.rank) =
    subst (λ k. Peels tb k (unplaced p s.rank) (longest tb p s.rank)) (sym e)
    (left_peels tb pos p o wf ok (tb.n - s.rank) s.rank (omega (arith, s.high)) s.filled) in
    let S = F.2 in
    s.none F.0 F.1 S.row S.mem S.low S.high (rw (blocking_is tb p s.rank) S.fits)
