-- Tests of the choice on small tables: trials, shortest lengths, the row that takes a rank, ranks filled.
use Prim.Native.Nat.{ℕ, suc, ◌-◌, ◌≤◌, ◌<◌}
use mathlib.Core.Path.{◌≡◌, ap}
use mathlib.Core.Bool.{Bool, true}
use native.Mathlib.Omega.{arith}
use lib.Dec.{eqb, leb, ltb}
use borrow.Author.Tests.{eq-eqb, leb-true, le-leb, lt-ltb}
use Rattle.counting.specs.Sum.{without, count}
use Rattle.counting.proofs.Cases.{by_le, not_both}
use Rattle.counting.proofs.Search.{first, first_ge, first_before, first_found, first_within}
use Rattle.tables.specs.Table.{Table}
use Rattle.tables.specs.Plan.{Plan, cap, longer}
use Rattle.test.specs.Test.{Response, blocking}
use Rattle.test.proofs.Response.{response_unique}
use Rattle.choice.specs.Choice.{unplaced, Fits, Shortest, TakesRank, NoneFitsRank, Filled, Stopped}
use Rattle.starred.proofs.Tests.{Test, equal, at_most, less, holds, so, both, so₂, so₃, so₄, so₅, when, each}
use Rattle.starred.proofs.Seen.{value, responds}

module _ (tb : Table) (p : Plan) (r z : ℕ) where
  abbrev U : ℕ → Bool
  U = without (unplaced p r) z

  abbrev B : ℕ
  B = blocking tb p r

  abbrev worth : ℕ → ℕ
  worth q = value tb U B z q

  -- the response of each length that the row may have is known
  abbrev Known : Type 0
  Known = (q : ℕ) → 1 ≤ q → q ≤ cap tb z → Response tb U B z q (worth q)

  unfoldable pub known : Test Known
  known = so (each (cap tb z) (λ l. responds tb U B z (suc l) (worth (suc l))))
      (λ s q a h. let e : suc (q - 1) ≡ q = omega arith in rw e at (s (q - 1) (omega arith)))

  unfoldable pub passing : ℕ → Bool
  passing q = leb (worth q) (tb.D z)

  -- the first passing length, one more than the row may have if there is none
  unfoldable pub short : ℕ
  short = first passing (cap tb z) 1

  module _ (k : Known) where
    fits_passing : (q : ℕ) → 1 ≤ q → q ≤ cap tb z → Fits tb U B z q → passing q ≡ true
    unfolding passing
    fits_passing q a h f =
        le-leb (worth q) (tb.D z)
        (omega (arith, f.within, response_unique tb U B z q f.R (worth q) f.response (k q a h)))

    passing_fits : (q : ℕ) → 1 ≤ q → q ≤ cap tb z → passing q ≡ true → Fits tb U B z q
    unfolding passing
    passing_fits q a h e = record { R = worth q; response = k q a h; within = leb-true (worth q) (tb.D z) e }

    -- a shortest passing length is the first
    pub short_is : (q : ℕ) → Shortest tb (unplaced p r) B z q → q ≡ short
    unfolding short
    short_is q s =
        let h = s.holds.0 in
        let f = first_found passing (cap tb z) 1 q s.low (omega arith) (fits_passing q s.low h s.holds.1) in
        let g = first_ge passing (cap tb z) 1 in
        omega (arith, s.least short g (omega arith, passing_fits short g (omega arith) f.0), f.1)

    pub short_shortest : (q : ℕ) → short ≡ q → q ≤ cap tb z → Shortest tb (unplaced p r) B z q
    unfolding short
    short_shortest q e h =
        let g = first_ge passing (cap tb z) 1 in
        let s : Shortest tb (unplaced p r) B z short =
        record {
          low = g;
          holds = (omega arith, passing_fits short g (omega arith) (first_within passing (cap tb z) 1 (omega arith)));
          least = λ l a f. by_le short l (λ x. x)
              (λ x. not_both (passing l) (first_before passing (cap tb z) 1 l a x) (fits_passing l a f.0 f.1));
        } in
        rw e at s

    pub none_fit : cap tb z < short → (q : ℕ) → 1 ≤ q → q ≤ cap tb z → Fits tb U B z q → ⊥
    unfolding short
    none_fit h q a g f = not_both (passing q) (first_before passing (cap tb z) 1 q a (omega arith))
        (fits_passing q a g f)

  -- the shortest passing length is q
  unfoldable pub shortest_test : (q : ℕ) → Test (Shortest tb (unplaced p r) B z q)
  shortest_test q = so₃ known (equal short q) (at_most q (cap tb z)) (λ k. short_shortest k q)

module _ (tb : Table) (p : Plan) (r : ℕ) where
  -- at each row not placed
  abbrev each_unplaced : {A : ℕ → Type 0} → ((z : ℕ) → Test (A z)) →
      Test ((z : ℕ) → z < tb.n → unplaced p r z ≡ true → A z)
  each_unplaced t = each tb.n (λ z. when (unplaced p r z) (λ u. u) (t z))

  -- row z does not come before row y with q
  unfoldable pub comes_after : (y q z : ℕ) →
      Test (short tb p r z ≤ cap tb z → let m = longer tb z (short tb p r z) in
      (longer tb y q ≤ m) × (z < y → longer tb y q < m))
  comes_after y q z =
      let l = short tb p r z in
      let m = longer tb z l in
      when (leb l (cap tb z)) (le-leb l (cap tb z))
      (both (at_most (longer tb y q) m) (when (ltb z y) (lt-ltb z y) (less (longer tb y q) m)))

  unfoldable pub takes_test : (y q : ℕ) → Test (TakesRank tb p r y q)
  takes_test y q =
      so₅ (each_unplaced (known tb p r)) (less y tb.n) (holds (unplaced p r y)) (shortest_test tb p r y q)
      (each_unplaced (comes_after y q))
      (λ known row try shortest after.
      let is : (z m : ℕ) → z < tb.n → unplaced p r z ≡ true → Shortest tb (unplaced p r) (blocking tb p r) z m →
      (m ≡ short tb p r z) × (m ≤ cap tb z) =
      λ z m g v x. (short_is tb p r z (known z g v) m x, x.holds.0) in
      record {
        row = row;
        try = try;
        shortest = shortest;
        least =
            λ z m g v x.
            let e = is z m g v x in
            omega (arith, (after z g v (omega arith)).0, ap (longer tb z) e.0);
        earliest =
            λ z m h v x same.
            let g : z < tb.n = omega arith in
            let e = is z m g v x in
            omega (arith, (after z g v (omega arith)).1 h, ap (longer tb z) e.0);
      })

  unfoldable pub none_test : Test (NoneFitsRank tb p r)
  none_test =
      so₂ (each_unplaced (known tb p r)) (each_unplaced (λ z. less (cap tb z) (short tb p r z)))
      (λ known long z q l u. none_fit tb p r z (known z l u) (long z l u) q)

-- the ranks greater than r are filled as the plan says
unfoldable pub filled_test : (tb : Table) (p : Plan) (r : ℕ) → Test (Filled tb p r)
filled_test tb p r =
    let n = tb.n in
    let rank = p.rank in
    so₄ (each n (λ i. at_most (rank i) n))
    (each n (λ i. each n (λ j. when (ltb r (rank i)) (lt-ltb r (rank i))
    (when (eqb (rank i) (rank j)) (eq-eqb (rank i) (rank j)) (equal i j)))))
    (equal (count (unplaced p r) n) r)
    (each n (λ y. when (ltb r (rank y)) (lt-ltb r (rank y)) (takes_test tb p (rank y) y (p.len y))))
    (λ high once left takes. record { high = high; once = λ i j l g. once i l j g; left = left; takes = takes })

-- no row is placed
abbrev pub nothing_placed : Plan
nothing_placed = record { rank = λ i. 0; len = λ i. 0 }

-- nothing passes at rank r, with the ranks greater than it filled as the plan says
unfoldable pub stopped_test : (tb : Table) (p : Plan) (r : ℕ) → Test (Stopped tb)
stopped_test tb p r =
    so₄ (at_most 1 r) (at_most r tb.n) (filled_test tb p r) (none_test tb p r)
    (λ low high filled none. record { plan = p; rank = r; low = low; high = high; filled = filled; none = none })
