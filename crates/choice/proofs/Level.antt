-- Laws of one level: what a length that fits is compared with, the shortest length exists, and one row at most takes a
-- rank.
use Prim.Native.Nat.{ℕ, zero, suc, ◌+◌, ◌-◌, ◌≤◌, ◌<◌}
use mathlib.Core.Path.{◌≡◌, ap, sym, ◌∙◌, subst}
use mathlib.Core.Bool.{Bool, true, ◌&&◌, not}
use mathlib.Core.Logic.{◌⊎◌, inl, inr, ⊎_elim}
use native.Mathlib.Omega.{arith}
use lib.Dec.{eqb}
use Rattle.counting.specs.Sum.{without}
use Rattle.counting.specs.Least.{Least}
use Rattle.counting.proofs.Cases.{by_le, by_eq}
use Rattle.counting.proofs.Least.{least_map, least_unique}
use Rattle.tables.specs.Table.{Table}
use Rattle.tables.specs.Plan.{cap, longer}
use Rattle.tables.proofs.Checked.{first_here}
use Rattle.tables.proofs.Plan.{cap_run, longer_mono}
use Rattle.test.specs.Test.{before, load, Active}
use Rattle.test.proofs.Load.{Positive, load_ext}
use Rattle.test.proofs.Response.{response_exists, response_unique}
use Rattle.test.proofs.Compare.{response_compare, response_longer}
use Rattle.choice.specs.Choice.{Fits, Shortest, Takes, NoneFits}

-- where each number below n is decided, one of them is the first, or there is none
pub first_of : {E : ℕ → Type 0} (n : ℕ) → ((t : ℕ) → t < n → E t ⊎ ¬ E t) →
    ((t : ℕ) × Least E 0 t) ⊎ ((t : ℕ) → t < n → ¬ E t)
first_of zero decide = inr (λ t l. absurd (omega arith))
first_of {E} (suc n) decide =
    ⊎_elim inl
    (λ none.
    ⊎_elim
    (λ e. inl (n, first_here n e none))
    (λ no. inr (λ t l. by_eq t n (λ q. subst (λ x. ¬ E x) (sym q) no) (λ q. none t (omega arith))))
    (decide n (omega arith)))
    (first_of n (λ t l. decide t (omega arith)))

module _ (tb : Table) (pos : Positive tb) (z : ℕ) (l : z < tb.n) where
  -- a length that fits goes on fitting where the level asks for no more
  pub fits_compare : (P P' : ℕ → Bool) (b b' q : ℕ) → 1 ≤ q → q ≤ cap tb z →
      ((t : ℕ) → 1 ≤ t → b + load before tb P t ≤ b' + load before tb P' t) →
      Fits tb P' b' z q → Fits tb P b z q
  fits_compare P P' b b' q some most le f =
      let r = response_compare tb tb P P' b b' z pos pos l l (omega arith) (omega arith) le q f.R some
      (cap_run tb z most) f.response in
      record { R = r.0; response = r.1; within = omega (arith, r.2, f.within) }

  module _ (P : ℕ → Bool) (b : ℕ) where
    -- the lengths that fit are closed upward
    pub fits_longer : (q q' : ℕ) → 1 ≤ q → q ≤ q' → q' ≤ cap tb z → Fits tb P b z q → Fits tb P b z q'
    fits_longer q q' some le most f =
        let e : q + (q' - q) ≡ q' = omega arith in
        let r = response_longer tb P b z pos l q (q' - q) some (omega (arith, cap_run tb z most)) f.R
        f.response in
        subst (Fits tb P b z) e (record { R = r.0; response = r.1; within = omega (arith, r.2, f.within) })

    -- within an active period a length fits or it does not
    pub fits_or_not {ℓ} : {X : Type ℓ} (L : ℕ) → Active tb P b z L → (q : ℕ) → 1 ≤ q → q ≤ cap tb z →
        (Fits tb P b z q → X) → (¬ Fits tb P b z q → X) → X
    fits_or_not L a q some most fit miss =
        let r = response_exists tb P b z q pos l some (cap_run tb z most) L a in
        by_le r.0 (tb.D z)
        (λ h. fit (record { R = r.0; response = r.1; within = h }))
        (λ h. miss (λ f.
        absurd (omega (arith, f.within, response_unique tb P b z q r.0 f.R r.1 f.response))))

    -- the shortest length that fits
    abbrev LeastFit : ℕ → Type 0
    LeastFit = Least (λ l. (l ≤ cap tb z) × Fits tb P b z l) 1

    -- within an active period there is a shortest length that fits, or none fits
    pub shortest_or_not : (L : ℕ) → Active tb P b z L →
        ((m : ℕ) × LeastFit m) ⊎ ((q : ℕ) → 1 ≤ q → q ≤ cap tb z → ¬ Fits tb P b z q)
    shortest_or_not L a =
        ⊎_elim
        (λ r. inl (
          r.0,
          record {
            low = r.1.holds.0;
            holds = r.1.holds.1;
            least = λ u some g. r.1.least u (omega arith) (some, g);
          },
        ))
        (λ none. inr (λ q some most f. none q (omega arith) (some, (most, f))))
        (first_of {E = λ l. (1 ≤ l) × ((l ≤ cap tb z) × Fits tb P b z l)} (suc (cap tb z)) (λ t h.
        by_le 1 t
        (λ some.
        fits_or_not L a t some (omega arith) (λ y. inl (some, (omega arith, y))) (λ n. inr (λ x. n x.1.1)))
        (λ none. inr (λ x. omega (arith, x.0)))))

    -- where a length fits there is a shortest, and no later
    pub least_fit : (q : ℕ) → 1 ≤ q → q ≤ cap tb z → Fits tb P b z q → (m : ℕ) × LeastFit m × (m ≤ q)
    least_fit q some most f =
        ⊎_elim
        (λ r. (r.0, r.1, r.1.least q some (most, f)))
        (λ none. absurd (none q some most f))
        (shortest_or_not f.response.period f.response.active)

-- the row that takes a rank, against any length that fits of any row that is tried
pub takes_least : (tb : Table) (U : ℕ → Bool) (b : ℕ) (tried : ℕ → Bool) (y q z l : ℕ) → Positive tb →
    Takes tb U b tried y q →
    z < tb.n → tried z ≡ true → 1 ≤ l → l ≤ cap tb z → Fits tb (without U z) b z l →
    (longer tb y q ≤ longer tb z l) × (longer tb y q ≡ longer tb z l → y ≤ z) × (y ≡ z → q ≤ l)
takes_least tb U b tried y q z l pos t g e some most f =
    let s = least_fit tb pos z g (without U z) b l some most f in
    let le = t.least z s.0 g e s.1 in
    let up = longer_mono tb z s.2 in (
      omega arith,
      λ same. by_le y z (λ h. h) (λ h. absurd (t.earliest z s.0 h e s.1 (omega arith))),
      λ same. t.shortest.least l some (rw same (most, f)),
    )

-- one row at most takes a rank, with one length
pub takes_unique : (tb : Table) (U : ℕ → Bool) (b : ℕ) (tried : ℕ → Bool) (y q y' q' : ℕ) →
    Takes tb U b tried y q → Takes tb U b tried y' q' → (y ≡ y') × (q ≡ q')
takes_unique tb U b tried y q y' q' t t' =
    let a = t.least y' q' t'.row t'.try t'.shortest in
    let c = t'.least y q t.row t.try t.shortest in
    let no : ¬ (y < y') = λ h. t'.earliest y q h t.try t.shortest (omega arith) in
    let no' : ¬ (y' < y) = λ h. t.earliest y' q' h t'.try t'.shortest (omega arith) in
    let same : y ≡ y' = by_le y y' (λ h. by_le y' y (λ g. omega arith) (λ g. absurd (no g))) (λ h. absurd (no' h)) in
    (same, least_unique (subst (λ z. Shortest tb U b z q) same t.shortest) t'.shortest)

-- two levels that differ in nothing below n
pub record Alike (tb : Table) (U U' : ℕ → Bool) (b b' : ℕ) : Type 0 where
  pub rows : (j : ℕ) → j < tb.n → U j ≡ U' j
  pub blocking : b ≡ b'

pub alike_sym : {tb : Table} {U U' : ℕ → Bool} {b b' : ℕ} → Alike tb U U' b b' → Alike tb U' U b' b
alike_sym a = record { rows = λ j l. sym (a.rows j l); blocking = sym a.blocking }

module _ (tb : Table) (pos : Positive tb) (U U' : ℕ → Bool) (b b' : ℕ) (same : Alike tb U U' b b') where
  pub fits_alike : (z q : ℕ) → z < tb.n → 1 ≤ q → q ≤ cap tb z → Fits tb (without U z) b z q →
      Fits tb (without U' z) b' z q
  fits_alike z q l some most f =
      let load = load_ext tb before (without U z) (without U' z)
      (λ j g. ap (λ x. x && not (eqb j z)) (same.rows j g)) in
      fits_compare tb pos z l (without U' z) (without U z) b' b q some most
      (λ t _. omega (arith, same.blocking, load t)) f

pub shortest_alike : (tb : Table) (U U' : ℕ → Bool) (b b' z q : ℕ) → Positive tb → Alike tb U U' b b' → z < tb.n →
    Shortest tb U b z q → Shortest tb U' b' z q
shortest_alike tb U U' b b' z q pos same l s =
    least_map
    (λ u a f. (f.0, fits_alike tb pos U U' b b' same z u l a f.0 f.1))
    (λ u a f. (f.0, fits_alike tb pos U' U b' b (alike_sym same) z u l a f.0 f.1))
    s

pub takes_alike : (tb : Table) (U U' : ℕ → Bool) (b b' y q : ℕ) → Positive tb → Alike tb U U' b b' →
    Takes tb U b U y q → Takes tb U' b' U' y q
takes_alike tb U U' b b' y q pos same t =
    record {
      row = t.row;
      try = sym (same.rows y t.row) ∙ t.try;
      shortest = shortest_alike tb U U' b b' y q pos same t.row t.shortest;
      least =
          λ z l g e s.
          t.least z l g (same.rows z g ∙ e) (shortest_alike tb U' U b' b z l pos (alike_sym same) g s);
      earliest =
          λ z l h e s.
          let g : z < tb.n = omega (arith, t.row) in
          t.earliest z l h (same.rows z g ∙ e) (shortest_alike tb U' U b' b z l pos (alike_sym same) g s);
    }

pub none_alike : (tb : Table) (U U' : ℕ → Bool) (b b' : ℕ) → Positive tb → Alike tb U U' b b' → NoneFits tb U b U →
    NoneFits tb U' b' U'
none_alike tb U U' b b' pos same none z q l e some most f =
    none z q l (same.rows z l ∙ e) some most (fits_alike tb pos U' U b' b (alike_sym same) z q l some most f)
