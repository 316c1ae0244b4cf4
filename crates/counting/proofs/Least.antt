-- Laws of the least number of a kind, and of the least fixed point of a function that never falls: bound, below,
-- compare, iterate.
use Prim.Native.Nat.{ℕ, zero, suc, ◌≤◌, ◌<◌}
use mathlib.Core.Path.{◌≡◌, sym}
use mathlib.Core.Bool.{Bool, true}
use native.Mathlib.Omega.{arith}
use lib.Dec.{eqb}
use borrow.Author.Tests.{eqb-true, eq-eqb}
use Rattle.counting.specs.Least.{Least}
use Rattle.counting.proofs.Cases.{by_eq, by_le, not_both}
use Rattle.counting.proofs.Search.{first, first_ge, first_before, first_found}

pub least_unique : {E : ℕ → Type 0} {lo a b : ℕ} → Least E lo a → Least E lo b → a ≡ b
least_unique {E} {lo} {a} {b} l m = omega (arith, l.least b m.low m.holds, m.least a l.low l.holds)

-- the same kind, said in another way
pub least_map : {E F : ℕ → Type 0} {lo a : ℕ} → ((t : ℕ) → lo ≤ t → E t → F t) → ((t : ℕ) → lo ≤ t → F t → E t) →
    Least E lo a → Least F lo a
least_map f g l = record { low = l.low; holds = f _ l.low l.holds; least = λ u h e. l.least u h (g u h e) }

-- where a test says whether E holds, and E holds somewhere, there is a least
pub least_of : {E : ℕ → Type 0} (P : ℕ → Bool) → ((t : ℕ) → P t ≡ true → E t) → ((t : ℕ) → E t → P t ≡ true) →
    (lo u : ℕ) → lo ≤ u → E u → (t : ℕ) × Least E lo t × (t ≤ u)
least_of P sound complete lo u h e =
    let k = suc u in
    let r = first_found P k lo u h (omega arith) (complete u e) in (
      first P k lo,
      record {
        low = first_ge P k lo;
        holds = sound (first P k lo) r.0;
        least =
            λ v a g. by_le (first P k lo) v (λ q. q)
            (λ q. not_both (P v) (first_before P k lo v a q) (complete v g));
      },
      r.1,
    )

-- it never falls
abbrev pub Mono : (ℕ → ℕ) → Type 0
Mono f = (a b : ℕ) → a ≤ b → f a ≤ f b

-- t is the least fixed point of f of at least lo
abbrev pub LeastFixed : (ℕ → ℕ) → ℕ → ℕ → Type 0
LeastFixed f lo t = Least (λ u. u ≡ f u) lo t

module _ (f : ℕ → ℕ) (mono : Mono f) (lo : ℕ) (up : lo ≤ f lo) where
  -- a fixed point at or below any u that f does not raise: go down from u
  down : (k u : ℕ) → u ≤ k → lo ≤ u → f u ≤ u → (v : ℕ) × (lo ≤ v) × (v ≤ u) × (v ≡ f v)
  down zero u a b c = (u, b, omega arith, omega (arith, mono lo u b))
  down (suc k) u a b c =
      by_eq (f u) u
      (λ e. (u, b, omega arith, sym e))
      (λ e.
      let r = down k (f u) (omega arith) (omega (arith, mono lo u b)) (mono (f u) u c) in
      (r.0, r.1, omega arith, r.3))

  -- Bound: what f does not raise has a least fixed point at or below it
  pub least_bound : (u : ℕ) → lo ≤ u → f u ≤ u → (t : ℕ) × LeastFixed f lo t × (t ≤ u)
  least_bound u a b =
      let r = down u u (omega arith) a b in
      let l = least_of (λ t. eqb t (f t)) (λ t. eqb-true t (f t)) (λ t. eq-eqb t (f t)) lo r.0 r.1 r.3 in
      (l.0, l.1, omega (arith, l.2, r.2))

  pub least_prefix : {t : ℕ} (u : ℕ) → LeastFixed f lo t → lo ≤ u → f u ≤ u → t ≤ u
  least_prefix {t} u l a b = let r = least_bound u a b in omega (arith, l.least r.0 r.1.low r.1.holds, r.2)

  -- Below: under the least fixed point f raises
  pub least_below : {t : ℕ} (u : ℕ) → LeastFixed f lo t → lo ≤ u → u < t → u < f u
  least_below {t} u l a b = by_le (f u) u (λ h. absurd (omega (arith, least_prefix u l a h))) (λ h. h)

-- Compare: a smaller function has its least fixed point, and no larger one
pub least_compare : (f g : ℕ → ℕ) (lo : ℕ) {b : ℕ} → Mono f → lo ≤ f lo → ((u : ℕ) → lo ≤ u → f u ≤ g u) →
    LeastFixed g lo b →
    (a : ℕ) × LeastFixed f lo a × (a ≤ b)
least_compare f g lo {b} mono up le m = least_bound f mono lo up b m.low (omega (arith, le b m.low, m.holds))

-- Iterate: the state of an iteration that climbs to the least fixed point
pub record Climbing (f : ℕ → ℕ) (lo x : ℕ) : Type 0 where
  pub low : lo ≤ x
  pub up : x ≤ f x
  pub under : (u : ℕ) → lo ≤ u → u ≡ f u → x ≤ u

-- any x of at least lo that f does not lower and that no fixed point lies below is a lawful start
pub climbing_lo : (f : ℕ → ℕ) (lo : ℕ) → lo ≤ f lo → Climbing f lo lo
climbing_lo f lo h = record { low = omega arith; up = h; under = λ u a _. a }

-- a lower bound of the least fixed point is a lawful start
pub climbing_below : (f : ℕ → ℕ) (lo x : ℕ) {t : ℕ} → Mono f → lo ≤ f lo → LeastFixed f lo t → lo ≤ x → x ≤ t →
    Climbing f lo x
climbing_below f lo x {t} mono up l a b =
    record {
      low = a;
      up =
          by_eq x t
          (λ e. rw e (omega (arith, l.holds)))
          (λ e. omega (arith, least_below f mono lo up x l a (omega arith)));
      under = λ u g e. omega (arith, l.least u g e);
    }

pub climbing_step : (f : ℕ → ℕ) (lo x : ℕ) → Mono f → Climbing f lo x → Climbing f lo (f x)
climbing_step f lo x mono c =
    record {
      low = omega (arith, c.low, c.up);
      up = mono x (f x) c.up;
      under = λ u a e. omega (arith, mono x u (c.under u a e));
    }

-- where a value repeats, it is the least fixed point
pub climbing_stops : {f : ℕ → ℕ} {lo x : ℕ} → Climbing f lo x → x ≡ f x → LeastFixed f lo x
climbing_stops c e = record { low = c.low; holds = e; least = c.under }
