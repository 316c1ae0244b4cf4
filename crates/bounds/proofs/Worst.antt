-- The list in which a level asks for the most: the rows of rank r and higher are released at t₀ and from then on as
-- often as they may, and the opening rows, of lower rank, once at 0; each job has its worst run.
use Prim.Native.Nat.{ℕ, ◌+◌, ◌-◌, ◌*◌, ◌/◌, ◌%◌, ◌≤◌, ◌<◌}
use mathlib.Core.Path.{◌≡◌, refl, ap, sym, ◌∙◌, subst}
use mathlib.Core.Bool.{Bool, true, ◌&&◌, ◌||◌}
use mathlib.Core.Logic.{inl}
use native.Mathlib.Omega.{arith}
use native.Mathlib.Nat.{add-sub_cancel_left, mul-le-mul_right, div-add-mod', mod-lt}
use lib.Dec.{eqb, ltb, leb}
use lib.Arith.{digits_div, digits_mod, digits_lt}
use borrow.Author.Tests.{lt-ltb, le-leb, leb-true, eq-eqb, ne_eqb, eqb-true}
use Rattle.counting.specs.Sum.{given, sum}
use Rattle.counting.proofs.Cases.{by_eq, by_le, by_bool, and_left, and_right, and_both}
use Rattle.counting.proofs.Up.{div_mono}
use Rattle.counting.proofs.Sum.{given_yes, sum_le, sum_mul, sum_more, sum_shift, sum_fubini}
use Rattle.tables.specs.Table.{Table}
use Rattle.tables.specs.Plan.{Plan}
use Rattle.tables.specs.Jobs.{Jobs, Lawful}
use Rattle.test.specs.Test.{before, load}
use Rattle.test.proofs.Load.{Positive}
use Rattle.counting.proofs.Cases.{or_cases, or_left, or_right}
use Rattle.bounds.proofs.Listing.{size, nth, nth_is, nth_rises, nth_has, sum_keep, sum_pairs, multiples}
use Rattle.bounds.proofs.Listing.{multiples_apart}

-- the list goes up to tick Z − 1
module _ (tb : Table) (p : Plan) (r : ℕ) (opening : ℕ → Bool) (t₀ Z : ℕ) where
  abbrev pub rows : ℕ → Bool
  rows h = leb (p.rank h) r

  abbrev often : ℕ → ℕ → Bool
  often u h = rows h && (leb t₀ u && eqb ((u - t₀) % tb.T h) 0)

  abbrev once : ℕ → ℕ → Bool
  once u h = eqb u 0 && opening h

  -- row h is released at tick u
  abbrev here : ℕ → ℕ → Bool
  here u h = often u h || once u h

  abbrev listed : ℕ → Bool
  listed c = here (c / tb.n) (c % tb.n)

  abbrev most : ℕ
  most = Z * tb.n

  abbrev pub worst : Jobs
  worst =
      record {
        N = size listed most;
        row = λ k. nth listed most k % tb.n;
        release = λ k. nth listed most k / tb.n;
        run = λ k. tb.C (nth listed most k % tb.n);
      }

  record Often (u h : ℕ) : Type 0 where
    high : p.rank h ≤ r
    from : t₀ ≤ u
    multiple : (u - t₀) % tb.T h ≡ 0

  often_to : (u h : ℕ) → Often u h → often u h ≡ true
  often_to u h o = and_both _ _ (le-leb _ _ o.high) (and_both _ _ (le-leb _ _ o.from) (eq-eqb _ _ o.multiple))

  often_of : (u h : ℕ) → often u h ≡ true → Often u h
  often_of u h e =
      let f = and_right (rows h) _ e in
      record {
        high = leb-true _ _ (and_left (rows h) _ e);
        from = leb-true _ _ (and_left (leb t₀ u) _ f);
        multiple = eqb-true _ _ (and_right (leb t₀ u) _ f);
      }

  once_of : (u h : ℕ) → once u h ≡ true → (u ≡ 0) × (opening h ≡ true)
  once_of u h e = (eqb-true _ _ (and_left (eqb u 0) _ e), and_right (eqb u 0) _ e)

  -- a row and a tick that are listed
  pub record Job (u h : ℕ) : Type 0 where
    pub job : ℕ
    pub is : job < worst.N
    pub row : worst.row job ≡ h
    pub release : worst.release job ≡ u
    pub run : worst.run job ≡ tb.C h

  job_of : (u h : ℕ) → h < tb.n → u < Z → here u h ≡ true → Job u h
  job_of u h l b e =
      let c = u * tb.n + h in
      let tick : c / tb.n ≡ u = digits_div u l in
      let row : c % tb.n ≡ h = digits_mod u l in
      let k = nth_has listed most c (digits_lt {q = u} {m = Z} {r = h} {c = tb.n} b l) (rw (tick, row) e) in
      let row' : worst.row k.0 ≡ h = ap (λ c. c % tb.n) k.2 ∙ row in
      record { job = k.0; is = k.1; row = row'; release = ap (λ c. c / tb.n) k.2 ∙ tick; run = ap tb.C row' }

  pub level_job : (u h : ℕ) → h < tb.n → p.rank h ≤ r → (u - t₀) % tb.T h ≡ 0 → t₀ ≤ u → u < Z → Job u h
  level_job u h l high m from b =
      job_of u h l b (or_left _ _ (often_to u h (record { high = high; from = from; multiple = m })))

  pub opening_job : (h : ℕ) → h < tb.n → opening h ≡ true → 0 < Z → Job 0 h
  opening_job h l o b = job_of 0 h l b (or_right (often 0 h) _ (and_both _ _ (eq-eqb 0 0 refl) o))

  -- The opening rows are of lower rank.
  module _ (pos : Positive tb) (some : 0 < tb.n) (low : (h : ℕ) → opening h ≡ true → r < p.rank h) where
    here_apart : (u v h : ℕ) → here u h ≡ true → here v h ≡ true → u < v → u + tb.T h ≤ v
    here_apart u v h a b g =
        or_cases (often v h) (once v h) b
        (λ y.
        let oy = often_of v h y in
        or_cases (often u h) (once u h) a
        (λ x.
        let ox = often_of u h x in
        omega (arith, multiples_apart (tb.T h) (u - t₀) (v - t₀) ox.multiple oy.multiple (omega arith)))
        (λ x. absurd (omega (arith, low h (once_of u h x).1))))
        (λ y. absurd (omega (arith, (once_of v h y).0)))

    -- the releases never fall
    pub worst_order : (k l : ℕ) → k < l → l < worst.N → worst.release k ≤ worst.release l
    worst_order k l a b = div_mono tb.n (omega (arith, nth_rises listed most k l a b))

    pub worst_lawful : Lawful tb worst
    worst_lawful =
        record {
          row = λ k g. mod-lt (nth listed most k) some;
          run_low = λ k g. pos.C (nth listed most k % tb.n) (mod-lt (nth listed most k) some);
          run_high = λ k g. omega arith;
          apart = λ k l a b e.
              let c = nth listed most k in
              let d = nth listed most l in
              let rises = nth_rises listed most k l a b in
              inl
              (here_apart (c / tb.n) (d / tb.n) (c % tb.n) (nth_is listed most k (omega arith)).ok
              (subst (λ h. here (d / tb.n) h ≡ true) (sym e) (nth_is listed most l b).ok)
              (by_le (d / tb.n) (c / tb.n)
              (λ g. absurd (omega (arith, mul-le-mul_right tb.n g, div-add-mod' c tb.n, div-add-mod' d tb.n)))
              (λ g. g)));
        }

    -- before t₀ only opening rows are released, at 0
    pub opens_only : (k : ℕ) → k < worst.N → worst.release k < t₀ →
        (worst.release k ≡ 0) × (opening (worst.row k) ≡ true)
    opens_only k l h =
        let u = worst.release k in
        let i = worst.row k in
        or_cases (often u i) (once u i) (nth_is listed most k l).ok
        (λ e. absurd (omega (arith, (often_of u i e).from)))
        (λ e. once_of u i e)

    -- what rows of the level ask for before t₀ + y
    pub worst_load : (A : ℕ → Bool) → ((h : ℕ) → h < tb.n → A h ≡ true → p.rank h ≤ r) → (y : ℕ) → t₀ + y ≤ Z →
        load before tb A y ≤ sum (λ k. given (A (worst.row k) && ltb (worst.release k) (t₀ + y))
        (tb.C (worst.row k))) worst.N
    unfolding load
    worst_load A sub y fits =
        let n = tb.n in
        let f : ℕ → ℕ = λ c. given (A (c % n) && ltb (c / n) (t₀ + y)) (tb.C (c % n)) in
        let g : ℕ → ℕ → ℕ = λ u h. given (here u h) (given (A h && ltb u (t₀ + y)) (tb.C h)) in
        let row : (h : ℕ) → h < n → given (A h) (before y (tb.T h) * tb.C h) ≤ sum (λ u. g u h) Z =
        λ h l. by_bool (A h)
        (λ a.
        let often = mul-le-mul_right (tb.C h) (multiples (tb.T h) y (pos.T h l)) in
        let times = sum_mul (λ v. given (eqb (v % tb.T h) 0) 1) (tb.C h) y in
        let le = sum_le _ (λ v. g (t₀ + v) h) y (λ v b. each h v a (sub h l a) b) in
        let all = sum_more (λ u. g u h) (t₀ + y) Z fits in
        omega (arith, given_yes (A h) (before y (tb.T h) * tb.C h) a, sum_shift (λ u. g u h) t₀ y))
        (λ a. rw a (omega arith)) in
        omega (arith, sum_keep listed f most, sum_pairs g n Z, sum_fubini g Z n, sum_le _ _ n row)
      where
        each : (h v : ℕ) → A h ≡ true → p.rank h ≤ r → v < y →
            given (eqb (v % tb.T h) 0) 1 * tb.C h ≤ given (here (t₀ + v) h)
            (given (A h && ltb (t₀ + v) (t₀ + y)) (tb.C h))
        each h v a high b =
            by_eq (v % tb.T h) 0
            (λ q.
            let u = t₀ + v in
            let m : (u - t₀) % tb.T h ≡ 0 = rw (add-sub_cancel_left t₀ v) q in
            let o = or_left _ (once u h) (often_to u h (record { high = high; from = omega arith; multiple = m })) in
            rw (eq-eqb (v % tb.T h) 0 q, o, a, lt-ltb u (t₀ + y) (omega arith)) (omega arith))
            (λ q. rw (ne_eqb (v % tb.T h) 0 q) (omega arith))
