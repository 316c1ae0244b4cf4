-- How much the jobs that are released in a window can ask for: no more than the load of their rows.
use Prim.Native.Nat.{ℕ, ◌+◌, ◌-◌, ◌*◌, ◌/◌, ◌≤◌, ◌<◌}
use mathlib.Core.Path.{◌≡◌, refl, sym, ◌∙◌}
use mathlib.Core.Bool.{Bool, true, false, ◌&&◌}
use native.Mathlib.Omega.{arith}
use native.Mathlib.Nat.{mul-le-mul_right, div-mul-le_self, lt-div-mul-add}
use lib.Dec.{eqb, leb}
use borrow.Author.Tests.{le-leb, leb-true, eq-eqb, ne_eqb, eqb-true}
use Rattle.counting.specs.Sum.{given, sum, count}
use Rattle.counting.proofs.Cases.{by_bool, by_eq, and_left, and_right, and_both}
use Rattle.counting.proofs.Up.{div_mono}
use Rattle.counting.proofs.Sum.{sum_le, sum_ext, sum_zero, sum_mul, sum_swap, count_all}
use Rattle.tables.specs.Table.{Table}
use Rattle.tables.specs.Jobs.{Jobs, Lawful}
use Rattle.test.specs.Test.{upto, load}
use Rattle.test.proofs.Load.{Positive}
use Rattle.kernel.proofs.Rule.{near_job}
use Rattle.counting.proofs.Sum.{sum_once}

module _ (tb : Table) (js : Jobs) (lawful : Lawful tb js) (pos : Positive tb) (t₀ : ℕ) where
  -- job k is released in the ticks t₀, .., t₀ + x
  abbrev pub within : ℕ → ℕ → Bool
  within x k = leb t₀ (js.release k) && leb (js.release k) (t₀ + x)

  pub record Within (x k : ℕ) : Type 0 where
    pub from : t₀ ≤ js.release k
    pub upto : js.release k ≤ t₀ + x

  pub within_of : (x k : ℕ) → within x k ≡ true → Within x k
  within_of x k e =
      let a = leb t₀ (js.release k) in
      record { from = leb-true _ _ (and_left a _ e); upto = leb-true _ _ (and_right a _ e) }

  pub within_to : (x k : ℕ) → Within x k → within x k ≡ true
  within_to x k w = and_both _ _ (le-leb _ _ w.from) (le-leb _ _ w.upto)

  -- it is one of row j
  abbrev pub mine : ℕ → ℕ → ℕ → Bool
  mine j x k = eqb (js.row k) j && within x k

  -- of one row, one job at most is released in each stretch of T ticks from t₀ on
  abbrev stretch : ℕ → ℕ → ℕ → ℕ
  stretch j x k = given (mine j x k) ((js.release k - t₀) / tb.T j)

  stretch_near : (j x s : ℕ) → j < tb.n → (k l : ℕ) → mine j x k ≡ true → mine j x l ≡ true → stretch j x k ≡ s →
      stretch j x l ≡ s → js.release k < js.release l + tb.T j
  stretch_near j x s jl k l mk ml ek el =
      let T = tb.T j in
      let wk = within_of x k (and_right (eqb (js.row k) j) _ mk) in
      let wl = within_of x l (and_right (eqb (js.row l) j) _ ml) in
      let uk = js.release k - t₀ in
      let ul = js.release l - t₀ in
      let ok : uk / T ≡ s = rw mk at ek in
      let ol : ul / T ≡ s = rw ml at el in
      let same : (uk / T) * T ≡ (ul / T) * T = cc in
      omega (arith, lt-div-mul-add {a = uk} (pos.T j jl), div-mul-le_self ul T)

  stretch_once : (j x s : ℕ) → j < tb.n → (k l : ℕ) → k < js.N → l < js.N → mine j x k ≡ true → mine j x l ≡ true →
      stretch j x k ≡ s → stretch j x l ≡ s → k ≡ l
  stretch_once j x s jl k l a b mk ml ek el =
      let rk = eqb-true _ _ (and_left (eqb (js.row k) j) _ mk) in
      let rl = eqb-true _ _ (and_left (eqb (js.row l) j) _ ml) in
      near_job tb js lawful k l a b (rk ∙ sym rl)
      (rw rk (stretch_near j x s jl k l mk ml ek el)) (rw rk (stretch_near j x s jl l k ml mk el ek))

  -- so x / T + 1 at most in the window
  pub count_window : (j x : ℕ) → j < tb.n → count (mine j x) js.N ≤ upto x (tb.T j)
  unfolding count
  count_window j x jl =
      let M = x / tb.T j + 1 in
      let swap = sum_swap (stretch j x) (λ k. given (mine j x k) 1) M js.N (λ k l. low k) in
      omega (arith, sum_le _ (λ _. 1) M (λ s _. few s), count_all M)
    where
      low : (k : ℕ) → stretch j x k < x / tb.T j + 1
      low k =
          by_bool (mine j x k)
          (λ e.
          let w = within_of x k (and_right (eqb (js.row k) j) _ e) in
          rw e (omega (arith, div_mono (tb.T j) {a = js.release k - t₀} {b = x} (omega arith))))
          (λ e. rw e (omega arith))

      here : ℕ → ℕ → Bool
      here s k = eqb (stretch j x k) s && mine j x k

      both : (a b : Bool) → given a (given b 1) ≡ given (a && b) 1
      both true b = refl
      both false b = refl

      few : (s : ℕ) → sum (λ k. given (eqb (stretch j x k) s) (given (mine j x k) 1)) js.N ≤ 1
      few s =
          let at : ℕ → Bool = λ k. eqb (stretch j x k) s in
          let same = sum_ext _ (λ k. given (here s k) 1) js.N (λ k _. both (at k) (mine j x k)) in
          let one = sum_once (here s) 1 js.N (λ k l a b e f.
          stretch_once j x s jl k l a b (and_right (at k) _ e) (and_right (at l) _ f)
          (eqb-true _ _ (and_left (at k) _ e)) (eqb-true _ _ (and_left (at l) _ f))) in
          omega arith

  -- the jobs of the rows of A that are released in the window ask for the load of A at most
  pub window_load : (A : ℕ → Bool) (x : ℕ) →
      sum (λ k. given (A (js.row k) && within x k) (tb.C (js.row k))) js.N ≤ load upto tb A x
  unfolding load count
  window_load A x =
      let asks : ℕ → ℕ = λ k. given (A (js.row k) && within x k) (tb.C (js.row k)) in
      let of : ℕ → ℕ → ℕ = λ j k. given (eqb (js.row k) j) (asks k) in
      let row : (j : ℕ) → j < tb.n → sum (of j) js.N ≤ given (A j) (upto x (tb.T j) * tb.C j) =
      λ j l. by_bool (A j)
      (λ a.
      let le = sum_le (of j) (λ k. given (mine j x k) 1 * tb.C j) js.N (λ k _. each j k a) in
      let times = sum_mul (λ k. given (mine j x k) 1) (tb.C j) js.N in
      rw a (omega (arith, mul-le-mul_right (tb.C j) (count_window j x l))))
      (λ a. omega (arith, sum_zero (of j) js.N (λ k _. none j k a))) in
      omega (arith, sum_swap js.row asks tb.n js.N lawful.row, sum_le _ _ tb.n row)
    where
      each : (j k : ℕ) → A j ≡ true →
          given (eqb (js.row k) j) (given (A (js.row k) && within x k) (tb.C (js.row k)))
          ≤ given (mine j x k) 1 * tb.C j
      each j k a =
          by_eq (js.row k) j
          (λ e.
          rw (e, eq-eqb j j refl, a)
          (by_bool (within x k) (λ w. rw w (omega arith)) (λ w. rw w (omega arith))))
          (λ e. rw (ne_eqb _ _ e) (omega arith))

      none : (j k : ℕ) → A j ≡ false → given (eqb (js.row k) j)
          (given (A (js.row k) && within x k) (tb.C (js.row k))) ≡ 0
      none j k a = by_eq (js.row k) j (λ e. rw (e, a, eq-eqb j j refl)) (λ e. rw (ne_eqb (js.row k) j e))
