-- The rows by rank: every rank has its row, and of the rows that wait the first of the order has the highest rank.
use Prim.Native.Nat.{ℕ, ◌+◌, ◌-◌, ◌≤◌, ◌<◌}
use mathlib.Core.Path.{◌≡◌, ap}
use mathlib.Core.List.{List}
use native.Mathlib.Omega.{arith}
use lib.Dec.{eqb}
use lib.ListN.{get_or}
use borrow.Author.Tests.{eqb-true}
use Rattle.counting.specs.Sum.{given, sum}
use Rattle.counting.proofs.Cases.{by_le}
use Rattle.counting.proofs.Search.{by_any}
use Rattle.counting.proofs.Sum.{given_no, sum_zero, sum_lt, sum_once, sum_swap}
use Rattle.tables.specs.Table.{Table}
use Rattle.tables.specs.Plan.{Plan, WellFormed}
use Rattle.decision.specs.declared.Head.{Head}
use Rattle.decision.specs.inside.Decision.{ByRank, job_in}

-- n numbers below n, none of them twice, are all the numbers below n
taken : (f : ℕ → ℕ) (n : ℕ) → ((i : ℕ) → i < n → f i < n) →
    ((i j : ℕ) → i < n → j < n → f i ≡ f j → i ≡ j) → (r : ℕ) → r < n → (i : ℕ) × (i < n) × (f i ≡ r)
taken f n high once r l =
    let times : ℕ → ℕ = λ s. sum (λ i. given (eqb (f i) s) 1) n in
    let few : (s : ℕ) → s < n → times s ≤ 1 =
    λ s _. sum_once (λ i. eqb (f i) s) 1 n
    (λ i j a b d e. once i j a b (omega (arith, eqb-true (f i) s d, eqb-true (f j) s e))) in
    by_any (λ i. eqb (f i) r) n
    (λ none.
    let zero : times r ≡ 0 = sum_zero (λ i. given (eqb (f i) r) 1) n (λ i a. given_no (eqb (f i) r) 1 (none i a)) in
    absurd (omega (arith, sum_lt times (λ _. 1) n r few l (omega arith), sum_swap f (λ _. 1) n n high)))
    (λ i a e. (i, a, eqb-true (f i) r e))

-- every rank of a well-formed plan has its row
pub row_of : (tb : Table) (p : Plan) → WellFormed tb p → (r : ℕ) → r < tb.n →
    (i : ℕ) × (i < tb.n) × (p.rank i ≡ r + 1)
row_of tb p wf r l =
    let low = wf.rank_low in
    let t = taken (λ i. p.rank i - 1) tb.n (λ i a. omega (arith, low i a, wf.rank_high i a))
    (λ i j a b e. wf.once i j a b (omega (arith, low i a, low j b))) r l in
    (t.0, t.1, omega (arith, low t.0 t.1))

module _ {tb : Table} {p : Plan} {order : List ℕ} (wf : WellFormed tb p) (b : ByRank tb p order) where
  -- a row stands at the place of its rank
  placed : (j : ℕ) → j < tb.n → get_or order (p.rank j - 1) 0 ≡ j
  placed j l =
      let low = wf.rank_low j l in
      let s : p.rank j - 1 < tb.n = omega (arith, wf.rank_high j l) in
      wf.once (get_or order (p.rank j - 1) 0) j (b.row _ s) l (omega (arith, b.rank _ s))

  -- a row that waits stands behind the places whose rows do not
  pub foremost_first : (heads : List Head) (next r : ℕ) → r ≤ tb.n →
      ((s : ℕ) → s < r → next ≤ job_in heads (get_or order s 0)) → (j : ℕ) → j < tb.n →
      job_in heads j < next → r < p.rank j
  foremost_first heads next r few none j l w =
      let low = wf.rank_low j l in
      let here = ap (job_in heads) (placed j l) in
      by_le (p.rank j) r (λ h. absurd (omega (arith, none (p.rank j - 1) (omega arith)))) (λ h. h)
