-- The rows of a plan as pairs: what stands in the i-th of those that the plan is cut into.
use Rattle.std.proofs.Common.{ℕ, zero, suc, ◌+◌, ◌*◌, ◌<◌, ◌≡◌, List, [], get_or, take, drop, arith, refl}
use Rattle.std.proofs.Common.{ap, ◌∙◌, drop-drop, get_or-take, get_or-drop}
use Rattle.std.specs.Simd.{first_chunks}
use Rattle.tables.specs.Plan.{plan_width}
use Rattle.responses.specs.inside.Asked.{plan_rows}

pair_at : (k i : ℕ) (xs : List ℕ) → i < k →
    get_or (first_chunks plan_width k xs) i [] ≡ take plan_width (drop (plan_width * i) xs)
pair_at zero i xs h = absurd (omega arith)
pair_at (suc k) zero xs h = refl
pair_at (suc k) (suc i) xs h =
    let e : plan_width * suc i ≡ plan_width + plan_width * i = omega arith in
    let rest = drop-drop (plan_width * i) plan_width xs in
    rw e (pair_at k i (drop plan_width xs) (omega arith) ∙ ap (take plan_width) rest)

module _ (plan : List ℕ) {rows : List (List ℕ)} (e : rows ≡ first_chunks plan_width (plan_rows plan) plan) (i : ℕ)
    (h : i < plan_rows plan) where
  number : (j p : ℕ) → j < plan_width → plan_width * i + j ≡ p → get_or (get_or rows i []) j 0 ≡ get_or plan p 0
  number j p l is =
      ap (λ r. get_or r j 0) (ap (λ rs. get_or rs i []) e ∙ pair_at (plan_rows plan) i plan h)
      ∙ get_or-take plan_width (drop (plan_width * i) plan) j 0 l
      ∙ get_or-drop (plan_width * i) plan j 0
      ∙ ap (λ m. get_or plan m 0) is

  pub rank_in : get_or (get_or rows i []) 0 0 ≡ get_or plan (plan_width * i) 0
  rank_in = number 0 (plan_width * i) (omega arith) (omega arith)

  pub len_in : get_or (get_or rows i []) 1 0 ≡ get_or plan (plan_width * i + 1) 0
  len_in = number 1 (plan_width * i + 1) (omega arith) refl
