-- Laws of the planned table, as it is written part by part and as it is read row by row.
use Prim.Native.Nat.{ℕ, zero, suc, ◌+◌, ◌*◌, ◌-◌, ◌≤◌, ◌<◌}
use mathlib.Core.Path.{◌≡◌, refl, ap, sym, ◌∙◌}
use mathlib.Core.List.{List, [], ◌++◌, append_assoc}
use native.Mathlib.Numerals.{add-one}
use native.Mathlib.Omega.{arith}
use lib.ListN.{length, get_or, drop, length-append, length-drop, get_or-append}
use lib.Seq.{take_at, drop_at, drop-drop, get_or-append-add}
use borrow.Rule.Slice.PartMut.{put_mid}
use Rattle.counting.proofs.Cases.{by_eq}
use Rattle.tables.specs.Plan.{plan_width}
use Rattle.tables.specs.Planned.{planned_width}
use Rattle.planned.specs.inside.Planned.{row, planned}

-- a part that comes back behind a front p
behind : (p r ys : List ℕ) (a k : ℕ) → length p ≡ a → put_mid a k (p ++ r) ys ≡ (p ++ ys) ++ drop k r
behind p r ys a k h = rw (take_at p r a h, drop_at p r a h, append_assoc)

module _ (ps ts : List ℕ) where
  abbrev row_of : ℕ → List ℕ
  row_of i = row (get_or ps (plan_width * i) 0) (get_or ps (plan_width * i + 1) 0) (get_or ts i 0)

  pub length_planned : (n : ℕ) → length (planned ps ts n) ≡ planned_width * n
  unfolding planned
  length_planned zero = refl
  length_planned (suc n) = simp length-append (let e = length_planned n in omega arith)

  pub planned_none : planned ps ts 0 ≡ []
  unfolding planned
  planned_none = refl

  planned_next : (i : ℕ) → planned ps ts (suc i) ≡ planned ps ts i ++ row_of i
  unfolding planned
  planned_next i = refl

  -- one row more: what a turn of the loop does
  pub planned_more : (o : List ℕ) (i : ℕ) →
      put_mid (planned_width * i) (planned_width * i + planned_width - planned_width * i)
      (planned ps ts i ++ drop (planned_width * i) o) (row_of i)
      ≡ planned ps ts (i + 1) ++ drop (planned_width * (i + 1)) o
  planned_more o i =
      let k : planned_width * i + planned_width - planned_width * i ≡ planned_width = omega arith in
      let m : planned_width * (i + 1) ≡ planned_width * i + planned_width = omega arith in
      rw (k, m, add-one i, planned_next i, ← drop-drop planned_width (planned_width * i) o)
      (behind (planned ps ts i) (drop (planned_width * i) o) (row_of i) (planned_width * i) planned_width
      (length_planned i))

  -- row i of n, read at its place
  pub planned_at : (n i x : ℕ) → i < n → x < planned_width →
      get_or (planned ps ts n) (planned_width * i + x) 0 ≡ get_or (row_of i) x 0
  planned_at zero i x h l = absurd (omega arith)
  planned_at (suc n) i x h l =
      by_eq i n
      (λ e. rw (planned_next n, e, ← length_planned n)
      (get_or-append-add (planned ps ts n) (row_of n) x 0 ∙ ap (λ k. get_or (row_of k) x 0) (sym e)))
      (λ e. rw (planned_next n) (get_or-append (planned ps ts n) (row_of n) 0 (planned_width * i + x)
      (omega (arith, length_planned n)) ∙ planned_at n i x (omega arith) l))

  module _ (n : ℕ) (out : List ℕ) (fits : planned_width * n ≤ length out) where
    pub written_whole : length (planned ps ts n ++ drop (planned_width * n) out) ≡ length out
    written_whole = simp (length-append, length-drop) (omega (arith, length_planned n))

    pub written_rest : drop (planned_width * n) (planned ps ts n ++ drop (planned_width * n) out)
        ≡ drop (planned_width * n) out
    written_rest = drop_at (planned ps ts n) (drop (planned_width * n) out) (planned_width * n) (length_planned n)

    pub written_at : (i x : ℕ) → i < n → x < planned_width →
        get_or (planned ps ts n ++ drop (planned_width * n) out) (planned_width * i + x) 0
        ≡ get_or (row_of i) x 0
    written_at i x h l =
        get_or-append (planned ps ts n) (drop (planned_width * n) out) 0 (planned_width * i + x)
        (omega (arith, length_planned n))
        ∙ planned_at n i x h l
