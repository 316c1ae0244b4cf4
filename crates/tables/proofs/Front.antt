-- The front that the operations share, as answers: the checks that they begin with refuse, or are clear and leave the
-- answer to the rest.
use Prim.Native.Nat.{ℕ, ◌≤◌, ◌<◌}
use mathlib.Core.Path.{refl, subst}
use mathlib.Core.Logic.{◌⊎◌, inl, ⊎_elim}
use mathlib.Core.List.{List, [], ◌∷◌}
use native.Mathlib.Omega.{arith}
use lib.ListN.{length}
use Rattle.std.proofs.Common.{Ok, Err}
use Rattle.tables.specs.Table.{Table, table_of}
use Rattle.tables.specs.Refusal.{Check, Clear, Result, bare, Refused}
use Rattle.tables.specs.Checks.{shape, range, room}
use Rattle.tables.specs.Answer.{result_of}
use Rattle.tables.specs.inside.Rows.{table_in}
use Rattle.tables.specs.inside.Checked.{AllClear, RefusedBy, TableChecked}
use Rattle.tables.specs.declared.answer.Refusal.{Refusal}
use Rattle.tables.specs.declared.answer.Refusal.TheVariants.{Room}
use Rattle.tables.specs.declared.task.Tasks.{Tasks}
use Rattle.tables.proofs.Answered.{◌past◌}
use Rattle.tables.proofs.Result.{refuse}

-- what answers: one of the checks, in their order, or X past all of them
abbrev pub Front : List Check → List ℕ → Result → Type 0 → Type 0
Front [] out r X = X
Front (c ∷ cs) out r X = Refused bare c out r ⊎ (Clear c × Front cs out r X)

-- a refusal by one of them answers, and where each is clear what answers behind them does
pub front_refuses : (cs : List Check) (out : List ℕ) (r : Refusal) (X : Type 0) → RefusedBy cs r →
    Front cs out (result_of (Err r) out) X
front_refuses [] out r X b = absurd b
front_refuses (c ∷ cs) out r X b =
    ⊎_elim (λ h. inl (refuse c out r h.0 h.1)) (λ h. h.0 past front_refuses cs out r X h.1) b

pub front_clear : (cs : List Check) (out : List ℕ) (r : Result) (X : Type 0) → AllClear cs → X → Front cs out r X
front_clear [] out r X clear x = x
front_clear (c ∷ cs) out r X clear x = clear.0 past front_clear cs out r X clear.1 x

-- the checks 1 and 3
module _ (xs out : List ℕ) where
  -- an answer for the table of the rows is one for the table that stands in the slice
  pub rest_answers : (tasks : Tasks) → TableChecked xs (Ok tasks) → (X : Table → Result → Type 0) {r : Result} →
      X (table_in tasks.rows tasks.n) r → Front (shape xs ∷ range xs ∷ []) out r (X (table_of xs) r)
  rest_answers tasks w X {r} x =
      front_clear (shape xs ∷ range xs ∷ []) out r (X (table_of xs) r) w.0 (subst (λ t. X t r) w.1.same x)

-- the check 2
module _ (m : ℕ) (out : List ℕ) where
  pub room_refuses : {X : Type 0} → length out < m → Refused bare (room m out) out (result_of (Err Room) out) ⊎ X
  room_refuses h = inl (refuse (room m out) out Room refl (refl, h))

  pub room_clear : m ≤ length out → Clear (room m out)
  room_clear fits place h = let l = h.1 in omega arith
