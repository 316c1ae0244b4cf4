-- The struct that says an answer stands for the answer's own result, and one result has one struct.
use mathlib.Core.Path.{◌≡◌, refl, ap}
use mathlib.Core.List.{List}
use Prim.Native.Nat.{ℕ}
use Rattle.tables.specs.Answer.{Answer, Tells, result_of}
use Rattle.tables.specs.Refusal.{Result}
use Rattle.tables.specs.declared.answer.Said.{Said}
use Rattle.tables.proofs.Answered.{result_same}
use Rattle.templetbark.specs.Said.{said_of}

-- what holds of the answer's result holds of what is said
pub said : (P : Result → Type 0) (a : Answer) (s : Said) (out : List ℕ) → Tells a s → P (result_of a out) →
    P (said_of s out)
said P a s out e h = rw (result_same (said_of s out) (result_of a out) e.0 e.1 e.2 refl) h

-- where an operation has one result, it says one struct and leaves one later content of its output
pub said_once : (r s : Said) (l m : List ℕ) → said_of r l ≡ said_of s m → (r ≡ s) × (l ≡ m)
said_once r s l m e =
    ((λ i. record { number = (e i).number; place = (e i).place; value = (e i).value }), ap (λ (x : Result). x.out) e)
