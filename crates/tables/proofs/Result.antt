-- A refusal as the result that it stands for.
use Prim.Native.Nat.{ℕ}
use mathlib.Core.Path.{◌≡◌, refl}
use mathlib.Core.List.{List}
use Rattle.std.proofs.Common.{Err}
use Rattle.tables.specs.Refusal.{Check, bare, Refused}
use Rattle.tables.specs.Answer.{refusal_number, refusal_place, result_of}
use Rattle.tables.specs.declared.answer.Refusal.{Refusal}

-- a refusal with the check's number, at a place where it hits, and nothing written
pub refuse : (c : Check) (out : List ℕ) (r : Refusal) → refusal_number r ≡ c.number → c.hits (refusal_place r) →
    Refused bare c out (result_of (Err r) out)
refuse c out r n h = record { number = n; place = h; value = refl; unwritten = refl }
