-- Any two results that the promise of a function of this crate allows are equal.
use Prim.Native.Nat.{ℕ}
use mathlib.Core.Path.{◌≡◌, refl, sym, ap, ◌∙◌}
use mathlib.Core.Bool.{Bool, true, false}
use mathlib.Core.List.{List, [], ◌∷◌}
use mathlib.Core.Logic.{⊎_elim}
use Rattle.std.proofs.Common.{Result, Ok, Err}
use Rattle.tables.specs.Table.{Table}
use Rattle.tables.specs.Jobs.{Jobs}
use Rattle.tables.specs.inside.Checked.{Says}
use Rattle.tables.specs.Checks.{jobs_shape, job_rules}
use Rattle.tables.specs.Answer.{refusal_place}
use Rattle.tables.specs.declared.answer.Refusal.{Refusal}
use Rattle.tables.proofs.Answered.{jobs_shape_place, job_rules_place}
use Rattle.tables.proofs.Unique.{refused_by_unique}
use Rattle.joblist.specs.inside.Listed.{KeepsAlone, ListSaid}

pub keeps_alone_unique : (tb : Table) (js : Jobs) (k : ℕ) (a b : Bool) → Says a (KeepsAlone tb js k) →
    Says b (KeepsAlone tb js k) → a ≡ b
keeps_alone_unique tb js k true true x y = refl
keeps_alone_unique tb js k true false x y = absurd (y x)
keeps_alone_unique tb js k false true x y = absurd (x y)
keeps_alone_unique tb js k false false x y = refl

-- where one of the two checks hits, not both are clear
not_both_clear : (tb : Table) (js : List ℕ) (m : ℕ) (r : Refusal) → ListSaid tb js (Ok m) → ListSaid tb js (Err r) → ⊥
not_both_clear tb js m r x y =
    ⊎_elim (λ h. x.1.0 (refusal_place r) h.1)
    (λ h. ⊎_elim (λ g. x.1.1.0 (refusal_place r) g.1) (λ g. g.1) h.1)
    y

pub listed_unique : (tb : Table) (js : List ℕ) (a b : Result ℕ Refusal) → ListSaid tb js a → ListSaid tb js b → a ≡ b
listed_unique tb js (Ok m) (Ok n) x y = ap Ok (x.0 ∙ sym y.0)
listed_unique tb js (Ok m) (Err s) x y = absurd (not_both_clear tb js m s x y)
listed_unique tb js (Err r) (Ok n) x y = absurd (not_both_clear tb js n r y x)
listed_unique tb js (Err r) (Err s) x y =
    ap Err (refused_by_unique (jobs_shape js ∷ job_rules tb js ∷ []) (jobs_shape_place js, (job_rules_place tb js, tt)) r s
    x y)
