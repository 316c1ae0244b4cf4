-- Any two answers that the promises of `times`, `verdict` and `check_busy` allow are equal.
use Prim.Native.Nat.{ℕ, ◌*◌, ◌/◌, ◌<◌}
use mathlib.Core.Path.{◌≡◌, sym, ap, ◌∙◌}
use mathlib.Core.Logic.{⊎_elim}
use mathlib.Core.List.{List, [], ◌∷◌}
use native.Mathlib.Omega.{arith}
use lib.ListN.{get_or}
use lib.Seq.{ext_get_or}
use Rattle.std.proofs.Common.{Ok, Err}
use Rattle.std.specs.Prelude.{Result as OkOrErr}
use Rattle.tables.specs.Table.{Table, table_of}
use Rattle.tables.specs.Plan.{Plan, plan_of}
use Rattle.tables.specs.Refusal.{Result}
use Rattle.test.specs.Answers.{no_busy, TimesGiven, VerdictGiven, TimesAnswer, VerdictAnswer, times_width}
use Rattle.test.specs.Answers.{time_in, times_checks, verdict_checks}
use Rattle.tables.specs.declared.answer.Refusal.{Refusal}
use Rattle.times.specs.inside.Given.{BusyChecked}
use Rattle.counting.proofs.Cases.{by_le}
use Rattle.counting.proofs.Least.{least_unique}
use Rattle.tables.proofs.Answered.{OnePlace, OneGiven, bare_one, answered_unique, same_rest, shape_place, range_place}
use Rattle.tables.proofs.Answered.{plan_form_place, room_place}
use Rattle.tables.proofs.Unique.{refused_by_unique, refused_not_clear}
use Rattle.test.proofs.Response.{response_unique}
use Rattle.times.proofs.Busy.{busy_clear, busy_within}

pub no_busy_place : (tb : Table) → OnePlace (no_busy tb)
no_busy_place tb a b h g = h.0 ∙ sym g.0

pub busy_checked_unique : (tb : Table) (a b : OkOrErr ℕ Refusal) → BusyChecked tb a → BusyChecked tb b → a ≡ b
busy_checked_unique tb (Ok t) (Ok u) p q = ap Ok (least_unique p.0 q.0)
busy_checked_unique tb (Ok t) (Err s) p q =
    absurd (refused_not_clear (no_busy tb ∷ []) s q (busy_clear (busy_within t p), tt))
busy_checked_unique tb (Err r) (Ok u) p q =
    absurd (refused_not_clear (no_busy tb ∷ []) r p (busy_clear (busy_within u q), tt))
busy_checked_unique tb (Err r) (Err s) p q =
    ap Err (refused_by_unique (no_busy tb ∷ []) (no_busy_place tb, tt) r s p q)

times_given_one : (tb : Table) (p : Plan) (out : List ℕ) → OneGiven (TimesGiven tb p out)
times_given_one tb p out v w l m a b = (
  a.many ∙ sym b.many,
  ext_get_or 0 l m (a.whole ∙ sym b.whole)
      (λ k _. by_le (times_width * tb.n) k
      (λ h. same_rest (times_width * tb.n) l m (a.rest ∙ sym b.rest) k h)
      (λ h. front k h)),
)
  where
    -- a number in front is a row's response
    front : (k : ℕ) → k < times_width * tb.n → get_or l k 0 ≡ get_or m k 0
    front k h =
        let i = k / times_width in
        let e : k ≡ times_width * i = omega arith in
        let g : i < tb.n = omega arith in
        rw e (response_unique tb _ _ i _ (time_in l i) (time_in m i) (a.responses i g) (b.responses i g))

verdict_given_one : (tb : Table) (p : Plan) → OneGiven (VerdictGiven tb p)
verdict_given_one tb p v w l m a b = (
  ⊎_elim
      (λ t. ⊎_elim (λ u. t.0 ∙ sym u.0) (λ u. absurd (u.1 t.1)) b.said)
      (λ t. ⊎_elim (λ u. absurd (t.1 u.1)) (λ u. t.0 ∙ sym u.0) b.said)
      a.said,
  a.unlent ∙ sym b.unlent,
)

pub times_unique : (xs ps out : List ℕ) (r s : Result) → TimesAnswer xs ps out r → TimesAnswer xs ps out s →
    r ≡ s
times_unique xs ps out r s =
    let tb = table_of xs in
    answered_unique bare_one (times_checks xs ps out) (TimesGiven tb (plan_of ps) out) out r s
    (search (shape_place, range_place, plan_form_place, room_place, no_busy_place, tt))
    (λ _. times_given_one tb (plan_of ps) out)

pub verdict_unique : (xs ps : List ℕ) (r s : Result) → VerdictAnswer xs ps r → VerdictAnswer xs ps s → r ≡ s
verdict_unique xs ps r s =
    let tb = table_of xs in
    answered_unique bare_one (verdict_checks xs ps) (VerdictGiven tb (plan_of ps)) [] r s
    (search (shape_place, range_place, plan_form_place, no_busy_place, tt))
    (λ _. verdict_given_one tb (plan_of ps))
