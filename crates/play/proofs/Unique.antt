-- Any two answers that play's promise allows are equal.
use Prim.Native.Nat.{ℕ, ◌<◌}
use mathlib.Core.Path.{◌≡◌, sym, ◌∙◌}
use mathlib.Core.List.{List}
use lib.ListN.{length, get_or}
use lib.Seq.{ext_get_or}
use Rattle.counting.proofs.Cases.{by_le}
use Rattle.tables.specs.Table.{Table, table_of}
use Rattle.tables.specs.Plan.{Plan, plan_of}
use Rattle.tables.specs.Jobs.{Jobs, jobs_of}
use Rattle.tables.specs.Refusal.{Result}
use Rattle.tables.proofs.Answered.{OneGiven, bare_one, answered_unique, same_rest, shape_place, range_place}
use Rattle.tables.proofs.Answered.{plan_form_place}
use Rattle.tables.proofs.Answered.{jobs_shape_place, job_rules_place, room_place}
use Rattle.kernel.specs.Answers.{PlayGiven, play_checks, PlayAnswer}
use Rattle.kernel.proofs.Finishing.{finish_unique}

-- one finish tick a job, and the remainder unchanged
finishes_unique : (tb : Table) (p : Plan) (js : Jobs) (out : List ℕ) → OneGiven (PlayGiven tb p js out)
finishes_unique tb p js out v w l m a b = (a.many ∙ sym b.many, ext_get_or 0 l m (a.whole ∙ sym b.whole) same)
  where
    same : (k : ℕ) → k < length l → get_or l k 0 ≡ get_or m k 0
    same k _ =
        by_le js.N k (same_rest js.N l m (a.rest ∙ sym b.rest) k)
        (λ h. finish_unique tb p js k (get_or l k 0) (get_or m k 0) (a.finishes k h) (b.finishes k h))

pub play_unique : (xs ps js out : List ℕ) (r s : Result) → PlayAnswer xs ps js out r →
    PlayAnswer xs ps js out s → r ≡ s
play_unique xs ps js out r s =
    let tb = table_of xs in
    answered_unique bare_one (play_checks xs ps js out) (PlayGiven tb (plan_of ps) (jobs_of js) out) out r s
    (search (shape_place, range_place, plan_form_place, jobs_shape_place, job_rules_place, room_place, tt))
    (λ _. finishes_unique tb (plan_of ps) (jobs_of js) out)
