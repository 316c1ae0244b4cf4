-- What `times` and `verdict` give, once the checks are clear, from what the responses say.
use Prim.Native.Nat.{ℕ, ◌*◌, ◌<◌}
use mathlib.Core.Path.{◌≡◌, refl, sym, subst}
use mathlib.Core.Bool.{Bool, true, false}
use mathlib.Core.Logic.{inl, inr}
use mathlib.Core.List.{List, []}
use native.Mathlib.Omega.{arith}
use lib.ListN.{get_or}
use Rattle.std.specs.Int.{from_bool}
use Rattle.tables.specs.Table.{Table, Sound}
use Rattle.tables.specs.Plan.{Plan, plan_of}
use Rattle.tables.specs.Refusal.{Clear, Granted}
use Rattle.tables.specs.Checks.{plan_form}
use Rattle.tables.specs.Answer.{result_of}
use Rattle.tables.specs.inside.Checked.{Says}
use Rattle.std.proofs.Common.{Ok}
use Rattle.test.specs.Test.{BusyWithin, Passes, ResponseOf}
use Rattle.test.specs.Answers.{TimesGiven, VerdictGiven, times_width, time_in}
use Rattle.responses.specs.inside.Asked.{Planned, Responses}
use Rattle.tables.proofs.Clear.{plan_of_clear}
use Rattle.test.proofs.Response.{response_unique}
use Rattle.test.proofs.Plans.{plan_bounded}
use Rattle.times.specs.inside.Given.{Written, InTime}

-- what the responses ask for
pub planned : {tb : Table} {ps : List ℕ} → Sound tb → Clear (plan_form tb ps) → BusyWithin tb → Planned tb ps
planned {tb} {ps} sound form busy =
    let p = plan_of_clear tb ps form in
    record { sound = sound; busy = busy; whole = p.0; plan = p.1 }

pub times_given : {tb : Table} {ps out rs after : List ℕ} → Planned tb ps → Responses tb (plan_of ps) rs →
    Written rs tb.n out after → Granted (TimesGiven tb (plan_of ps) out)
    (result_of (Ok (times_width * tb.n)) after)
times_given {tb} {ps} {out} {rs} {after} p rights w = record { number = refl; place = refl; given = given }
  where
    here : (i : ℕ) → i < tb.n → ResponseOf tb (plan_of ps) i (time_in after i)
    here i l = subst (ResponseOf tb (plan_of ps) i) (sym (w.front i l)) (rights.each i l)

    given : TimesGiven tb (plan_of ps) out (times_width * tb.n) after
    given =
        record {
          many = refl;
          responses = here;
          bounded = λ i l. plan_bounded tb p.sound p.busy (plan_of ps) p.plan i l (time_in after i) (here i l);
          whole = w.whole;
          rest = w.rest;
        }

module _ {tb : Table} {p : Plan} {rs : List ℕ} (rights : Responses tb p rs) where
  pub verdict_yes : InTime tb rs → Granted (VerdictGiven tb p) (result_of (Ok 1) [])
  verdict_yes all = record { number = refl; place = refl; given = record { said = inl (refl, pass); unlent = refl } }
    where
      pass : Passes tb p
      pass i l = record { R = get_or rs i 0; response = rights.each i l; within = all i l }

  pub verdict_no : (InTime tb rs → ⊥) → Granted (VerdictGiven tb p) (result_of (Ok 0) [])
  verdict_no some =
      record { number = refl; place = refl; given = record { said = inr (refl, λ x. some (late x)); unlent = refl } }
    where
      late : Passes tb p → InTime tb rs
      late pass i l =
          let x = pass i l in
          omega (arith, x.within, response_unique tb _ _ i _ (get_or rs i 0) x.R (rights.each i l) x.response)

  -- the value is 1 for yes and 0 for no
  pub verdict_given : (v : ℕ) (b : Bool) → v ≡ from_bool b → Says b (InTime tb rs) →
      Granted (VerdictGiven tb p) (result_of (Ok v) [])
  verdict_given v true e all = rw e (verdict_yes all)
  verdict_given v false e some = rw e (verdict_no some)
