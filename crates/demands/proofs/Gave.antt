-- What is known of an operation that answered with the number 0: its input came past every check, and it gave what it
-- promises.
use Prim.Native.Nat.{ℕ, ◌≤◌}
use mathlib.Core.Path.{◌≡◌, refl}
use mathlib.Core.List.{List, []}
use native.Mathlib.Omega.{arith}
use Rattle.counting.proofs.Cases.{by_le}
use Rattle.tables.specs.Table.{Table, Sound, table_of}
use Rattle.tables.specs.Plan.{Plan, WellFormed, plan_of}
use Rattle.tables.specs.Jobs.{Lawful, jobs_of}
use Rattle.tables.specs.Refusal.{Check, Clear, Result, bare}
use Rattle.tables.specs.Checks.{shape, range, table_checks}
use Rattle.tables.proofs.Answered.{AllClear, granted, clear_at}
use Rattle.tables.proofs.Clear.{sound_of_clear, plan_of_clear, jobs_of_clear}
use Rattle.test.specs.Test.{BusyWithin}
use Rattle.test.proofs.Load.{sound_positive}
use Rattle.test.specs.Answers.{no_busy, times_rest, times_checks, TimesAnswer, TimesGiven}
use Rattle.test.specs.Answers.{verdict_rest, verdict_checks, VerdictAnswer, VerdictGiven}
use Rattle.choice.specs.Answers.{planned_of, plan_rest, plan_checks, PlanAnswer, PlanGiven}
use Rattle.choice.proofs.Complete.{chosen_well_formed}
use Rattle.kernel.specs.Answers.{play_rest, play_checks, PlayAnswer, PlayGiven}

-- past the checks of the table
pub record TableTaken (xs : List ℕ) : Type 0 where
  pub shaped : Clear (shape xs)
  pub ranged : Clear (range xs)
  pub sound : Sound (table_of xs)

taken : (xs : List ℕ) (rest : Table → List Check) → AllClear (table_checks xs rest) → TableTaken xs
taken xs rest all =
    let s = clear_at 1 (table_checks xs rest) all in
    let r = clear_at 3 (table_checks xs rest) all in
    record { shaped = s; ranged = r; sound = sound_of_clear xs s r }

-- past the other checks of plan, times or verdict: p is the plan that was written or lent
pub record Gave (xs : List ℕ) (p : Plan) (Given : ℕ → List ℕ → Type 0) (r : Result) : Type 0 where
  pub table : TableTaken xs
  pub plan : WellFormed (table_of xs) p
  pub busy : Clear (no_busy (table_of xs))
  pub given : Given r.value r.out

abbrev pub PlanGave : List ℕ → List ℕ → Result → Type 0
PlanGave xs out r = Gave xs (planned_of r.out) (PlanGiven (table_of xs) out) r

pub plan_gave : (xs out : List ℕ) (r : Result) → PlanAnswer xs out r → r.number ≡ 0 → PlanGave xs out r
plan_gave xs out r a zero =
    let tb = table_of xs in
    let cs = plan_checks xs out in
    let g = granted bare cs (PlanGiven tb out) out r refl zero a in
    let t = taken xs (plan_rest out) g.0 in
    let wf = chosen_well_formed tb (sound_positive tb t.sound) (planned_of r.out) g.1.given.chosen in
    record { table = t; plan = wf; busy = clear_at 4 cs g.0; given = g.1.given }

pub times_gave : (xs ps out : List ℕ) (r : Result) → TimesAnswer xs ps out r → r.number ≡ 0 →
    Gave xs (plan_of ps) (TimesGiven (table_of xs) (plan_of ps) out) r
times_gave xs ps out r a zero =
    let tb = table_of xs in
    let cs = times_checks xs ps out in
    let g = granted bare cs (TimesGiven tb (plan_of ps) out) out r refl zero a in
    record {
      table = taken xs (times_rest ps out) g.0;
      plan = (plan_of_clear tb ps (clear_at 6 cs g.0)).1;
      busy = clear_at 4 cs g.0;
      given = g.1.given;
    }

pub verdict_gave : (xs ps : List ℕ) (r : Result) → VerdictAnswer xs ps r → r.number ≡ 0 →
    Gave xs (plan_of ps) (VerdictGiven (table_of xs) (plan_of ps)) r
verdict_gave xs ps r a zero =
    let tb = table_of xs in
    let cs = verdict_checks xs ps in
    let g = granted bare cs (VerdictGiven tb (plan_of ps)) [] r refl zero a in
    record {
      table = taken xs (verdict_rest ps) g.0;
      plan = (plan_of_clear tb ps (clear_at 6 cs g.0)).1;
      busy = clear_at 4 cs g.0;
      given = g.1.given;
    }

pub record PlayGave (xs ps js out : List ℕ) (r : Result) : Type 0 where
  pub table : TableTaken xs
  pub plan : WellFormed (table_of xs) (plan_of ps)
  pub jobs : Lawful (table_of xs) (jobs_of js)
  pub given : PlayGiven (table_of xs) (plan_of ps) (jobs_of js) out r.value r.out

pub play_gave : (xs ps js out : List ℕ) (r : Result) → PlayAnswer xs ps js out r → r.number ≡ 0 →
    PlayGave xs ps js out r
play_gave xs ps js out r a zero =
    let tb = table_of xs in
    let cs = play_checks xs ps js out in
    let g = granted bare cs (PlayGiven tb (plan_of ps) (jobs_of js) out) out r refl zero a in
    record {
      table = taken xs (play_rest ps js out) g.0;
      plan = (plan_of_clear tb ps (clear_at 6 cs g.0)).1;
      jobs = (jobs_of_clear tb js (clear_at 7 cs g.0) (clear_at 8 cs g.0)).lawful;
      given = g.1.given;
    }

-- an order that follows from a busy period within H holds where refusal 4 is not given
pub under_busy : (xs : List ℕ) → Clear (no_busy (table_of xs)) → (a b : ℕ) → (BusyWithin (table_of xs) → a ≤ b) → a ≤ b
under_busy xs clear a b f = by_le a b (λ h. h) (λ h. absurd (clear 0 (refl, λ w. omega (arith, f w))))
