-- The answers of `times` and `verdict`: document 01, "What is delivered", "Times output" and "Numbers of refusal".
use Rattle.std.specs.Prelude.{ℕ, ◌*◌, ◌≤◌, ◌<◌, ◌≡◌, ◌⊎◌, List, [], ◌∷◌, length, get_or, drop}
use Rattle.tables.specs.Table.{Table, table_of}
use Rattle.tables.specs.Plan.{Plan, plan_of}
use Rattle.tables.specs.Refusal.{Check, Result, bare, Answered}
use Rattle.tables.specs.Checks.{plan_form, room, table_checks}
use Rattle.test.specs.Test.{horizon, BusyWithin, Active, ResponseOf, Passes, above, blocking}

-- 4, "no busy period": the table has none of at most H ticks, place 0
abbrev pub no_busy : Table → Check
no_busy tb = record { number = 4; hits = λ place. (place ≡ 0) × (BusyWithin tb → ⊥) }

-- "The test, in whole ticks", "part of the promise": row i has an active period of at most H, and R is no less than
-- the row's C and no more than H
pub record Bounded (tb : Table) (p : Plan) (i R : ℕ) : Type 0 where
  pub period : ℕ
  pub active : Active tb (above p (p.rank i)) (blocking tb p (p.rank i)) i period
  pub within : period ≤ horizon
  pub low : tb.C i ≤ R
  pub high : R ≤ horizon

-- "Times output", "one number a row": its response
abbrev pub times_width : ℕ
times_width = 1

-- the response that an output of times has for row i; 0 for a number past the end
abbrev pub time_in : List ℕ → ℕ → ℕ
time_in out i = get_or out (times_width * i) 0

-- "Times output": one number for each row of the table is given, in the place of row i the response of row i with its
-- bounds; the output is as long as before, and "the remainder unchanged" behind them
pub record TimesGiven (tb : Table) (p : Plan) (out : List ℕ) (value : ℕ) (after : List ℕ) : Type 0 where
  pub many : value ≡ times_width * tb.n
  pub responses : (i : ℕ) → i < tb.n → ResponseOf tb p i (time_in after i)
  pub bounded : (i : ℕ) → i < tb.n → Bounded tb p i (time_in after i)
  pub whole : length after ≡ length out
  pub rest : drop (times_width * tb.n) after ≡ drop (times_width * tb.n) out

-- times: the checks 1, 3, 6, 2 and 4 in this order, with a place of the output for each number; then the responses
abbrev pub times_rest : List ℕ → List ℕ → Table → List Check
times_rest ps out tb = plan_form tb ps ∷ room (times_width * tb.n) out ∷ no_busy tb ∷ []

abbrev pub times_checks : List ℕ → List ℕ → List ℕ → List Check
times_checks xs ps out = table_checks xs (times_rest ps out)

abbrev pub TimesAnswer : List ℕ → List ℕ → List ℕ → Result → Type 0
TimesAnswer xs ps out r =
    Answered bare (times_checks xs ps out) (TimesGiven (table_of xs) (plan_of ps) out) out r

-- "yes" is the value 1, where the plan passes, and "no" the value 0, where it does not; no output is lent
pub record VerdictGiven (tb : Table) (p : Plan) (value : ℕ) (after : List ℕ) : Type 0 where
  pub said : ((value ≡ 1) × Passes tb p) ⊎ ((value ≡ 0) × (Passes tb p → ⊥))
  pub unlent : after ≡ []

-- verdict: the checks 1, 3, 6 and 4 in this order; then yes or no
abbrev pub verdict_rest : List ℕ → Table → List Check
verdict_rest ps tb = plan_form tb ps ∷ no_busy tb ∷ []

abbrev pub verdict_checks : List ℕ → List ℕ → List Check
verdict_checks xs ps = table_checks xs (verdict_rest ps)

abbrev pub VerdictAnswer : List ℕ → List ℕ → Result → Type 0
VerdictAnswer xs ps r = Answered bare (verdict_checks xs ps) (VerdictGiven (table_of xs) (plan_of ps)) [] r
