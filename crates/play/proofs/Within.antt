-- Every finish tick that play gives is at most 1,000,000 + 4,096 × 1,000,000: document 01, "Finish output".
use Prim.Native.Nat.{ℕ, ◌+◌, ◌*◌, ◌≤◌, ◌<◌}
use mathlib.Core.Path.{◌≡◌, refl}
use mathlib.Core.List.{List}
use native.Mathlib.Omega.{arith}
use lib.ListN.{get_or}
use Rattle.tables.specs.Table.{table_of, most}
use Rattle.tables.specs.Plan.{plan_of}
use Rattle.tables.specs.Jobs.{jobs_of, most_jobs, last_release}
use Rattle.tables.specs.Refusal.{Result, bare}
use Rattle.tables.proofs.Answered.{granted, clear_at}
use Rattle.tables.proofs.Clear.{sound_of_clear, jobs_of_clear}
use Rattle.kernel.specs.Answers.{PlayGiven, play_checks, PlayAnswer}
use Rattle.kernel.proofs.Finishing.{finish_exists, finish_unique}

pub finishes_within : (xs ps js out : List ℕ) (r : Result) → PlayAnswer xs ps js out r → r.number ≡ 0 →
    (k : ℕ) → k < (jobs_of js).N → get_or r.out k 0 ≤ last_release + most_jobs * most
finishes_within xs ps js out r answer zero k l =
    let tb = table_of xs in
    let p = plan_of ps in
    let J = jobs_of js in
    let cs = play_checks xs ps js out in
    let g = granted bare cs (PlayGiven tb p J out) out r refl zero answer in
    let c = g.0 in
    let f = finish_exists tb p J (sound_of_clear xs (clear_at 1 cs c) (clear_at 3 cs c))
    (jobs_of_clear tb js (clear_at 7 cs c) (clear_at 8 cs c)) k l in
    omega (arith, finish_unique tb p J k (get_or r.out k 0) f.0 (g.1.given.finishes k l) f.1, f.2)
