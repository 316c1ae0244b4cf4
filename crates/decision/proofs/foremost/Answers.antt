-- `foremost` meets its contract: what is found is the first place whose row waits, and no row before it does.
use Rattle.std.proofs.Common.{ℕ, ◌≤◌, ◌<◌, get_or, rules, tests}
use Rattle.std.proofs.lemmas.Iterator.{first_from_Range}
use Rattle.decision.specs.inside.Decision.{job_in}
use Rattle.decision.proofs.foremost.Goals as goal

pub returns : goal.returns
returns c =
    let job : ℕ → ℕ = λ r. job_in c.args.heads.now (get_or c.args.order.now r 0) in
    let found = first_from_Range _ _ _ _ (λ r. job r < c.args.next) (λ r. c.args.next ≤ job r) c.find.ensures.ran
    (λ x q k. search (rules, tests)) (λ x q k. (search rules, search (rules, tests))) in
    search rules
