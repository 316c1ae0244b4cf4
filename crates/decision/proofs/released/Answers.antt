-- `released` meets its contract: what is found is the first job released after tick t, and no job before it is.
use Rattle.std.proofs.Common.{◌≤◌, ◌<◌, rules, tests}
use Rattle.std.proofs.lemmas.Iterator.{first_from_Range}
use Rattle.tables.specs.Jobs.{jobs_of}
use Rattle.decision.proofs.First.{first_or_end}
use Rattle.decision.proofs.released.Goals as goal

pub returns : goal.returns
returns c =
    let js = jobs_of c.args.jobs.now in
    let t = c.args.t in
    let found = first_from_Range _ _ _ _ (λ k. t < js.release k) (λ k. js.release k ≤ t) c.find.ensures.ran
    (λ x q k. search (rules, tests)) (λ x q k. (search rules, search (rules, tests))) in
    let first = first_or_end c.requires c.find.result found in
    search rules
