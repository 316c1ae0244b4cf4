-- `following` meets its contract: what is found is the first job of row i, and no job before it is.
use Rattle.std.proofs.Common.{◌≡◌, rules, tests}
use Rattle.std.proofs.lemmas.Iterator.{first_from_Range}
use Rattle.tables.specs.Jobs.{jobs_of}
use Rattle.decision.proofs.First.{first_or_end}
use Rattle.decision.proofs.following.Goals as goal

pub returns : goal.returns
returns c =
    let js = jobs_of c.args.jobs.now in
    let i = c.args.i in
    let found = first_from_Range _ _ _ _ (λ k. js.row k ≡ i) (λ k. js.row k ≡ i → ⊥) c.find.ensures.ran
    (λ x q k. search (rules, tests)) (λ x q k. (search rules, search (rules, tests))) in
    let first = first_or_end c.requires c.find.result found in
    search rules
