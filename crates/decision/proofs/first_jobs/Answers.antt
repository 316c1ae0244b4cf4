-- `first_jobs` meets its contract: before the first row every place holds 0.
use mathlib.Core.Path.{refl, ap}
use native.Mathlib.Omega.{arith}
use Rattle.tables.proofs.Rows.{holds_none}
use Rattle.tables.specs.Table.{most_rows}
use Rattle.decision.specs.declared.Head.{Head}
use Rattle.decision.specs.inside.Decision.{no}
use Rattle.decision.proofs.first_jobs.Goals as goal

pub loop-i-init : goal.loop-i-init
loop-i-init c =
    let zeros = (holds_none {A = Head} no (λ _. no) most_rows).past in (
      omega arith,
      refl,
      λ j h. absurd (omega arith),
      λ j h. ap (λ head. head.job) (zeros j (omega arith)),
      λ j. ap (λ head. head.done) (zeros j (omega arith)),
    )
