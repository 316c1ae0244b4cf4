-- `read_region` meets its contract: two numbers, one behind the other.
use Rattle.reading.proofs.Pieces.{stuck_first, alike_stuck}
use Rattle.reading.proofs.Cursors.{past_stuck}
use Rattle.sheet.specs.inside.Read.{spaced, ended, ReadsRegion}
use Rattle.sheet.proofs.Lines.{region_alike, code_spaced}
use Rattle.sheet.proofs.Reading.{some_length, hands_on}
use Rattle.sheet.proofs.read_region.Goals as goal

pub returns-in_err-start : goal.returns-in_err-start
returns-in_err-start c =
    hands_on (ReadsRegion _ _) c.from_residual.ensures
    (alike_stuck region_alike
    (stuck_first (spaced 0) (λ _. ended) c.in_err-start.ensures.stuck (λ _ _. some_length)))

pub returns-in_err-length : goal.returns-in_err-length
returns-in_err-length c =
    hands_on (ReadsRegion _ _) c.from_residual-in_err-length.ensures
    (alike_stuck region_alike
    (past_stuck (λ _. ended) c.in_ok-start.ensures (code_spaced 0) c.in_err-length.ensures.stuck))
