-- `read_times` meets its contract: three numbers, one behind the other, and a region behind a space.
use mathlib.Core.Path.{◌≡◌, refl}
use mathlib.Core.Logic.{⊎_elim}
use Rattle.reading.proofs.Pieces.{stuck_first}
use Rattle.reading.proofs.Cursors.{past_stuck}
use Rattle.sheet.specs.inside.Read.{spaced, spacing, region_piece, after_deadline, after_run, ReadsTimes}
use Rattle.sheet.proofs.Lines.{one_end, code_spaced, code_spacing}
use Rattle.sheet.proofs.Reading.{some_region, some_spacing, some_deadline, no_region, times_stuck, times_past}
use Rattle.sheet.proofs.Reading.{hands_on}
use Rattle.sheet.proofs.read_times.Goals as goal

pub returns-in_err-run : goal.returns-in_err-run
returns-in_err-run c =
    hands_on (ReadsTimes _ _) c.from_residual.ensures
    (stuck_first (spaced 1) (λ _. after_run) c.in_err-run.ensures.stuck (λ _ _. some_deadline))

pub returns-in_err-deadline : goal.returns-in_err-deadline
returns-in_err-deadline c =
    hands_on (ReadsTimes _ _) c.from_residual-in_err-deadline.ensures
    (past_stuck (λ _. after_run) c.in_ok-run.ensures (code_spaced 1)
    (stuck_first (spaced 1) (λ _. after_deadline) c.in_err-deadline.ensures.stuck (λ _ _. some_spacing)))

pub returns-in_err-spacing : goal.returns-in_err-spacing
returns-in_err-spacing c =
    hands_on (ReadsTimes _ _) c.from_residual-in_err-spacing.ensures
    (times_stuck c.in_ok-run.ensures c.in_ok-deadline.ensures
    (stuck_first spacing (λ t. region_piece t.1) c.in_err-spacing.ensures.stuck some_region))

pub returns-in_err-read_region : goal.returns-in_err-read_region
returns-in_err-read_region c =
    let space : c.in_ok-spacing.spacing.end ≡ 32 = c.if-spacing-eq32.true in
    hands_on (ReadsTimes _ _) c.from_residual-in_err-read_region.ensures
    (times_stuck c.in_ok-run.ensures c.in_ok-deadline.ensures
    (past_stuck (λ t. region_piece t.1) c.in_ok-spacing.ensures code_spacing (rw space c.in_err-read_region.ensures)))

pub returns-in_ok-read_region : goal.returns-in_ok-read_region
returns-in_ok-read_region c =
    let space : c.in_ok-spacing.spacing.end ≡ 32 = c.if-spacing-eq32.true in (
      _,
      refl,
      times_past c.in_ok-run.ensures c.in_ok-deadline.ensures c.in_ok-spacing.ensures
          (rw space c.in_ok-read_region.ensures),
    )

pub returns-else-spacing-eq32 : goal.returns-else-spacing-eq32
returns-else-spacing-eq32 c =
    let last = c.in_ok-spacing.ensures in
    let no_space : c.in_ok-spacing.spacing.end ≡ 32 → ⊥ = c.if-spacing-eq32.false in (
      _,
      refl,
      times_past c.in_ok-run.ensures c.in_ok-deadline.ensures last
          (no_region _ _ (⊎_elim (λ e. absurd (no_space e)) (λ e. one_end e) last.passed.allowed.1)),
    )
