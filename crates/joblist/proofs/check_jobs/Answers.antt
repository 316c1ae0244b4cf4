-- `check_jobs` meets its contract: no job before k is at fault, and what the walk keeps of them shows a fault of job k.
use native.Mathlib.Omega.{arith}
use lib.ListN.{length}
use mathlib.Core.Path.{refl}
use mathlib.Core.Logic.{inl, inr}
use Rattle.tables.specs.Jobs.{jobs_of}
use Rattle.tables.specs.inside.Rows.{table_in}
use Rattle.tables.proofs.Checked.{says_yes, says_no}
use Rattle.tables.proofs.Clear.{shape_of_jobs}
use Rattle.joblist.proofs.Walk.{AtFault, walked_none, walked_on, falls, too_close, first_fault}
use Rattle.joblist.proofs.check_jobs.Goals as goal
use Rattle.joblist.proofs.check_jobs.Goals.{then-not-alone-via-then-not-alone}
use Rattle.joblist.proofs.check_jobs.Goals.{then-not-alone-via-else-not-alone+then-release-last}
use Rattle.joblist.proofs.check_jobs.Goals.{then-not-alone-via-else-not-alone+else-release-last+then-release-earliest}

pub loop-k-init : goal.loop-k-init
loop-k-init c = (omega arith, walked_none _ _)

pub returns-then-not-alone : goal.returns-then-not-alone
returns-then-not-alone c =
    let js = c.args.jobs.now in
    let walked = c.loop-k.invariant.1 in
    let fault : AtFault (table_in c.args.rows.now (length c.args.rows.now)) (jobs_of js) c.loop-k.k =
    elim c.then-not-alone.branch [
      | then-not-alone-via-then-not-alone w ↦
          let no = says_no c.keeps_alone-alone.result w.if-not-alone.true c.keeps_alone-alone.ensures in
          inl (λ b. no (record { row = b.0; soon = b.1; run_low = b.2; run_high = b.3 }))
      | then-not-alone-via-else-not-alone+then-release-last w ↦
          falls walked w.if-release-last.true
      | then-not-alone-via-else-not-alone+else-release-last+then-release-earliest w ↦
          too_close walked w.if-release-earliest.true
    ] in
    inr (
      shape_of_jobs js (omega (arith, c.if-jobs-ne0.false)) c.if-many-gt-MOST_JOBS.false,
      inl (refl, first_fault js walked c.loop-k-test.true fault),
    )

pub loop-k-preserved : goal.loop-k-preserved
loop-k-preserved c =
    let alone = says_yes c.keeps_alone-alone.result c.if-not-alone.false c.keeps_alone-alone.ensures in (
      omega arith,
      walked_on c.loop-k.invariant.1 alone c.if-release-last.false c.if-release-earliest.false
          (omega (arith, c.requires, alone.row)),
    )
