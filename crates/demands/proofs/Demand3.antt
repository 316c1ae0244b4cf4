-- Demand 3, proved.
use Prim.Native.Nat.{ℕ, ◌+◌, ◌≤◌}
use native.Mathlib.Omega.{arith}
use Rattle.tables.specs.Table.{Table, Sound}
use Rattle.tables.specs.Plan.{Plan, WellFormed}
use Rattle.test.specs.Test.{Passes}
use Rattle.test.proofs.Response.{response_unique}
use Rattle.test.proofs.Plans.{plan_response}
use Rattle.kernel.proofs.Executed.{executed_mono, executed_run}
use Rattle.kernel.proofs.Finishing.{finish_least}
use Rattle.bounds.proofs.Upper.{in_time}
use Rattle.bounds.proofs.Reached.{reached}
use Rattle.demands.specs.Demand3.{NoJobTakesLonger, SomeJobTakesExactly, NoSmallerNumber, NoLargerNumber}
use Rattle.demands.specs.Demand3.{EveryResponseIsExact, MeetsDeadlines, TheTestDecides, TakesExactly, NeverLonger}

pub no_job_takes_longer : NoJobTakesLonger
no_job_takes_longer tb sound p wf i R il x js lawful k l row =
    in_time tb sound p wf js lawful k l R (rw row x)

pub some_job_takes_exactly : SomeJobTakesExactly
some_job_takes_exactly tb sound p wf i R il x =
    let e = reached tb sound p wf i il R x in
    record { list = e.0; lawful = e.1; order = e.2; job = e.3; is = e.4; row = e.5; finishes = e.6 }

-- what some job takes is no more than what no job takes longer than
at_most : (tb : Table) (p : Plan) (i R S : ℕ) → TakesExactly tb p i R → NeverLonger tb p i S → R ≤ S
at_most tb p i R S e never =
    let js = e.list in
    let k = e.job in
    let done = never js e.lawful k e.is e.row in
    omega (arith, finish_least tb p js k (js.release k + R) (js.release k + S) e.finishes (omega arith))

pub no_smaller_number : NoSmallerNumber
no_smaller_number tb sound p wf i R il x S = at_most tb p i R S (some_job_takes_exactly tb sound p wf i R il x)

pub no_larger_number : NoLargerNumber
no_larger_number tb sound p wf i R il x S e = at_most tb p i S R e (no_job_takes_longer tb sound p wf i R il x)

pub every_response_is_exact : EveryResponseIsExact
every_response_is_exact tb sound busy p wf i il =
    let r = plan_response tb sound busy p wf i il in
    let R = r.0 in
    record {
      response = R;
      is = r.1;
      only = λ S y. response_unique tb _ _ i _ S R y r.1;
      never_longer = no_job_takes_longer tb sound p wf i R il r.1;
      reached = some_job_takes_exactly tb sound p wf i R il r.1;
    }

-- a plan that passes meets every deadline, whatever the busy period
pub passing_meets : (tb : Table) → Sound tb → (p : Plan) → WellFormed tb p → Passes tb p → MeetsDeadlines tb p
passing_meets tb sound p wf passes js lawful k l =
    let x = passes (js.row k) (lawful.row k l) in
    let D = js.release k + tb.D (js.row k) in
    let done = in_time tb sound p wf js lawful k l x.R x.response in
    let more = executed_mono tb p js (js.release k + x.R) D k (omega (arith, x.within)) in
    omega (arith, executed_run tb p js D k)

pub the_test_decides : TheTestDecides
the_test_decides tb sound busy p wf =
    record {
      keeps = passing_meets tb sound p wf;
      needs =
          λ meets i il.
          let r = plan_response tb sound busy p wf i il in
          let never : NeverLonger tb p i (tb.D i) = λ js lawful k l row. rw (← row) (meets js lawful k l) in
          let within = no_smaller_number tb sound p wf i r.0 il r.1 (tb.D i) never in
          record { R = r.0; response = r.1; within = within };
    }
