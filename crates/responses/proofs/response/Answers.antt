-- `response` meets its contract: the largest over the jobs passed, each start no lower than the one before plus C.
use Rattle.std.proofs.Common.{suc, ◌+◌, arith, ◌∙◌, add-one}
use Rattle.sides.specs.inside.Asks.{nothing}
use Rattle.responses.proofs.Jobs.{jobs_few, next_low}
use Rattle.responses.proofs.Largest.{passed_none, passed_more, passed_as}
use Rattle.responses.proofs.Levels.{Levelled, level_asks, place_fits, first_is, period_within, jobs_are}
use Rattle.responses.proofs.Levels.{above_asks, Ready, length_fits, first_low, responds, base_fits}
use Rattle.responses.proofs.Levels.{start_low, starts, started}
use Rattle.responses.proofs.Ranked.{working}
use Rattle.responses.proofs.response.Goals as goal
use Rattle.responses.proofs.response.Goals.{After-level_of-all, After-leave_out-higher}

-- the level of the row and those above it
levelled : (c : After-level_of-all) → let p = c.args.placed in
    Levelled c.args.asks.now p.above p.i c.more-with_own.result c.level_of-all.result c.level_of-all.new.level
levelled c =
    record {
      more = c.more-with_own.ensures;
      before = c.args.level.now;
      packed = c.level_of-all.ensures.packed nothing;
      whole = c.level_of-all.auto.level ∙ c.requires.1;
    }

-- and what its starts are looked for with
ready : (c : After-leave_out-higher) →
    Ready c.requires.0 (c.args.placed.blocking + c.runs_of.result) c.round_up-jobs.result c.leave_out-higher.result
    c.leave_out-higher.new.level
ready c =
    let p = c.args.placed in
    let v : Levelled c.args.asks.now p.above p.i c.more-with_own.result c.level_of-all.result c.level_of-all.new.level =
    record {
      more = c.more-with_own.ensures;
      before = c.args.level.now;
      packed = c.level_of-all.ensures.packed nothing;
      whole = c.level_of-all.auto.level ∙ c.requires.1;
    } in
    record {
      first_is = first_is c.requires.0 v c.runs_of.ensures;
      jobs_are = jobs_are c.requires.0 v c.runs_of.ensures c.active_period-period.ensures c.round_up-jobs.ensures;
      asking = above_asks c.requires.0 v _ _ _ c.place_of-at.ensures (c.leave_out-higher.ensures.left nothing);
    }

pub overflow_add-first : goal.overflow_add-first
overflow_add-first c =
    let w = period_within c.requires.0 (levelled (goal.at.overflow_add-first c).After-level_of-all) c.runs_of.ensures in
    omega (arith, w.under, w.within)

pub active_period-period-requires : goal.active_period-period-requires
active_period-period-requires c =
    let v = levelled (goal.at.active_period-period-requires c).After-level_of-all in
    ((level_asks c.requires.0 v).few, period_within c.requires.0 v c.runs_of.ensures)

pub overflow_cast-jobs : goal.overflow_cast-jobs
overflow_cast-jobs c =
    let v = levelled (goal.at.overflow_cast-jobs c).After-level_of-all in
    let e = jobs_are c.requires.0 v c.runs_of.ensures c.active_period-period.ensures c.round_up-jobs.ensures in
    omega (arith, e, jobs_few (working c.requires.0))

pub leave_out-higher-requires : goal.leave_out-higher-requires
leave_out-higher-requires c =
    let v = levelled (goal.at.leave_out-higher-requires c).After-level_of-all in
    (c.level_of-all.ensures.few, v.whole, place_fits c.requires.0 v _ c.place_of-at.ensures)

pub overflow_sub-low : goal.overflow_sub-low
overflow_sub-low c = omega (arith, length_fits (ready (goal.at.overflow_sub-low c).After-leave_out-higher))

pub loop-k-init : goal.loop-k-init
loop-k-init c =
    let d = ready (goal.at.loop-k-init c).After-leave_out-higher in
    record {
      passed = passed_none _ _ _ _ _;
      low = λ s st. omega (arith, first_low d s st);
    }

pub base_of-base-requires : goal.base_of-base-requires
base_of-base-requires c =
    let d = ready (goal.at.base_of-base-requires c).After-leave_out-higher in
    let r = c.requires.0 in (
      omega (arith, r.most, (r.sound.row c.args.placed.i r.row).C.high),
      length_fits d,
      base_fits d c.loop-k.k c.loop-k-test.true,
    )

pub start-s-requires : goal.start-s-requires
start-s-requires c =
    let d = ready (goal.at.start-s-requires c).After-leave_out-higher in
    (d.asking.few, start_low d c.loop-k.k c.loop-k-test.true c.base_of-base.ensures c.loop-k.invariant.low)

pub overflow_add-s : goal.overflow_add-s
overflow_add-s c =
    let d = ready (goal.at.overflow_add-s c).After-leave_out-higher in
    let j = started d c.loop-k.k c.loop-k-test.true c.base_of-base.ensures c.start-s.ensures in
    omega (arith, j.ends)

pub overflow_mul-k : goal.overflow_mul-k
overflow_mul-k c =
    let d = ready (goal.at.overflow_mul-k c).After-leave_out-higher in
    let j = started d c.loop-k.k c.loop-k-test.true c.base_of-base.ensures c.start-s.ensures in
    omega (arith, j.released)

pub overflow_sub-s : goal.overflow_sub-s
overflow_sub-s c =
    let d = ready (goal.at.overflow_sub-s c).After-leave_out-higher in
    let j = started d c.loop-k.k c.loop-k-test.true c.base_of-base.ensures c.start-s.ensures in
    omega (arith, j.after)

pub overflow_add-low : goal.overflow_add-low
overflow_add-low c =
    let d = ready (goal.at.overflow_add-low c).After-leave_out-higher in
    let j = started d c.loop-k.k c.loop-k-test.true c.base_of-base.ensures c.start-s.ensures in
    let r = c.requires.0 in
    omega (arith, j.ends, (r.sound.row c.args.placed.i r.row).C.high)

pub loop-k-preserved : goal.loop-k-preserved
loop-k-preserved c =
    let d = ready (goal.at.loop-k-preserved c).After-leave_out-higher in
    let k = c.loop-k.k in
    let l = c.loop-k-test.true in
    let st = starts d k l c.base_of-base.ensures c.start-s.ensures in
    let j = started d k l c.base_of-base.ensures c.start-s.ensures in
    record {
      passed = passed_as (passed_more c.loop-k.invariant.passed st j) (omega arith);
      low = λ s next. next_low (working c.requires.0) (suc k) (omega arith) st (rw (add-one k) at next);
    }

pub returns : goal.returns
returns c =
    responds (ready (goal.at.returns c).After-leave_out-higher) (omega arith) c.loop-k.invariant.passed
