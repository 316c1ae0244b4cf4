-- What holds while `fill` goes over the ranks, the rows, the lengths and the jobs, and how each loop ends.
use Prim.Native.Nat.{◌+◌, ◌-◌, ◌≤◌, ◌<◌}
use mathlib.Core.Path.{◌≡◌}
use lib.ListN.{take}
use Rattle.counting.specs.Sum.{without}
use Rattle.marks.specs.inside.Marks.{marked}
use Rattle.tables.specs.Plan.{cap}
use Rattle.test.specs.Test.{horizon, upto, load, jobs}
use Rattle.sides.specs.inside.Level.{active_of}
use Rattle.sides.specs.inside.Found.{Fixed}
use Rattle.responses.proofs.Jobs.{Working}
use Rattle.search.proofs.Turn.{table, Turn, Hand, Above}
use Rattle.search.proofs.Lengths.{Narrowed}
use Rattle.search.proofs.Trial.{Trial}
use Rattle.search.proofs.Seen.{Top, Seen}
use Rattle.search.proofs.Going.{Going}
use Rattle.search.proofs.fill.Given as goal

abbrev pub invariant-loop-s : goal.invariant-loop-s
invariant-loop-s l =
    Trial (table l.tasks) (without (marked l.unplaced) l.i) l.blocking l.i l.len l.period l.k l.s l.largest

abbrev pub decreases-loop-s : goal.decreases-loop-s
decreases-loop-s l = horizon + 1 - l.s

abbrev pub invariant-jobs : goal.invariant-jobs
invariant-jobs l =
    record {
      trial : Trial (table l.tasks) (without (marked l.unplaced) l.i) l.blocking l.i l.len l.period l.k l.s l.largest;
      working : Working (table l.tasks) (without (marked l.unplaced) l.i) l.blocking l.i l.len l.period;
    }

abbrev pub decreases-jobs : goal.decreases-jobs
decreases-jobs l = jobs (table l.tasks) (without (marked l.unplaced) l.i) l.blocking l.i l.period + 1 - l.k

abbrev pub invariant-lengths : goal.invariant-lengths
invariant-lengths l =
    record {
      hand : Hand (table l.tasks) (without (marked l.unplaced) l.i) l.blocking l.i l.first l.period l.fn.busy;
      above : Above (table l.tasks) (without (marked l.unplaced) l.i) l.fn.busy l.level l.above;
      top : Top ((table l.tasks).M l.i) (cap (table l.tasks) l.i) l.best l.cap;
      narrowed :
          Narrowed (table l.tasks) (without (marked l.unplaced) l.i) l.blocking l.i l.cap l.low l.high l.passed;
      between : l.low < l.high → (l.low ≤ l.len) × (l.len < l.high);
    }

abbrev pub decreases-lengths : goal.decreases-lengths
decreases-lengths l = l.high - l.low

abbrev pub invariant-rows : goal.invariant-rows
invariant-rows l =
    record {
      turn : Turn (table l.tasks) l.asks l.unplaced l.again l.blocking l.runs l.fn.busy l.packed l.level l.all l.first;
      period : Fixed (active_of (take l.all l.level) l.first) 1 l.period;
      seen : Seen (table l.tasks) (marked l.unplaced) l.blocking (marked l.unplaced) l.best l.rest;
    }

abbrev pub decreases-rows : goal.decreases-rows
decreases-rows l = l.rest

abbrev pub invariant-ranks : goal.invariant-ranks
invariant-ranks l =
    record {
      going : Going (table l.tasks) l.filled.plan l.filled.times l.unplaced l.blocking;
      runs : l.runs ≡ load upto (table l.tasks) (marked l.unplaced) 0;
    }

abbrev pub decreases-ranks : goal.decreases-ranks
decreases-ranks l = l.unplaced
