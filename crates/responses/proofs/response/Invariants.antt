-- `response` meets its contract: the largest over the jobs passed, each start no lower than the one before plus C.
use Rattle.std.proofs.Common.{ℕ, suc, ◌≤◌}
use Rattle.marks.specs.inside.Marks.{marked}
use Rattle.tables.specs.inside.Rows.{table_in}
use Rattle.test.specs.Test.{Start}
use Rattle.responses.proofs.Largest.{Passed}
use Rattle.responses.proofs.response.Given as goal

abbrev pub invariant-loop-k : goal.invariant-loop-k
invariant-loop-k l =
    let tb = table_in l.tasks.rows l.tasks.n in
    let p = l.fn.placed in
    record {
      passed : Passed tb (marked p.above) p.blocking p.i p.len l.k l.largest;
      low : (s : ℕ) → Start tb (marked p.above) p.blocking p.i p.len (suc l.k) s → l.low ≤ s;
    }
