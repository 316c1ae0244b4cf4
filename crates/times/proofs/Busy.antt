-- The check 4: what its answer says of the table.
use Prim.Native.Nat.{ℕ}
use Rattle.std.proofs.Common.{Ok}
use Rattle.tables.specs.Table.{Table}
use Rattle.tables.specs.Refusal.{Clear}
use Rattle.test.specs.Test.{BusyWithin}
use Rattle.test.specs.Answers.{no_busy}
use Rattle.times.specs.inside.Given.{BusyChecked}

pub busy_clear : {tb : Table} → BusyWithin tb → Clear (no_busy tb)
busy_clear busy place h = h.1 busy

-- a table whose period is found has one
pub busy_within : {tb : Table} (period : ℕ) → BusyChecked tb (Ok period) → BusyWithin tb
busy_within period found = record { period = period; busy = found.0; within = found.1 }
