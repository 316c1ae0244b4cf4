-- The busy period over what all rows ask with is that of the table.
use Prim.Native.Nat.{ℕ, ◌≤◌}
use mathlib.Core.Path.{◌≡◌, sym}
use mathlib.Core.List.{List}
use Rattle.std.specs.Prelude.{Option, Some, None}
use lib.ListN.{length}
use native.Mathlib.Omega.{arith}
use Rattle.tables.specs.Table.{Table, Sound, most_rows}
use Rattle.test.specs.Test.{horizon, busy_side}
use Rattle.test.proofs.Load.{sound_positive, busy_side_up}
use Rattle.sides.specs.inside.Asks.{Asks}
use Rattle.sides.specs.declared.ask.Ask.{Ask}
use Rattle.sides.specs.inside.Level.{busy_of}
use Rattle.sides.specs.inside.Found.{BusyOf, BusyFound}
use Rattle.sides.proofs.Level.{busy_of_is, fixed_same}
use Rattle.sides.proofs.Asking.{asking_all, runs_all}

module _ {tb : Table} {asks : List Ask} (sound : Sound tb) (a : Asks tb asks) where
  same : (t : ℕ) → 1 ≤ t → t ≤ horizon → busy_of asks t ≡ busy_side tb t
  same t low high = busy_of_is (asking_all sound a) (runs_all sound a) (sound_positive tb sound) t low (omega arith)

  pub busy_asks : (length asks ≤ most_rows) × (1 ≤ busy_of asks 1)
  busy_asks =
      let up = busy_side_up tb (sound_positive tb sound) sound.some in
      ((asking_all sound a).few, omega (arith, same 1 (omega arith) (omega arith)))

  pub busy_found : (r : Option ℕ) → BusyOf asks r → BusyFound tb r
  busy_found (Some t) x = (fixed_same same x.1 x.0, x.1)
  busy_found None x = λ w.
      x w.period (fixed_same (λ t from to. sym (same t from to)) w.within w.busy) w.within
