-- What the functions of busy and active periods ask for and answer.
use Rattle.std.specs.Prelude.{ℕ, ◌≤◌, ◌≡◌, List, Option, Some, None}
use Rattle.counting.specs.Least.{Least}
use Rattle.tables.specs.Table.{Table}
use Rattle.test.specs.Test.{horizon, BusyWithin, Busy as BusyPeriod}
use Rattle.sides.specs.declared.ask.Ask.{Ask}
use Rattle.sides.specs.inside.Level.{busy_of}

-- the first value from lo on that equals its right side
abbrev pub Fixed : (ℕ → ℕ) → ℕ → ℕ → Type 0
Fixed side lo t = Least (λ u. u ≡ side u) lo t

-- there is such a value up to H, the right side does not lower lo, and low lies between lo and that value
pub record FixedWithin (side : ℕ → ℕ) (lo low : ℕ) : Type 0 where
  pub up : lo ≤ side lo
  pub point : ℕ
  pub fixed : Fixed side lo point
  pub within : point ≤ horizon
  pub from : lo ≤ low
  pub under : low ≤ point

-- a right side as a closure computes it, where it may be called and what it may answer: it never falls, and has such a
-- value
pub record Climbs (pre : ℕ → Type 0) (post : ℕ → ℕ → Type 0) (side : ℕ → ℕ) (lo low : ℕ) : Type 0 where
  pub rises : (s t : ℕ) → s ≤ t → side s ≤ side t
  pub callable : (t : ℕ) → lo ≤ t → t ≤ horizon → side t ≤ horizon → pre t
  pub answers : (t r : ℕ) → post t r → r ≡ side t
  pub within : FixedWithin side lo low

-- the busy period of a level, or that there is none up to H
abbrev pub BusyOf : List Ask → Option ℕ → Type 0
BusyOf level (Some t) = Fixed (busy_of level) 1 t × (t ≤ horizon)
BusyOf level None = (t : ℕ) → Fixed (busy_of level) 1 t → t ≤ horizon → ⊥

-- the busy period of a table, or that there is none up to H
abbrev pub BusyFound : Table → Option ℕ → Type 0
BusyFound tb (Some t) = BusyPeriod tb t × (t ≤ horizon)
BusyFound tb None = BusyWithin tb → ⊥
