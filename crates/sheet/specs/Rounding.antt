-- What rounding to whole ticks keeps of the times of a task: requests (i) and (ii) of document 02.
use Rattle.std.specs.Prelude.{ℕ, ◌+◌, ◌*◌, ◌≤◌, ◌<◌, ◌≡◌, ◌↔◌, List, [], ◌∷◌}
use Rattle.std.proofs.Math.Option.{some}
use Rattle.sheet.specs.Sheet.{Region, Task, row_of}

-- so many ticks are not below the time, and with one tick less they would be
pub record RoundedUp (tick time ticks : ℕ) : Type 0 where
  pub not_below : time ≤ ticks * tick
  pub fewest : ticks * tick < time + tick

-- so many ticks are not above the time, and with one tick more they would be; there are none exactly if the time is
-- less than one tick
pub record RoundedDown (tick time ticks : ℕ) : Type 0 where
  pub not_above : ticks * tick ≤ time
  pub most : time < (ticks + 1) * tick
  pub none : (ticks ≡ 0) ↔ (time < tick)

-- (i), "Neither may grow": whatever the tick and the task, the run in ticks is rounded up, and deadline and spacing in
-- ticks are rounded down
abbrev pub NeitherGrows : Type 0
NeitherGrows =
    (tick : ℕ) (t : Task) (c d s : ℕ) (region : List ℕ) → 1 ≤ tick → row_of tick t ≡ c ∷ d ∷ s ∷ region →
    RoundedUp tick t.C c × RoundedDown tick t.D d × RoundedDown tick t.T s

-- (ii), "Start is rounded down and end up": whatever the tick and the task, its region in ticks begins no later and
-- ends no earlier than in microseconds, by less than a tick each, and is not lost
abbrev pub RegionCovered : Type 0
RegionCovered =
    (tick : ℕ) (t : Task) (r : Region) (c d s start region : ℕ) → 1 ≤ tick → 1 ≤ r.length → t.region ≡ some r →
    row_of tick t ≡ c ∷ d ∷ s ∷ start ∷ region ∷ [] →
    RoundedDown tick r.start start × RoundedUp tick (r.start + r.length) (start + region) × (1 ≤ region)
