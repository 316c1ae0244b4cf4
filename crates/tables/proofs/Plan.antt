-- Laws of the most that a row's length may be and of what a row blocks with. `cap_is` and `longer_is` say what they
-- are, for the code that computes with them and for the kernel's two regions; everything else rests on the other laws.
use Prim.Native.Nat.{ℕ, ◌+◌, ◌-◌, max, ◌≤◌}
use mathlib.Core.Path.{◌≡◌, refl}
use mathlib.Core.List.{List}
use native.Mathlib.Omega.{arith}
use lib.ListN.{get_or}
use Rattle.tables.specs.Table.{Table, SoundRow, region_end}
use Rattle.tables.specs.Plan.{cap, longer}
use Rattle.tables.specs.inside.Rows.{no, table_in, cap_in, longer_in}
use Rattle.tables.specs.declared.task.Row.{Row}

module _ (tb : Table) (i : ℕ) where
  pub cap_is : cap tb i ≡ tb.C i - region_end tb i
  unfolding cap
  cap_is = refl

  -- a length that a row may have is no longer than its worst run, and where there is one the middle region ends before
  -- it begins
  pub cap_run : {q : ℕ} → q ≤ cap tb i → q ≤ tb.C i
  cap_run h = omega (arith, cap_is)

  pub cap_end : {q : ℕ} → 1 ≤ q → q ≤ cap tb i → region_end tb i + q ≤ tb.C i
  cap_end some h = omega (arith, cap_is)

  -- in a sound row nothing is cut off
  pub cap_whole : SoundRow tb i → region_end tb i + cap tb i ≡ tb.C i
  cap_whole sound = omega (arith, cap_is, sound.region)

  pub longer_is : (q : ℕ) → longer tb i q ≡ max (tb.M i) q
  unfolding longer
  longer_is q = refl

  -- a row blocks with its length at least, with more where its length is longer, and never with more than its run
  pub longer_ge : (q : ℕ) → q ≤ longer tb i q
  longer_ge q = omega (arith, longer_is q)

  pub longer_mono : {q l : ℕ} → q ≤ l → longer tb i q ≤ longer tb i l
  longer_mono {q} {l} h = omega (arith, longer_is q, longer_is l)

  pub longer_run : {q : ℕ} → 1 ≤ q → q ≤ cap tb i → longer tb i q ≤ tb.C i
  longer_run {q} some h = omega (arith, longer_is q, cap_end some h)

-- the most that the length of a row may be and what it blocks with, where the rows stand in an array
pub cap_in_lem : (rows : List Row) (n i : ℕ) → cap (table_in rows n) i ≡ cap_in (get_or rows i no)
cap_in_lem rows n i = cap_is (table_in rows n) i

pub longer_in_lem : (rows : List Row) (n i q : ℕ) → longer (table_in rows n) i q ≡ longer_in (get_or rows i no) q
longer_in_lem rows n i q = longer_is (table_in rows n) i q
