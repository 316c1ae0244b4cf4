-- A level: what some rows ask with, packed at the front of an array and lent as a slice. The right sides over it.
use Rattle.std.specs.Prelude.{ℕ, ◌+◌, ◌-◌, ◌≤◌, ◌<◌, ◌≡◌, Bool, true, List, Option, Some, None, set, get_or, length, sum_by}
use Rattle.counting.specs.Sum.{given, sum, count}
use Rattle.tables.specs.Table.{most_rows}
use Rattle.sides.specs.declared.ask.Ask.{Ask}
use Rattle.sides.specs.inside.Asks.{nothing, part_of}

-- what the rows of a level ask for in the first tick, each its run; and what all rows ask for by their releases after
-- it, up to s
unfoldable pub runs_of : List Ask → ℕ
runs_of level = sum_by (λ a. a.run) level

unfoldable pub later : List Ask → ℕ → ℕ
later level s = sum_by (λ a. part_of a s) level

-- the right sides: of the busy period, of the active period where blocking and level ask for `first` in the first tick,
-- and of a start, beside which a base stands that does not depend on s
abbrev pub busy_of : List Ask → ℕ → ℕ
busy_of level t = runs_of level + later level (t - 1)

abbrev pub active_of : List Ask → ℕ → ℕ → ℕ
active_of level first t = first + later level (t - 1)

abbrev pub start_of : List Ask → ℕ → ℕ → ℕ
start_of level base s = base + later level s

-- the first m items of a list are those items of another at which P passes, each at the place that counts those before
-- it, and what is summed over the ones, by place and item, is what is summed over the others. Behind them the list is as
-- before. What stands past an end is `none`.
pub record Picked {A : Type 0} (none : A) (items : List A) (P : ℕ → Bool) (before list : List A) (m : ℕ) : Type 0 where
  pub few : m ≤ most_rows
  pub placed : (j : ℕ) → j < length items → P j ≡ true → get_or list (count P j) none ≡ get_or items j none
  pub same : (f : ℕ → A → ℕ) → sum (λ p. f p (get_or list p none)) m
      ≡ sum (λ j. given (P j) (f (count P j) (get_or items j none))) (length items)
  pub rest : (k : ℕ) → m ≤ k → get_or list k none ≡ get_or before k none

-- of a list of m items the one at a place is left out, its place taken by the last one, and r are left; with no place
-- the list stays as it is
abbrev pub Vacated : {A : Type 0} → A → Option ℕ → List A → ℕ → List A → ℕ → Type 0
Vacated none (Some p) list m left r = (r ≡ m - 1) × (left ≡ set list p (get_or list (m - 1) none))
Vacated none None list m left r = (r ≡ m) × (left ≡ list)

-- an item is at place p again; with no place the list stays as it is
abbrev pub PutBack : {A : Type 0} → Option ℕ → A → List A → List A → Type 0
PutBack (Some p) item left back = back ≡ set left p item
PutBack None item left back = back ≡ left

-- a level: the rows of the asks at which P passes; and a level without one of its rows
abbrev pub Packed : List Ask → (ℕ → Bool) → List Ask → List Ask → ℕ → Type 0
Packed = Picked nothing

abbrev pub LeftOut : Option ℕ → List Ask → ℕ → List Ask → ℕ → Type 0
LeftOut = Vacated nothing
