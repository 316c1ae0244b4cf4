-- Laws of a row in ticks: it fits its numbers, how it is put into the table, and where it stands there.
use Prim.Native.Nat.{ℕ, zero, suc, ◌+◌, ◌*◌, ◌-◌, ◌/◌, ◌≤◌, ◌<◌}
use mathlib.Core.Path.{◌≡◌, ap, ◌∙◌}
use mathlib.Core.Option.{some, some-injective, none-ne-some}
use mathlib.Core.List.{List, [], ◌∷◌, ◌++◌, append_assoc, append-nil}
use native.Mathlib.Omega.{arith}
use native.Mathlib.Nat.{zero-add, mul-le-mul_left, div-le_self}
use lib.ListN.{length, get_or, drop, get_elem?, drop_of_length-le, get_or-append}
use lib.Seq.{sets, sets-eq, take_at, drop_at, drop-drop, get_or-append-add}
use borrow.Rule.Slice.PartMut.{put_mid}
use Rattle.counting.specs.Up.{up}
use Rattle.counting.proofs.Up.{div_mono, up_le}
use Rattle.tables.specs.Table.{row_width}
use Rattle.sheet.specs.Sheet.{Task, longest_time, row_of, ticks_of}
use Rattle.sheet.proofs.Fronts.{ticks_more, length_ticks}

-- ticks are no more than microseconds
pub up_small : (x d : ℕ) → 1 ≤ d → up x d ≤ x
up_small x d h = up_le x x h (omega (arith, mul-le-mul_left x h))

-- a time divided, whatever by, has 32 bits
pub quotient_fits : (x d : ℕ) → x ≤ longest_time → x / d < 4294967296
quotient_fits x d h = omega (arith, div-le_self x d)

-- a region's start rounded down is no later than its end rounded up
pub start_end : (x y d : ℕ) → x / d ≤ up (x + y) d
unfolding up
start_end x y d = div_mono d (omega arith)

-- as many stores as a list has numbers fill it
pub filled : (numbers l : List ℕ) → length l ≡ length numbers → sets l 0 numbers ≡ numbers
filled numbers l h =
    let z : 0 + length numbers ≡ length numbers = omega arith in
    let none = drop_of_length-le l {i = length numbers} (omega arith) in
    sets-eq numbers l 0 (omega arith) ∙ rw (z, none) (append-nil numbers)

-- one row more behind those of n tasks
pub row_more : (tick n : ℕ) (ts : List Task) (t : Task) (before table row : List ℕ) → length ts ≡ n →
    table ≡ ticks_of tick ts ++ drop (row_width * n) before → row ≡ row_of tick t →
    put_mid (row_width * n) (row_width * n + row_width - row_width * n) table row
    ≡ ticks_of tick (ts ++ t ∷ []) ++ drop (row_width * (n + 1)) before
row_more tick n ts t before table row e f g =
    let k : row_width * n + row_width - row_width * n ≡ row_width = omega arith in
    let m : row_width * n + row_width ≡ row_width * (n + 1) = omega arith in
    let long : length (ticks_of tick ts) ≡ row_width * n = omega (arith, length_ticks tick ts) in
    let rest = drop (row_width * n) before in
    let front = take_at (ticks_of tick ts) rest (row_width * n) long in
    let behind = drop_at (ticks_of tick ts) rest (row_width * n) long in
    rw (k, f, g, front, behind, drop-drop row_width (row_width * n) before, m, ticks_more tick ts t)
    (simp append_assoc)

-- where a task stands: its place is below their number, and its numbers are row i of the table
pub place_within : (ts : List Task) (i : ℕ) (t : Task) → get_elem? ts i ≡ some t → i < length ts
place_within [] i t e = absurd (none-ne-some t e)
place_within (u ∷ ts) zero t e = omega arith
place_within (u ∷ ts) (suc i) t e = omega (arith, place_within ts i t e)

pub row_at : (tick : ℕ) (ts : List Task) (i : ℕ) (t : Task) → get_elem? ts i ≡ some t → (j : ℕ) → j < row_width →
    get_or (ticks_of tick ts) (row_width * i + j) 0 ≡ get_or (row_of tick t) j 0
unfolding ticks_of
row_at tick [] i t e j l = absurd (none-ne-some t e)
row_at tick (u ∷ ts) zero t e j l =
    rw (zero-add j)
    (get_or-append (row_of tick u) (ticks_of tick ts) 0 j l
    ∙ ap (λ (v : Task). get_or (row_of tick v) j 0) (some-injective u t e))
row_at tick (u ∷ ts) (suc i) t e j l =
    let k : row_width * suc i + j ≡ row_width + (row_width * i + j) = omega arith in
    rw k (get_or-append-add (row_of tick u) (ticks_of tick ts) (row_width * i + j) 0 ∙ row_at tick ts i t e j l)
