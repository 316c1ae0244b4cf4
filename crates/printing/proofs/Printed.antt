-- Laws of the printed plan: how long its lines are, one row more, and that it is never empty.
use Prim.Native.Nat.{ℕ, zero, suc, ◌+◌, ◌*◌, ◌/◌, ◌^◌, ◌≤◌, ◌<◌}
use mathlib.Core.Path.{◌≡◌, refl}
use mathlib.Core.List.{List, [], ◌++◌}
use native.Mathlib.Omega.{arith}
use native.Mathlib.Numerals.{add-one}
use lib.ListN.{length, get_or, length-append}
use Rattle.counting.proofs.Cases.{by_eq}
use Rattle.decimal.specs.Decimal.{decimal}
use Rattle.decimal.proofs.Decimal.{few}
use Rattle.tables.specs.Planned.{planned_width}
use Rattle.printing.specs.Printed.{plan_line, row_line, row_lines, plan_text}

-- a 32-bit number has ten digits or fewer
pub ten_digits : (x : ℕ) → x < 2 ^ 32 → length (decimal x) ≤ 10
ten_digits x h = few 9 x (omega arith)

pub length_plan_line : (n : ℕ) → length (plan_line n) ≡ length (decimal n) + 6
unfolding plan_line
length_plan_line n = simp length-append (omega arith)

pub length_row_line : (i r l s : ℕ) →
    length (row_line i r l s) ≡ length (decimal i) + length (decimal r) + length (decimal l) + length (decimal s) + 29
unfolding row_line
length_row_line i r l s = simp length-append (omega arith)

module _ (planned : List ℕ) where
  -- the line of row i
  abbrev pub line_of : ℕ → List ℕ
  line_of i =
      row_line i (get_or planned (planned_width * i) 0) (get_or planned (planned_width * i + 1) 0)
      (get_or planned (planned_width * i + 2) 0)

  pub rows_none : row_lines planned 0 ≡ []
  unfolding row_lines
  rows_none = refl

  pub rows_more : (i : ℕ) → row_lines planned (i + 1) ≡ row_lines planned i ++ line_of i
  unfolding row_lines
  rows_more i = rw add-one

  -- a line of row i among those of n rows
  pub rows_fit : (n i : ℕ) → i < n → length (row_lines planned i) + length (line_of i) ≤ length (row_lines planned n)
  unfolding row_lines
  rows_fit zero i h = absurd (omega arith)
  rows_fit (suc n) i h =
      let e = length-append (row_lines planned n) (line_of n) in
      by_eq i n (λ q. rw q (omega arith)) (λ q. omega (arith, rows_fit n i (omega arith)))

  pub text_whole : (n : ℕ) → length planned ≡ planned_width * n → plan_text planned ≡ plan_line n ++ row_lines planned n
  unfolding plan_text
  text_whole n e = let q : length planned / planned_width ≡ n = omega arith in rw q

  pub length_text : (n : ℕ) → length planned ≡ planned_width * n →
      length (plan_text planned) ≡ length (plan_line n) + length (row_lines planned n)
  length_text n e = rw (text_whole n e, length-append)

  -- "a printed plan is never empty"
  pub never_empty : 1 ≤ length (plan_text planned)
  unfolding plan_text
  never_empty = simp (length-append, length_plan_line) (omega arith)
