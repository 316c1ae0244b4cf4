-- The longest text of a planned table of 32-bit numbers: what `fit` and `print` give is never 0 and never above it.
use Prim.Native.Nat.{ℕ, zero, suc, ◌+◌, ◌-◌, ◌*◌, ◌^◌, ◌≤◌, ◌<◌}
use mathlib.Core.Path.{◌≡◌}
use mathlib.Core.List.{List, []}
use native.Mathlib.Omega.{arith}
use lib.ListN.{length, get_or, length-append}
use Rattle.counting.proofs.Cases.{by_le}
use Rattle.tables.specs.Table.{most_rows}
use Rattle.tables.specs.Planned.{planned_width}
use Rattle.tables.specs.Refusal.{Result}
use Rattle.tables.specs.Checks.{Rows}
use Rattle.tables.proofs.Clear.{rows_of_shape}
use Rattle.decimal.proofs.Decimal.{few}
use Rattle.printing.specs.Printed.{row_lines, plan_text, longest_text}
use Rattle.printing.specs.Answers.{FitAnswer, PrintAnswer}
use Rattle.printing.proofs.Printed.{ten_digits, length_plan_line, length_row_line, length_text, never_empty}
use Rattle.printing.proofs.Answers.{fit_given, fit_of_print}

module _ (planned : List ℕ) (small : (i : ℕ) → get_or planned i 0 < 2 ^ 32) where
  -- 60 bytes a row, and one more from row 10 on, whose number has a second digit
  rows_most : (n : ℕ) → n ≤ most_rows → length (row_lines planned n) ≤ 60 * n + (n - 10)
  unfolding row_lines
  rows_most zero h = omega arith
  rows_most (suc n) h =
      let at = planned_width * n in
      let r = rows_most n (omega arith) in
      let a = ten_digits (get_or planned at 0) (small at) in
      let b = ten_digits (get_or planned (at + 1) 0) (small (at + 1)) in
      let c = ten_digits (get_or planned (at + 2) 0) (small (at + 2)) in
      simp (length-append, length_row_line)
      (by_le n 9 (λ q. omega (arith, few 0 n (omega arith))) (λ q. omega (arith, few 1 n (omega arith))))

  pub text_most : Rows planned_width planned → length (plan_text planned) ≤ longest_text
  text_most r =
      simp (length_text planned r.n r.whole, length_plan_line)
      (omega (arith, few 1 r.n (omega arith), rows_most r.n r.few))

  -- "a printed plan is never empty", and its number of bytes has this limit
  pub fit_most : {len : ℕ} {r : Result} → FitAnswer planned len r → r.number ≡ 0 →
      (1 ≤ r.value) × (r.value ≤ longest_text)
  fit_most a z =
      let g = fit_given planned [] a z in
      (omega (arith, never_empty planned), omega (arith, text_most (rows_of_shape planned_width planned g.0)))

  pub print_most : {out : List ℕ} {r : Result} → PrintAnswer planned out r → r.number ≡ 0 →
      (1 ≤ r.value) × (r.value ≤ longest_text)
  print_most {out} a z = fit_most (fit_of_print planned out a) z
