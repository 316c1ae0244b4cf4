-- Laws of the runs of the rows not placed, added up: those of all rows at first, and one less with each row placed.
use Prim.Native.Nat.{ℕ, ◌-◌, ◌*◌, ◌/◌, ◌+◌, ◌≤◌, ◌<◌}
use mathlib.Core.Path.{◌≡◌, sym, ap, ◌∙◌}
use mathlib.Core.Bool.{Bool, true}
use mathlib.Core.List.{List}
use native.Mathlib.Omega.{arith}
use native.Mathlib.Nat.{div-eq_of_lt}
use borrow.Author.Tests.{lt-ltb}
use lib.ListN.{get_or}
use Rattle.std.proofs.lemmas.List.{get_or_default}
use Rattle.marks.specs.inside.Marks.{marked, Whole, Less}
use Rattle.tables.specs.Table.{Table, Sound}
use Rattle.test.specs.Test.{upto, load, every_row}
use Rattle.test.proofs.Load.{Positive, load_ext, load_without}
use Rattle.sides.specs.inside.Asks.{nothing, Asks}
use Rattle.sides.specs.declared.ask.Ask.{Ask}
use Rattle.sides.specs.inside.Level.{runs_of}
use Rattle.sides.proofs.Asking.{runs_all}

pub runs_first : {tb : Table} {asks : List Ask} (rest : ℕ) → Sound tb → Asks tb asks → Whole tb.n rest →
    runs_of asks ≡ load upto tb (marked rest) 0
runs_first {tb} rest sound a w =
    runs_all sound a ∙ load_ext tb upto every_row (marked rest) (λ j l. sym (w j ∙ lt-ltb j tb.n l)) 0

-- the run that is read at a row's place is that of the row
pub read_run : {tb : Table} {asks : List Ask} {y : ℕ} (default : Ask) → Asks tb asks → y < tb.n →
    (get_or asks y default).run ≡ tb.C y
read_run {tb} {asks} {y} default w l =
    ap (λ x. x.run) (get_or_default asks y default nothing (omega (arith, w.long))) ∙ w.runs y l

-- row y is placed
module _ {tb : Table} (pos : Positive tb) (rest : ℕ) {y runs : ℕ} (r : runs ≡ load upto tb (marked rest) 0)
    (l : y < tb.n) (e : marked rest y ≡ true) where
  one : upto 0 (tb.T y) * tb.C y ≡ tb.C y
  one = let none : 0 / tb.T y ≡ 0 = div-eq_of_lt (pos.T y l) in omega (arith, ap (λ x. (x + 1) * tb.C y) none)

  pub runs_enough : tb.C y ≤ runs
  runs_enough = omega (arith, one, load_without tb upto (marked rest) y 0 l e)

  pub runs_more : {left : ℕ} → Less rest y left → runs - tb.C y ≡ load upto tb (marked left) 0
  runs_more d =
      omega (
        arith,
        one,
        load_without tb upto (marked rest) y 0 l e,
        ap (λ (P : ℕ → Bool). load upto tb P 0) d.marks,
      )
