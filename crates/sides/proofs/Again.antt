-- The law of the rows that are released again: by its inverse a row is, where by its spacing it is.
use Prim.Native.Nat.{ℕ, ◌-◌, ◌*◌, ◌/◌, ◌≤◌, ◌<◌}
use mathlib.Core.Path.{◌≡◌, sym, ap, ◌∙◌}
use mathlib.Core.Bool.{◌&&◌}
use mathlib.Core.List.{List}
use native.Mathlib.Omega.{arith}
use native.Mathlib.Nat.{mul-le-mul, div-eq_of_lt, div-lt_iff_lt-mul}
use lib.Dec.{ltb}
use lib.ListN.{length}
use borrow.Author.Tests.{lt-ltb, le-ltb}
use Rattle.counting.proofs.Cases.{by_le}
use Rattle.marks.specs.inside.Marks.{marked, Where}
use Rattle.tables.specs.Table.{Table, Sound, most}
use Rattle.test.specs.Test.{horizon}
use Rattle.sides.specs.declared.ask.Ask.{Ask}
use Rattle.sides.specs.inside.Inverse.{scale}
use Rattle.sides.specs.inside.Asks.{again, repeated, Asks}
use Rattle.sides.proofs.Inverse.{by_inverse}

pub again_asked : {tb : Table} {asks : List Ask} {t : ℕ} (set : ℕ) → Sound tb → Asks tb asks → 1 ≤ t → t ≤ horizon →
    Where (repeated asks t) (length asks) set → (j : ℕ) → j < tb.n → marked set j ≡ again tb t j
again_asked {tb} {asks} {t} set sound a low high w j l =
    let T = (sound.row j l).T in
    let s = t - 1 in
    let small : s * tb.T j ≤ horizon * most = mul-le-mul {n₂ = horizon} {m₂ = most} (omega arith) T.high in
    let by-spacing : ltb 0 (s / tb.T j) ≡ ltb (tb.T j) t =
    by_le t (tb.T j)
    (λ h. let none : s / tb.T j ≡ 0 = div-eq_of_lt {m = tb.T j} (omega arith) in
    ap (ltb 0) none ∙ sym (le-ltb _ _ h))
    (λ h.
    let some : 0 < s / tb.T j =
    by_le 1 (s / tb.T j) (λ g. g)
    (λ g. absurd (omega (arith, (div-lt_iff_lt-mul {k = tb.T j} {y = 1} T.low).0 g))) in
    lt-ltb _ _ some ∙ sym (lt-ltb _ _ h)) in
    w j
    ∙ ap (λ b. b && repeated asks t j) (lt-ltb j (length asks) (omega (arith, a.long)))
    ∙ ap (λ i. ltb 0 (s * i / scale)) (a.inverses j l)
    ∙ ap (ltb 0) (by_inverse s (tb.T j) T.low (omega arith))
    ∙ by-spacing
