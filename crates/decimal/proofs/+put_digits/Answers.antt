-- `put_digits` meets its contract: the last digit stands behind the text of the tenth, or alone.
use Prim.Native.Nat.{ℕ, ◌-◌, ◌+◌, ◌≤◌, ◌%◌}
use mathlib.Core.Path.{◌≡◌, refl, sym, ap, ◌∙◌}
use mathlib.Core.List.{List, [], ◌∷◌}
use native.Mathlib.Omega.{arith}
use lib.ListN.{length, set, drop, length-set, drop_of_length-le}
use lib.Seq.{length-take-le}
use Rattle.std.proofs.lemmas.List.{drop-set}
use Rattle.decimal.proofs.Decimal.{decimal_small, decimal_big, length_small, length_big, some}
use Rattle.decimal.proofs.+put_digits.Goals as goal

-- behind the last place nothing stands
last_alone : (l : List ℕ) (v : ℕ) → 1 ≤ length l → drop (length l - 1) (set l (length l - 1) v) ≡ v ∷ []
last_alone l v h =
    let behind = drop_of_length-le l {i = length l - 1 + 1} (omega arith) in
    drop-set l (length l - 1) v (omega arith) ∙ ap (λ r. v ∷ r) behind

one_alone : (l : List ℕ) (v : ℕ) → length l ≡ 1 → set l 0 v ≡ v ∷ []
one_alone [] v h = absurd (omega (arith, h))
one_alone (d ∷ []) v h = refl
one_alone (d ∷ e ∷ l) v h = absurd (omega (arith, h))

pub bounds-digits-0 : goal.bounds-digits-0
bounds-digits-0 t c = omega (arith, some c.args.x)

pub returns-then-x-lt10 : goal.returns-then-x-lt10
returns-then-x-lt10 t c =
    let x = c.args.x in
    let small = c.if-x-lt10.true in
    one_alone c.args.digits.now (48 + x) (c.requires ∙ length_small x small) ∙ sym (decimal_small x small)

pub overflow_sub-last : goal.overflow_sub-last
overflow_sub-last t c = omega (arith, some c.args.x)

pub bounds-digits-last : goal.bounds-digits-last
bounds-digits-last t c = omega (arith, some c.args.x)

pub put_digits-requires : goal.put_digits-requires
put_digits-requires t c =
    let l = c.args.digits.now in
    let last = length l - 1 in
    let v = 48 + c.args.x % 10 in
    let front = length-take-le last (set l last v) (omega (arith, length-set l last v)) in
    (omega arith, omega (arith, front, length_big c.args.x c.if-x-lt10.false))

pub returns : goal.returns
returns t c =
    rw (c.put_digits.ensures, last_alone c.args.digits.now (48 + c.args.x % 10) (omega (arith, some c.args.x)))
    (sym (decimal_big c.args.x c.if-x-lt10.false))
