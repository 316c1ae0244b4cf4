-- The text of a printed plan determines the planned table that it was printed from.
use Prim.Native.Nat.{ℕ, zero, suc, ◌+◌, ◌*◌, ◌/◌, ◌<◌}
use mathlib.Core.Path.{◌≡◌, sym, ◌∙◌}
use mathlib.Core.List.{List, [], ◌∷◌, ◌++◌, append_assoc}
use native.Mathlib.Omega.{arith}
use lib.ListN.{get_or}
use lib.Seq.{ext_get_or}
use Rattle.counting.proofs.Cases.{by_eq}
use Rattle.tables.specs.Checks.{Rows}
use Rattle.decimal.specs.Word.{word}
use Rattle.decimal.specs.Decimal.{nought, decimal}
use Rattle.reading.proofs.Pieces.{cancel}
use Rattle.reading.proofs.Numbers.{decimal_tells}
use Rattle.tables.specs.Planned.{planned_width}
use Rattle.printing.specs.Printed.{plan_line, row_line, row_lines, plan_text}
use Rattle.printing.proofs.Printed.{line_of, text_whole}

-- a word, a number and a byte that is no digit
field : (w : List ℕ) (end v u : ℕ) (x y : List ℕ) → end < nought →
    w ++ (decimal v ++ (end ∷ x)) ≡ w ++ (decimal u ++ (end ∷ y)) → (v ≡ u) × (x ≡ y)
field w end v u x y h e =
    let f = cancel w e in
    let q = (decimal_tells end end h h v u x y f).0 in (q, cancel (end ∷ []) (cancel (decimal u) (rw q at f)))

-- the numbers of a row line, each with what follows it
abbrev from_response : ℕ → List ℕ → List ℕ
from_response s x = word "response " ++ (decimal s ++ (10 ∷ x))

abbrev from_length : ℕ → ℕ → List ℕ → List ℕ
from_length l s x = word "length " ++ (decimal l ++ (32 ∷ from_response s x))

row_parts : (i r l s : ℕ) (x : List ℕ) → row_line i r l s ++ x ≡ (word "row " ++ decimal i)
    ++ (word " rank " ++ (decimal r ++ (32 ∷ from_length l s x)))
unfolding row_line
row_parts i r l s x =
    regroup (word "row " ++ decimal i) (word " rank ") (decimal r) (word " length ") (decimal l) (word " response ")
    (decimal s) (word "\n") x
  where
    regroup : (a b c d e f g h t : List ℕ) →
        (a ++ (b ++ c) ++ (d ++ e) ++ (f ++ g) ++ h) ++ t ≡ a ++ (b ++ (c ++ (d ++ (e ++ (f ++ (g ++ (h ++ t)))))))
    regroup a b c d e f g h t = simp append_assoc

row_tells : (i r l s r' l' s' : ℕ) (x y : List ℕ) → row_line i r l s ++ x ≡ row_line i r' l' s' ++ y →
    (r ≡ r') × (l ≡ l') × (s ≡ s') × (x ≡ y)
row_tells i r l s r' l' s' x y e =
    let a = cancel (word "row " ++ decimal i) (sym (row_parts i r l s x) ∙ e ∙ row_parts i r' l' s' y) in
    let b = field (word " rank ") 32 r r' (from_length l s x) (from_length l' s' y) (omega arith) a in
    let c = field (word "length ") 32 l l' (from_response s x) (from_response s' y) (omega arith) b.1 in
    let d = field (word "response ") 10 s s' x y (omega arith) c.1 in (b.0, c.0, d.0, d.1)

module _ (p q : List ℕ) where
  -- the same three numbers in row i
  abbrev Same : ℕ → Type 0
  Same i =
      (get_or p (planned_width * i) 0 ≡ get_or q (planned_width * i) 0)
      × (get_or p (planned_width * i + 1) 0 ≡ get_or q (planned_width * i + 1) 0)
      × (get_or p (planned_width * i + 2) 0 ≡ get_or q (planned_width * i + 2) 0)

  rows_tell : (n : ℕ) (x y : List ℕ) → row_lines p n ++ x ≡ row_lines q n ++ y → ((i : ℕ) → i < n → Same i) × (x ≡ y)
  unfolding row_lines
  rows_tell zero x y e = ((λ i h. absurd (omega arith)), e)
  rows_tell (suc n) x y e =
      let r = rows_tell n (line_of p n ++ x) (line_of q n ++ y) (simp append_assoc at e) in
      let l = row_tells n _ _ _ _ _ _ x y r.1 in
      ((λ i h. by_eq i n (λ z. rw z (l.0, l.1, l.2)) (λ z. r.0 i (omega arith))), l.3)

  -- the text tells the planned table
  pub text_determines : Rows planned_width p → Rows planned_width q → plan_text p ≡ plan_text q → p ≡ q
  unfolding plan_line
  text_determines a b e =
      let f = sym (text_whole p a.n a.whole) ∙ e ∙ text_whole q b.n b.whole in
      let head = field (word "plan ") 10 a.n b.n (row_lines p a.n) (row_lines q b.n) (omega arith)
      (simp append_assoc at f) in
      let same = (rows_tell a.n [] [] (cc)).0 in
      ext_get_or 0 p q (omega (arith, head.0))
      (λ k h.
      let i = k / planned_width in
      let s = same i (omega arith) in
      by_eq k (planned_width * i)
      (λ z. rw z s.0)
      (λ z.
      by_eq k (planned_width * i + 1)
      (λ y. rw y s.1)
      (λ y. let x : k ≡ planned_width * i + 2 = omega arith in rw x s.2)))
