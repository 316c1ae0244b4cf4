-- Laws of reading one number: its digits one by one, where it stops, and when it has passed.
use Prim.Native.Nat.{ℕ, zero, suc, ◌+◌, ◌*◌, ◌/◌, ◌%◌, ◌≤◌, ◌<◌}
use mathlib.Core.Path.{◌≡◌, refl, sym, ap, ◌∙◌}
use mathlib.Core.Logic.{◌⊎◌, inl, inr, ⊎_elim}
use mathlib.Core.List.{List, [], ◌∷◌, ◌++◌, append_assoc, append-nil}
use native.Mathlib.Omega.{arith}
use lib.ListN.{length, get_or, drop, length-append}
use Rattle.counting.proofs.Cases.{by_eq}
use Rattle.decimal.specs.Decimal.{nought, digits, decimal}
use Rattle.decimal.proofs.Decimal.{digits_zero, digits_last, digits_more, decimal_digits, some}
use Rattle.reading.specs.Begins.{Begins, Between}
use Rattle.reading.specs.inside.Piece.{OneOf, BelowDigits, number_piece, Stops}
use Rattle.std.proofs.Common.{Result, Ok, Err}
use Rattle.reading.specs.inside.Grow.{Digit}
use Rattle.reading.specs.inside.Read.{ReadsNumber, EndsNumber}
use Rattle.reading.specs.declared.Cursor.{Cursor}
use Rattle.reading.specs.declared.Number.{Number}
use Rattle.reading.proofs.Pieces.{stops_behind, Code}

-- s goes on with the digits that make w of v, and has the byte end behind them
abbrev Ends : ℕ → ℕ → List ℕ → ℕ → Type 0
Ends end v [] w = ⊥
Ends end v (b ∷ s) w =
    ((b ≡ end) × (v ≡ w))
    ⊎ ((d : ℕ) × Digit b d × (1 ≤ 10 * v + d) × Ends end (10 * v + d) s w)

-- no number but 0 begins with the digit 0
nonzero : (k v : ℕ) (t x : List ℕ) → v ≤ k → 1 ≤ v → digits v ++ t ≡ nought ∷ x → ⊥
nonzero zero v t x h l e = omega arith
nonzero (suc k) v t x h l e =
    let f : digits (v / 10) ++ ((nought + v % 10) ∷ t) ≡ nought ∷ x = rw (digits_last v l, append_assoc) at e in
    by_eq (v / 10) 0
    (λ z.
    let g : (nought + v % 10) ∷ t ≡ nought ∷ x = rw (z, digits_zero) at f in
    omega (arith, ap (λ (r : List ℕ). get_or r 0 0) g))
    (λ z. nonzero k (v / 10) ((nought + v % 10) ∷ t) x (omega arith) (omega arith) f)

module _ (end : ℕ) (low : end < nought) where
  -- the digits of v in front of a text, put there and taken off again
  front : (k v w : ℕ) (t : List ℕ) → v ≤ k →
      (Ends end v t w → Ends end 0 (digits v ++ t) w) × (Ends end 0 (digits v ++ t) w → Ends end v t w)
  front zero v w t h = let z : v ≡ 0 = omega arith in rw (z, digits_zero) ((λ e. e), (λ e. e))
  front (suc k) v w t h =
      by_eq v 0
      (λ z. rw (z, digits_zero) ((λ e. e), (λ e. e)))
      (λ z.
      let digit : Digit (nought + v % 10) (v % 10) = record { small = omega arith; byte = refl } in
      let last : 10 * (v / 10) + v % 10 ≡ v = omega arith in
      let f = front k (v / 10) w ((nought + v % 10) ∷ t) (omega arith) in
      rw (digits_last v (omega arith), append_assoc) (
        (λ e. f.0 (inr (v % 10, digit, omega arith, rw last e))),
        (λ e. ⊎_elim
            (λ a. absurd (omega arith))
            (λ a. let same : 10 * (v / 10) + a.0 ≡ v = omega arith in rw same at a.3)
            (f.1 e)),
      ))

  grows : (s : List ℕ) (v w : ℕ) → Ends end v s w → v ≤ w
  grows [] v w e = absurd e
  grows (b ∷ s) v w e = ⊎_elim (λ a. omega arith) (λ a. omega (arith, grows s (10 * v + a.0) w a.3)) e

  -- the text of a number
  number_ends : (w : ℕ) (y : List ℕ) → 1 ≤ w → Ends end 0 ((decimal w ++ end ∷ []) ++ y) w
  number_ends w y h = rw (decimal_digits w h, append_assoc) ((front w w w (end ∷ y) (omega arith)).0 (inl (refl, refl)))

  -- what stands behind the digits of v, where the text of a number w begins with them
  next : (v w : ℕ) (t y : List ℕ) → digits v ++ t ≡ (decimal w ++ end ∷ []) ++ y →
      ((1 ≤ w) × Ends end v t w) ⊎ ((v ≡ 0) × (w ≡ 0) × (t ≡ nought ∷ end ∷ y))
  unfolding decimal
  next v w t y e =
      by_eq w 0
      (λ q. by_eq v 0
      (λ p. inr (p, q, rw (p, q, digits_zero) at e))
      (λ p. absurd (nonzero v v t (end ∷ y) (omega arith) (omega arith) (rw q at e))))
      (λ q. inl (omega arith, (front v v w t (omega arith)).1 (rw (← e) at (number_ends w y (omega arith)))))

  -- behind the digit 0 only that of the number 0 does
  pub behind_zero : (w b : ℕ) (z y : List ℕ) → nought ∷ b ∷ z ≡ (decimal w ++ end ∷ []) ++ y → (w ≡ 0) × (b ≡ end)
  behind_zero w b z y e =
      ⊎_elim
      (λ a. absurd (⊎_elim (λ q. omega arith) (λ q. omega arith) a.1))
      (λ a. (a.1, ap (λ (r : List ℕ). get_or r 1 0) a.2))
      (next 0 w (nought ∷ b ∷ z) y (rw digits_zero e))

-- a decimal text with a byte behind it that is no digit tells the number, 0 among them, and the byte
pub decimal_tells : (e f : ℕ) → e < nought → f < nought → (v w : ℕ) (x y : List ℕ) →
    decimal v ++ (e ∷ x) ≡ decimal w ++ (f ∷ y) → (v ≡ w) × (e ≡ f)
unfolding decimal
decimal_tells e f le lf v w x y h =
    let g : decimal v ++ (e ∷ x) ≡ (decimal w ++ f ∷ []) ++ y = rw append_assoc h in
    by_eq v 0
    (λ p. let z = behind_zero f lf w e x y (rw p at g) in (p ∙ sym z.0, z.1))
    (λ p. ⊎_elim
    (λ a. ⊎_elim (λ q. (q.1, q.0)) (λ q. absurd (omega arith)) a.1)
    (λ a. absurd (p a.0))
    (next f lf v w (e ∷ x) y (rw (← decimal_digits v (omega arith)) g)))

-- the byte b behind the digits of v goes on with no number and ends none
pub record Over (least most : ℕ) (ends : List ℕ) (v b : ℕ) : Type 0 where
  pub grown : (d : ℕ) → Digit b d → Between 1 most (10 * v + d) → ⊥
  pub ended : 1 ≤ v → OneOf ends b → ⊥
  pub zero : v ≡ 0 → b ≡ nought → 1 ≤ least

below_digits : (ends : List ℕ) → BelowDigits ends → (e : ℕ) → OneOf ends e → e < nought
below_digits [] low e o = absurd o
below_digits (x ∷ xs) low e o = ⊎_elim (λ a. omega (arith, low.0)) (λ a. below_digits xs low.1 e a) o

one_of_some : (ends : List ℕ) → 1 ≤ length ends → (e : ℕ) × OneOf ends e
one_of_some [] h = absurd (omega arith)
one_of_some (x ∷ xs) h = (x, inl refl)

-- the piece of a number, whose bytes at the end are no digits
module _ (least most : ℕ) (ends : List ℕ) (low : BelowDigits ends) where
  below : (e : ℕ) → OneOf ends e → e < nought
  below = below_digits ends low

  pub code_number : Code (number_piece least most ends)
  code_number a b ha hb x y e =
      let t = decimal_tells a.1 b.1 (below a.1 ha.1) (below b.1 hb.1) a.0 b.0 x y
      (simp append_assoc at e) in
      λ i. (t.0 i, t.1 i)

  -- stuck behind the digits of v, of which 0 has none
  pub number_stops : 1 ≤ length ends → (v : ℕ) (s t : List ℕ) → least ≤ 1 → 1 ≤ most → v ≤ most → s ≡ digits v ++ t →
      ((b : ℕ) (u : List ℕ) → t ≡ b ∷ u → Over least most ends v b) →
      Stops (number_piece least most ends) s (length (digits v))
  number_stops one_end v s t few one high split over =
      stops_behind (number_piece least most ends) (digits v) t split begun
      (λ w hw y e. ⊎_elim
      (λ a. a.1)
      (λ a. omega (arith, ap length a.2))
      (next w.1 (below w.1 hw.1) v w.0 [] y (append-nil (digits v) ∙ e)))
      (λ b u e w hw z y g.
      let o = over b u e in
      let low = below w.1 hw.1 in
      ⊎_elim
      (λ a. ⊎_elim
      (λ q. o.ended (omega arith) (rw (← q.0) at hw.1))
      (λ q.
      let more = grows w.1 low z (10 * v + q.0) w.0 q.3 in
      o.grown q.0 q.1 (record { low = q.2; high = omega arith }))
      a.1)
      (λ a. omega (arith, o.zero a.0 (ap (λ (r : List ℕ). get_or r 0 0) a.2), hw.0.low, a.1))
      (next w.1 low v w.0 (b ∷ z) y g))
    where
      begun : (w : ℕ × ℕ) × (number_piece least most ends).Allowed w
          × Begins (digits v) ((number_piece least most ends).text w)
      begun =
          let end = one_of_some ends one_end in
          by_eq v 0
          (λ z. (
            (1, end.0),
            (record { low = few; high = one }, end.1),
            (decimal 1 ++ end.0 ∷ [], rw (z, digits_zero)),
          ))
          (λ z. (
            (v, end.0),
            (record { low = omega arith; high = high }, end.1),
            (end.0 ∷ [], rw (decimal_digits v (omega arith))),
          ))

  -- stuck behind the digit 0
  pub zero_stops : 1 ≤ length ends → (s t : List ℕ) → least ≤ 0 → s ≡ nought ∷ t
      → ((e : ℕ) (u : List ℕ) → OneOf ends e → t ≡ e ∷ u → ⊥)
      → Stops (number_piece least most ends) s 1
  unfolding decimal
  zero_stops one_end s t none split over =
      let end = one_of_some ends one_end in
      stops_behind (number_piece least most ends) (nought ∷ []) t split
      ((0, end.0), (record { low = none; high = omega arith }, end.1), (end.0 ∷ [], refl))
      (λ w hw y e. omega (arith, some w.0, simp length-append at (ap length e)))
      (λ b u e w hw z y g.
      let f = behind_zero w.1 (below w.1 hw.1) w.0 b z y g in
      over b u (rw (← f.1) at hw.1) e)

  -- a number v that stands there, and what is found behind it
  pub reads_end : (v : ℕ) (c d : Cursor) (m : ℕ) (r : Result Number ℕ) → Between least most v →
      m ≡ c.at + length (decimal v) → drop c.at c.text.now ≡ decimal v ++ drop m c.text.now
      → (((e : ℕ) (u : List ℕ) → OneOf ends e → drop m c.text.now ≡ e ∷ u → ⊥) →
      Stops (number_piece least most ends) (drop c.at c.text.now) (length (decimal v)))
      → EndsNumber v ends m c d r → ReadsNumber least most ends c d r
  reads_end v c d m (Ok n) h reached split stops f =
      record {
        text = f.2;
        passed = rw f.0 (record {
          allowed = (h, f.1);
          within = f.4;
          behind = omega (arith, f.3, length-append (decimal v) (n.end ∷ []));
          split = cc (append_assoc (decimal v) (n.end ∷ []) (drop d.at c.text.now), f.5);
        });
      }
  reads_end v c d m (Err place) h reached split stops f =
      record {
        text = f.1;
        same = f.2;
        stuck = record { ahead = length (decimal v); reached = omega (arith, f.0); stops = stops f.3 };
      }

-- one digit more
pub number_grows : (v b r d : ℕ) (s u : List ℕ) → 1 ≤ r → Digit b d → r ≡ 10 * v + d → s ≡ digits v ++ (b ∷ u)
    → (s ≡ digits r ++ u) × (length (digits r) ≡ length (digits v) + 1)
number_grows v b r d s u low digit more e =
    let f : digits r ≡ digits v ++ b ∷ [] = rw (more, digit.byte) (digits_more v d (omega arith) (omega arith)) in
    (cc (append_assoc (digits v) (b ∷ []) u), rw (f, length-append))
