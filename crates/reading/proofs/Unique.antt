-- Any two answers that the promise of a reader allows are equal.
use Prim.Native.Nat.{ℕ, suc, ◌≤◌}
use mathlib.Core.Path.{◌≡◌, refl, sym, ap, ◌∙◌}
use mathlib.Core.List.{List, [], append-nil}
use native.Mathlib.Omega.{arith}
use lib.ListN.{drop}
use Rattle.counting.proofs.Cases.{by_le}
use Rattle.reading.specs.inside.Piece.{Piece, BelowDigits, Stops, Passed, Stuck}
use Rattle.std.proofs.Common.{Result, Ok, Err}
use Rattle.reading.specs.inside.Read.{ReadsWord, ReadsNumber}
use Rattle.reading.specs.declared.Cursor.{Cursor}
use Rattle.reading.specs.declared.Number.{Number}
use Rattle.reading.proofs.Pieces.{begins_less, Code, code_word}
use Rattle.reading.proofs.Numbers.{code_number}

module _ {P : Piece} where
  -- where one text of the piece begins with q bytes, the reader does not stop before them
  stops_late : {s : List ℕ} {p q : ℕ} → Stops P s p → Stops P s q → q ≤ p
  stops_late {s} {p} {q} a b =
      let g = b.begun in
      by_le q p (λ h. h)
      (λ h. absurd (a.no_more (omega arith) g.0 g.1 [] (rw append-nil (begins_less s (suc p) q h g.2))))

  stuck_unique : {s : List ℕ} {at p q : ℕ} → Stuck P s at p → Stuck P s at q → p ≡ q
  stuck_unique a b = omega (arith, stops_late a.stops b.stops, stops_late b.stops a.stops)

  passed_or_stuck : {s : List ℕ} {at n place : ℕ} {v : P.Value} → Passed P s at v n → Stuck P s at place → ⊥
  passed_or_stuck {s} {n = n} {v = v} a b = b.stops.no_text v a.allowed (drop n s) a.split

  passed_unique : Code P → {s : List ℕ} {at m n : ℕ} {v w : P.Value} → Passed P s at v m → Passed P s at w n →
      (v ≡ w) × (m ≡ n)
  passed_unique code {s} {at} {m} {n} {v} {w} a b =
      let e = code v w a.allowed b.allowed (drop m s) (drop n s) (sym a.split ∙ b.split) in (e, cc)

-- the same answer, and the cursor at the same place in the same text
pub word_unique : (w : List ℕ) (c d e : Cursor) (a b : Result (Unit {0}) ℕ) → ReadsWord w c d a → ReadsWord w c e b →
    (a ≡ b) × (d.text ≡ e.text) × (d.at ≡ e.at)
word_unique w c d e (Ok _) (Ok _) p q =
    let same = passed_unique (code_word w) p.passed q.passed in (refl, p.text ∙ sym q.text, same.1)
word_unique w c d e (Ok _) (Err place) p q = absurd (passed_or_stuck p.passed q.stuck)
word_unique w c d e (Err place) (Ok _) p q = absurd (passed_or_stuck q.passed p.stuck)
word_unique w c d e (Err _) (Err _) p q =
    (ap Err (stuck_unique p.stuck q.stuck), p.text ∙ sym q.text, p.same ∙ sym q.same)

pub number_unique : (least most : ℕ) (ends : List ℕ) → BelowDigits ends → (c d e : Cursor)
    (a b : Result Number ℕ) → ReadsNumber least most ends c d a → ReadsNumber least most ends c e b →
    (a ≡ b) × (d.text ≡ e.text) × (d.at ≡ e.at)
number_unique least most ends low c d e (Ok v) (Ok w) p q =
    let same = passed_unique (code_number least most ends low) p.passed q.passed in
    ((λ i. Ok (record { value = (same.0 i).0; end = (same.0 i).1 })), p.text ∙ sym q.text, same.1)
number_unique least most ends low c d e (Ok v) (Err _) p q = absurd (passed_or_stuck p.passed q.stuck)
number_unique least most ends low c d e (Err _) (Ok w) p q = absurd (passed_or_stuck q.passed p.stuck)
number_unique least most ends low c d e (Err _) (Err _) p q =
    (ap Err (stuck_unique p.stuck q.stuck), p.text ∙ sym q.text, p.same ∙ sym q.same)
