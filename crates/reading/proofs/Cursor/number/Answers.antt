-- `number` meets its contract. The loop's invariant: the digits of the value have been read, and it is at most the
-- largest.
use Prim.Native.Nat.{ℕ, ◌≤◌, ◌<◌, ◌+◌}
use mathlib.Core.Path.{◌≡◌, refl, sym, ap, ◌∙◌, subst}
use mathlib.Core.List.{List, [], ◌∷◌, ◌++◌}
use native.Mathlib.Omega.{arith}
use native.Mathlib.Numerals.{add-one}
use lib.ListN.{drop, drop_of_length-le, length, get_or}
use lib.Seq.{drop-cons}
use Rattle.std.proofs.Common.{None}
use Rattle.decimal.specs.Decimal.{nought, digits, decimal}
use Rattle.decimal.proofs.Decimal.{digits_zero, decimal_digits}
use Rattle.reading.specs.inside.Piece.{OneOf, BelowDigits, number_piece}
use Rattle.reading.specs.inside.Grow.{Grows}
use Rattle.reading.specs.inside.Read.{Stays}
use Rattle.reading.specs.declared.Cursor.{Cursor}
use Rattle.reading.proofs.Numbers.{Over, number_stops, zero_stops, number_grows, reads_end}
use Rattle.reading.proofs.Cursor.number.Goals as goal
use Rattle.reading.proofs.Cursor.number.Goals.{else-least-lt1-via-then-least-lt1+else-byte-eq48}
use Rattle.reading.proofs.Cursor.number.Goals.{else-least-lt1-via-else-least-lt1}

-- the byte at hand, and what stands behind it
ahead : (text : List ℕ) (at : ℕ) → at < length text → drop at text ≡ get_or text at 0 ∷ drop (at + 1) text
ahead text at h = rw add-one (drop-cons text at 0 h)

-- the byte at hand makes no number of the digits read
over : (least most : ℕ) (ends : List ℕ) (v byte : ℕ) (behind t : List ℕ) → t ≡ byte ∷ behind → Grows most v byte None
    → (1 ≤ v → OneOf ends byte → ⊥)
    → (v ≡ 0 → byte ≡ nought → 1 ≤ least)
    → (b : ℕ) (u : List ℕ) → t ≡ b ∷ u → Over least most ends v b
over least most ends v byte behind t split grown ended zero b u e =
    subst (Over least most ends v) (ap (λ (r : List ℕ). get_or r 0 0) (sym split ∙ e))
    (record { grown = grown; ended = ended; zero = zero })

-- the digits of v have been read, and what stands at `at` neither goes on with a number nor ends one
held : (c d : Cursor) (least most : ℕ) (ends : List ℕ) (at v : ℕ) → (least ≤ 1) × (1 ≤ most) × (most ≤ 1000000000)
    × (1 ≤ length ends) × BelowDigits ends
    → (d ≡ c) × (v ≤ most) × (at ≡ c.at + length (digits v))
    × (drop c.at c.text.now ≡ digits v ++ drop at c.text.now)
    → ((b : ℕ) (u : List ℕ) → drop at c.text.now ≡ b ∷ u → Over least most ends v b)
    → Stays (number_piece least most ends) c d at
held c d least most ends at v p l over =
    record {
      text = ap (λ (x : Cursor). x.text) l.0;
      same = ap (λ (x : Cursor). x.at) l.0;
      stuck = record {
        ahead = length (digits v);
        reached = l.2;
        stops = number_stops least most ends p.4 p.3 v (drop c.at c.text.now) (drop at c.text.now) p.0 p.1 l.1 l.3
            over;
      };
    }

pub loop-at-init : goal.loop-at-init
loop-at-init c = (refl, omega arith, omega (arith, ap length digits_zero), rw digits_zero)

pub loop-at-preserved : goal.loop-at-preserved
loop-at-preserved c =
    let text = c.args.self.now.text.now in
    let l = c.loop-at in
    let byte = get_or text l.at 0 in
    let g = c.in-Some.ensures in
    let n = number_grows l.value byte c.in-Some.more g.1.0 (drop c.args.self.now.at text) (drop (l.at + 1) text)
    g.0.low g.1.1 g.1.2 (l.invariant.3 ∙ rw (ahead text l.at c.loop-at-test.true)) in
    (l.invariant.0, g.0.high, omega (arith, n.1, l.invariant.2), n.0)

pub returns-then-value-gt0 : goal.returns-then-value-gt0
returns-then-value-gt0 c =
    let a = c.args in
    let from = a.self.now in
    let text = from.text.now in
    let l = c.loop-at in
    let byte = get_or text l.at 0 in
    let behind = drop (l.at + 1) text in
    let low : 1 ≤ l.value = c.if-value-gt0.true in
    let same = decimal_digits l.value low in
    let split = ahead text l.at c.loop-at-test.true in
    reads_end _ _ _ c.requires.4 l.value from c.end.new.self l.at c.end.result
    (record { low = omega (arith, c.requires.0); high = l.invariant.1 })
    (rw same l.invariant.2) (rw same l.invariant.3)
    (λ none. rw same (number_stops a.least a.most a.ends.now c.requires.4 c.requires.3 l.value (drop from.at text)
    (drop l.at text) c.requires.0 c.requires.1 l.invariant.1 l.invariant.3
    (over a.least a.most a.ends.now l.value byte behind (drop l.at text) split c.in_default.ensures
    (λ _ o. none byte behind o split) (λ z. absurd (omega arith)))))
    (rw l.invariant.0 at c.end.ensures)

pub returns-then-byte-eq48 : goal.returns-then-byte-eq48
unfolding decimal
returns-then-byte-eq48 c =
    let a = c.args in
    let from = a.self.now in
    let text = from.text.now in
    let l = c.loop-at in
    let behind = drop (l.at + 1) text in
    let z : l.value ≡ 0 = omega arith in
    let none : digits l.value ≡ [] = ap digits z ∙ digits_zero in
    let split : drop from.at text ≡ nought ∷ behind =
    l.invariant.3 ∙ ap (λ (d : List ℕ). d ++ drop l.at text) none ∙ ahead text l.at c.loop-at-test.true
    ∙ ap (λ (b : ℕ). b ∷ behind) c.if-byte-eq48.true in
    reads_end _ _ _ c.requires.4 0 from c.end-then-byte-eq48.new.self (l.at + 1)
    c.end-then-byte-eq48.result (record { low = omega arith; high = omega arith })
    (omega (arith, l.invariant.2, ap length none)) split
    (zero_stops _ _ _ c.requires.4 c.requires.3 (drop from.at text) behind (omega arith) split)
    (rw l.invariant.0 at c.end-then-byte-eq48.ensures)

pub returns-in_default : goal.returns-in_default
returns-in_default c =
    let a = c.args in
    let text = a.self.now.text.now in
    let l = c.loop-at in
    let zero : l.value ≡ 0 → get_or text l.at 0 ≡ nought → 1 ≤ a.least =
    λ z e. elim c.else-least-lt1.branch [
      | else-least-lt1-via-then-least-lt1+else-byte-eq48 w ↦ absurd (w.if-byte-eq48.false e)
      | else-least-lt1-via-else-least-lt1 w ↦ omega arith
    ] in
    held _ _ _ _ _ _ l.value c.requires l.invariant
    (over a.least a.most a.ends.now l.value (get_or text l.at 0) _ (drop l.at text)
    (ahead text l.at c.loop-at-test.true) c.in_default.ensures (λ l. absurd (omega arith)) zero)

pub returns : goal.returns
returns c =
    let text = c.args.self.now.text.now in
    let l = c.loop-at in
    let whole : l.at ≡ length text = omega (arith, c.args.self.now.within) in
    let end : length text ≤ length text = omega arith in
    held _ _ _ _ _ _ l.value c.requires (rw whole at l.invariant)
    (λ b u e. omega (arith, ap length (sym e ∙ drop_of_length-le text end)))
