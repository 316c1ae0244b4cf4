-- `word` meets its contract. The loop's invariant: the bytes passed are those of the word.
use Prim.Native.Nat.{◌<◌, ◌+◌}
use mathlib.Core.Path.{◌≡◌, refl}
use native.Mathlib.Omega.{arith}
use lib.ListN.{length, get_or, drop, length-drop}
use lib.Seq.{get_or-drop}
use Rattle.std.proofs.lemmas.Grind.{common_steps}
use Rattle.reading.proofs.Words.{word_stops, word_passed}
use Rattle.reading.proofs.Cursor.word.Goals as goal

pub returns-then-ne : goal.returns-then-ne
returns-then-ne c =
    let a = c.args in
    let l = c.loop-i in
    let text = a.self.now.text.now in
    let at = a.self.now.at in
    let differ : l.i < length (drop at text) → get_or (drop at text) l.i 0 ≡ get_or a.word.now l.i 0 → ⊥ =
    λ p q. let h : at + l.i < length text = omega (arith, simp length-drop at p) in
    let e : get_or text (at + l.i) 0 ≡ get_or a.word.now l.i 0 = rw get_or-drop at q in grind (arith, common_steps) in
    let stops =
    word_stops a.word.now (drop at text) l.i l.invariant.1 (simp length-drop (omega arith)) (omega arith) differ in
    record { text = refl; same = refl; stuck = record { ahead = l.i; reached = refl; stops = stops } }

pub returns : goal.returns
returns c =
    let a = c.args in
    let l = c.loop-i in
    let e : l.i ≡ length a.word.now = omega arith in
    record {
      text = refl;
      passed = word_passed a.word.now a.self.now.text.now a.self.now.at (rw e at l.invariant.0) (rw e at l.invariant.1);
    }
