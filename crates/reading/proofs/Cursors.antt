-- Laws of what a cursor reads: one piece behind another, and one piece for another with the same texts.
use Prim.Native.Nat.{ℕ}
use mathlib.Core.Path.{◌∙◌}
use Rattle.reading.specs.inside.Piece.{Piece, followed, Stuck}
use Rattle.reading.specs.inside.Read.{Past}
use Rattle.reading.specs.declared.Cursor.{Cursor}
use Rattle.reading.proofs.Pieces.{Code, passed_both, stuck_second, Alike, alike_passed}

module _ {P : Piece} (Q : P.Value → Piece) {c d : Cursor} {v : P.Value} (p : Past P c d v) where
  pub past_both : {e : Cursor} {w : (Q v).Value} → Past (Q v) d e w → Past (followed P Q) c e (v, w)
  past_both q = record { text = q.text ∙ p.text; passed = passed_both P Q p.passed (rw p.text at q.passed) }

  pub past_stuck : Code P → {place : ℕ} → Stuck (Q v) d.text.now d.at place →
      Stuck (followed P Q) c.text.now c.at place
  past_stuck code h = stuck_second P Q code p.passed (rw p.text at h)

pub past_alike : {P Q : Piece} (e : Alike P Q) {c d : Cursor} {v : P.Value} → Past P c d v → Past Q c d (e.to v)
past_alike e p = record { text = p.text; passed = alike_passed e p.passed }
