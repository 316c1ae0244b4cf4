-- Laws of reading one word: where it stops, and when it has passed.
use Prim.Native.Nat.{ℕ, suc, ◌+◌, ◌≤◌, ◌<◌}
use mathlib.Core.Path.{◌≡◌, refl, sym, ap}
use mathlib.Core.List.{List}
use native.Mathlib.Omega.{arith}
use lib.ListN.{length, get_or, take, drop, length-append, take-append-drop, get_or-append}
use lib.Seq.{get_or-take, length-take-le, drop-drop, take-length}
use Rattle.reading.specs.Begins.{Begins}
use Rattle.reading.specs.inside.Piece.{word_piece, Stops, Passed}

module _ (w s : List ℕ) (i : ℕ) (same : take i s ≡ take i w) where
  begun : Begins (take i s) w
  begun = (drop i w, rw (same, take-append-drop))

  -- the text ends within the word, or goes on with another byte than the word
  pub word_stops : i ≤ length s → i < length w → (i < length s → get_or s i 0 ≡ get_or w i 0 → ⊥) →
      Stops (word_piece w) s i
  word_stops e h d =
      record {
        within = e;
        begun = (tt, tt, begun);
        no_more = λ l v hv y g.
            let long : i < length (take (suc i) s) = omega (arith, length-take-le (suc i) s l) in
            let next : i < suc i = omega arith in
            d l (simp (get_or-append, get_or-take) at (ap (λ (k : List ℕ). get_or k i 0) g.1));
        no_text = λ v hv y g.
            d (omega (arith, simp length-append at (ap length g)))
            (rw get_or-append at (ap (λ (k : List ℕ). get_or k i 0) g));
      }

-- the whole word
pub word_passed : (w s : List ℕ) (at : ℕ) → at + length w ≤ length s → take (length w) (drop at s) ≡ take (length w) w →
    Passed (word_piece w) s at tt (at + length w)
word_passed w s at fits same =
    record {
      allowed = tt;
      within = fits;
      behind = refl;
      split = rw (same, take-length, drop-drop) at (sym (take-append-drop (length w) (drop at s)));
    }
