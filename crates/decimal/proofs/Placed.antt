-- Laws of a text in a buffer: its length, one text behind another, and that what was put is settled.
use Prim.Native.Nat.{ℕ, ◌+◌, ◌≤◌}
use mathlib.Core.Path.{◌≡◌, refl, sym, ap, ◌∙◌}
use mathlib.Core.List.{List, [], ◌∷◌, ◌++◌, append_assoc}
use native.Mathlib.Omega.{arith}
use native.Mathlib.Numerals.{add-one}
use lib.ListN.{length, get_or, take, drop, set, length-append, length-drop}
use lib.Seq.{take-suc, set_at, length-take-le, paste-zero, take_at, drop_at, drop-drop}
use Rattle.decimal.specs.inside.Placed.{placed, Put, Room, Writes}
use Rattle.decimal.specs.declared.Written.{Written}

module _ (b : List ℕ) (at : ℕ) (t : List ℕ) (fits : at + length t ≤ length b) where
  front_length : length (take at b ++ t) ≡ at + length t
  front_length = simp length-append (omega (arith, length-take-le at b (omega arith)))

  pub length_placed : length (placed b at t) ≡ length b
  length_placed = rw (length-append, front_length, length-drop) (omega arith)

  -- a text u behind the text t
  pub placed_behind : (u : List ℕ) → placed (placed b at t) (at + length t) u ≡ placed b at (t ++ u)
  placed_behind u =
      let n = at + length t in
      let e : n + length u ≡ at + length (t ++ u) = simp length-append (omega arith) in
      let front = take_at (take at b ++ t) (drop n b) n front_length in
      let rest = drop_at (take at b ++ t) (drop n b) n front_length in
      rw (front, ← drop-drop (length u) n (placed b at t), rest, drop-drop, e, append_assoc (take at b) t u)

-- a byte before the text t
pub placed_before : (b : List ℕ) (at v : ℕ) (t : List ℕ) → at + 1 + length t ≤ length b →
    set (placed b (at + 1) t) at v ≡ placed b at (v ∷ t)
placed_before b at v t fits =
    let n : length (take at b) ≡ at = length-take-le at b (omega arith) in
    let first : take (at + 1) b ≡ take at b ++ get_or b at 0 ∷ [] = rw add-one (take-suc b at 0 (omega arith)) in
    let m : at + length (v ∷ t) ≡ at + 1 + length t = omega arith in
    rw (first, m) (simp append_assoc (set_at (take at b) (get_or b at 0) (t ++ drop (at + 1 + length t) b) v at n))

-- a text put behind a text that was put
pub put_behind : {b t c u d : List ℕ} {at m n : ℕ} → at + length t ≤ length b → Put b at t c m → Put c m u d n →
    Put b at (t ++ u) d n
put_behind {b} {t} {c} {u} {d} {at} {m} {n} fits p q =
    record {
      behind = simp length-append (omega arith);
      whole = q.whole ∙ rw (p.whole, p.behind) (placed_behind b at t fits u);
    }

-- nothing put
pub put_none : (b : List ℕ) (at : ℕ) → Put b at [] b at
put_none b at = record { behind = omega arith; whole = paste-zero b at [] }

-- any two buffers and places are equal
pub put_unique : {b t c d : List ℕ} {at m n : ℕ} → Put b at t c m → Put b at t d n → (c ≡ d) × (m ≡ n)
put_unique p q = (p.whole ∙ sym q.whole, p.behind ∙ sym q.behind)

-- two texts one behind the other: room for the first, then for the second, and both written
pub room_front : {w : Written} (t u : List ℕ) → Room w (t ++ u) → Room w t
room_front t u fits = record { fits = omega (arith, simp length-append at fits.fits) }

module _ {w v : Written} {t : List ℕ} (u : List ℕ) (fits : Room w (t ++ u)) (p : Writes w t v) where
  at_end : w.at + length t + length u ≤ length w.buf.now
  at_end = omega (arith, simp length-append at fits.fits)

  pub room_behind : Room v u
  room_behind =
      let same = length_placed w.buf.now w.at t (omega (arith, at_end)) in
      record { fits = omega (arith, at_end, p.put.behind, ap length p.put.whole, same) }

  pub written_behind : {x : Written} → Writes v u x → Writes w (t ++ u) x
  written_behind q =
      record {
        same_buffer = q.same_buffer ∙ p.same_buffer;
        put = put_behind (omega (arith, at_end)) p.put q.put;
      }

-- nothing written
pub written_none : (w : Written) → Writes w [] w
written_none w = record { same_buffer = refl; put = put_none w.buf.now w.at }

-- what was written from the first byte on, as it stands in the buffer afterwards
pub written_first : {w v : Written} {t b d : List ℕ} {n : ℕ} → Writes w t v → w.buf.now ≡ b → w.at ≡ 0 →
    v.buf.now ≡ d → n ≡ v.at → Put b 0 t d n
written_first {w} {v} {t} p whole first after at =
    record { behind = rw first at (at ∙ p.put.behind); whole = sym after ∙ rw (whole, first) at p.put.whole }
