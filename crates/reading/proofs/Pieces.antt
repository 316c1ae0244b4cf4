-- Laws of pieces of text: a piece behind another, and one piece for another with the same texts.
use Prim.Native.Nat.{ℕ, suc, ◌+◌, ◌≤◌}
use mathlib.Core.Path.{◌≡◌, refl, sym, ap, ◌∙◌, path_j, path_j'}
use mathlib.Core.List.{List, [], ◌∷◌, ◌++◌, append_assoc, append-nil}
use native.Mathlib.Omega.{arith}
use native.Mathlib.Nat.{add-suc}
use native.Mathlib.Numerals.{add-one}
use lib.ListN.{length, take, drop, length-append, take-append-drop}
use lib.Seq.{take-append-add, take-append_seam, take-length, take-take}
use Rattle.reading.specs.Begins.{Begins}
use Rattle.reading.specs.inside.Piece.{Piece, word_piece, followed, Stops, Passed, Stuck}

-- what stands behind the same beginning is the same
pub cancel : (p : List ℕ) {x y : List ℕ} → p ++ x ≡ p ++ y → x ≡ y
cancel [] e = e
cancel (a ∷ p) {x} {y} e = cancel p (let tail : p ++ x ≡ p ++ y = cc in tail)

-- what begins with more of s begins with less of it
pub begins_less : (s : List ℕ) {t : List ℕ} (p q : ℕ) → p ≤ q → Begins (take q s) t → Begins (take p s) t
begins_less s p q h b = (drop p (take q s) ++ b.0, rw (← take-take p q s h, ← append_assoc, take-append-drop) b.1)

-- what a text begins with, the text with more behind it begins with
pub begins_on : (p : List ℕ) {t : List ℕ} (u : List ℕ) → Begins p t → Begins p (t ++ u)
begins_on p u b = (b.0 ++ u, cc (append_assoc p b.0 u))

-- and with the same in front of both
pub begins_behind : (a p : List ℕ) {t : List ℕ} → Begins p t → Begins (a ++ p) (a ++ t)
begins_behind a p b = (b.0, cc (append_assoc a p b.0))

-- what was read begins some text of the piece and is none, and the text ends there or has a byte that goes on with none
pub stops_behind : (P : Piece) (read t : List ℕ) {s : List ℕ} → s ≡ read ++ t
    → (v : P.Value) × P.Allowed v × Begins read (P.text v)
    → ((v : P.Value) → P.Allowed v → (y : List ℕ) → read ≡ P.text v ++ y → ⊥)
    → ((b : ℕ) (u : List ℕ) → t ≡ b ∷ u → (v : P.Value) → P.Allowed v → (z y : List ℕ) →
    read ++ (b ∷ z) ≡ P.text v ++ y → ⊥)
    → Stops P s (length read)
stops_behind P read [] {s} e begun short wrong =
    let whole : s ≡ read = e ∙ append-nil read in
    record {
      within = omega (arith, ap length whole);
      begun = rw (whole, take-length) begun;
      no_more = λ l v hv y g. omega (arith, ap length whole);
      no_text = λ v hv y g. short v hv y (sym whole ∙ g);
    }
stops_behind P read (b ∷ u) {s} e begun short wrong =
    let here : take (suc (length read)) s ≡ read ++ b ∷ [] = rw (← add-one, e, take-append-add) in
    record {
      within = omega (arith, ap length e, length-append read (b ∷ u));
      begun = rw (e, take-append_seam) begun;
      no_more = λ l v hv y g. wrong b u refl v hv g.0 y (cc (append_assoc read (b ∷ []) g.0));
      no_text = λ v hv y g. wrong b u refl v hv u y (sym e ∙ g);
    }

-- a text of the piece, whatever follows it, tells its value
abbrev pub Code : Piece → Type 0
Code P = (a b : P.Value) → P.Allowed a → P.Allowed b → (x y : List ℕ) → P.text a ++ x ≡ P.text b ++ y → a ≡ b

pub code_word : (w : List ℕ) → Code (word_piece w)
code_word w a b ha hb x y e = refl

-- and what follows it
pub code_rest : (P : Piece) → Code P → (a b : P.Value) → P.Allowed a → P.Allowed b → (x y : List ℕ) →
    P.text a ++ x ≡ P.text b ++ y → x ≡ y
code_rest P code a b ha hb x y e = cancel (P.text b) (rw (code a b ha hb x y e) at e)

module _ (P : Piece) (Q : P.Value → Piece) where
  -- two values with the same first part
  same_first : (v w : P.Value) → v ≡ w → (c : (Q v).Value) (d : (Q w).Value) → (Q v).Allowed c → (Q w).Allowed d
      → ((u : P.Value) → Code (Q u)) → (x y : List ℕ) → (Q v).text c ++ x ≡ (Q w).text d ++ y →
      ◌≡◌ {A = (followed P Q).Value} (v, c) (w, d)
  same_first v w =
      path_j (λ w _. (c : (Q v).Value) (d : (Q w).Value) → (Q v).Allowed c → (Q w).Allowed d
      → ((u : P.Value) → Code (Q u)) → (x y : List ℕ) → (Q v).text c ++ x ≡ (Q w).text d ++ y →
      ◌≡◌ {A = (followed P Q).Value} (v, c) (w, d))
      (λ c d hc hd code x y e. ap (λ (z : (Q v).Value). (v, z)) (code v c d hc hd x y e))

  pub code_followed : Code P → ((v : P.Value) → Code (Q v)) → Code (followed P Q)
  code_followed p q a b ha hb x y e =
      let f = simp append_assoc at e in
      let u = p a.0 b.0 ha.0 hb.0 ((Q a.0).text a.1 ++ x) ((Q b.0).text b.1 ++ y) f in
      let r = code_rest P p a.0 b.0 ha.0 hb.0 ((Q a.0).text a.1 ++ x) ((Q b.0).text b.1 ++ y) f
      in same_first a.0 b.0 u a.1 b.1 ha.1 hb.1 q x y r

  -- stuck in the first, where some text of the second could follow whatever it is
  followed_first : {s : List ℕ} {p : ℕ} → Stops P s p →
      ((v : P.Value) → P.Allowed v → (b : (Q v).Value) × (Q v).Allowed b) → Stops (followed P Q) s p
  followed_first {s} {p} h some =
      let v = h.begun.0 in
      let b = some v h.begun.1 in
      record {
        within = h.within;
        begun = ((v, b.0), (h.begun.1, b.1), begins_on (take p s) ((Q v).text b.0) h.begun.2);
        no_more = λ l v hv y g. h.no_more l v.0 hv.0 ((Q v.0).text v.1 ++ y) (rw append_assoc at g);
        no_text = λ v hv y e. h.no_text v.0 hv.0 ((Q v.0).text v.1 ++ y) (rw append_assoc at e);
      }

  -- what a text behind one of the first goes on with
  behind : Code P → (a : P.Value) → P.Allowed a → {X : Type 0} (x y : List ℕ)
      → ((b : (Q a).Value) → (Q a).Allowed b → x ≡ (Q a).text b ++ y → X)
      → (v : (followed P Q).Value) → (followed P Q).Allowed v → P.text a ++ x ≡ (followed P Q).text v ++ y → X
  behind code a ha {X} x y f v hv e =
      let g = simp append_assoc at e in
      let z = (Q v.0).text v.1 ++ y in
      let u = code a v.0 ha hv.0 x z g in
      path_j' (λ (c : P.Value) _. ((b : (Q c).Value) → (Q c).Allowed b → x ≡ (Q c).text b ++ y → X) → X)
      (λ k. k v.1 hv.1 (code_rest P code a v.0 ha hv.0 x z g)) u f

  -- past the first and stuck in the second
  followed_second : {s t : List ℕ} {p : ℕ} → Code P → (a : P.Value) → P.Allowed a → s ≡ P.text a ++ t →
      Stops (Q a) t p → Stops (followed P Q) s (length (P.text a) + p)
  followed_second {s} {t} {p} code a ha e h =
      let long : length s ≡ length (P.text a) + length t = rw (e, length-append) in
      let front : (m : ℕ) → take (length (P.text a) + m) s ≡ P.text a ++ take m t = λ m. rw (e, take-append-add) in
      record {
        within = omega arith;
        begun =
            let g = h.begun in ((a, g.0), (ha, g.1), rw (front p) (begins_behind (P.text a) (take p t) g.2));
        no_more = λ l v hv y g.
            behind code a ha (take (suc p) t ++ g.0) y
            (λ b hb f. h.no_more (omega arith) b hb y (g.0, f)) v hv
            (rw (← add-suc, front (suc p), append_assoc) at g.1);
        no_text = λ v hv y g. behind code a ha t y (λ b hb f. h.no_text b hb y f) v hv (rw e at g);
      }

  pub stuck_first : {s : List ℕ} {at place : ℕ} → Stuck P s at place →
      ((v : P.Value) → P.Allowed v → (b : (Q v).Value) × (Q v).Allowed b) → Stuck (followed P Q) s at place
  stuck_first h some = record { ahead = h.ahead; reached = h.reached; stops = followed_first h.stops some }

  pub stuck_second : {s : List ℕ} {at m place : ℕ} {a : P.Value} → Code P → Passed P s at a m →
      Stuck (Q a) s m place → Stuck (followed P Q) s at place
  stuck_second {s} {at} {m} {place} {a} code f h =
      record {
        ahead = length (P.text a) + h.ahead;
        reached = omega arith;
        stops = followed_second code a f.allowed f.split h.stops;
      }

  pub passed_both : {s : List ℕ} {at m n : ℕ} {a : P.Value} {b : (Q a).Value} → Passed P s at a m →
      Passed (Q a) s m b n → Passed (followed P Q) s at (a, b) n
  passed_both {s} {at} {m} {n} {a} {b} f g =
      record {
        allowed = (f.allowed, g.allowed);
        within = g.within;
        behind = omega (arith, length-append (P.text a) ((Q a).text b));
        split = cc (append_assoc (P.text a) ((Q a).text b) (drop n s));
      }

-- two pieces with the same texts: what the first allows tells what the second allows, and all of it
pub record Alike (P Q : Piece) : Type 0 where
  pub to : P.Value → Q.Value
  pub allowed : (v : P.Value) → P.Allowed v → Q.Allowed (to v)
  pub text : (v : P.Value) → P.Allowed v → P.text v ≡ Q.text (to v)
  pub all : (w : Q.Value) → Q.Allowed w → (v : P.Value) × P.Allowed v × (to v ≡ w)

module _ {P Q : Piece} (e : Alike P Q) where
  back : (w : Q.Value) (h : Q.Allowed w) → P.text (e.all w h).0 ≡ Q.text w
  back w h = let v = e.all w h in e.text v.0 v.1 ∙ ap Q.text v.2

  alike_stops : {s : List ℕ} {p : ℕ} → Stops P s p → Stops Q s p
  alike_stops {s} {p} h =
      record {
        within = h.within;
        begun = let g = h.begun in (e.to g.0, e.allowed g.0 g.1, rw (← e.text g.0 g.1) g.2);
        no_more = λ l w hw y g. let v = e.all w hw in h.no_more l v.0 v.1 y (rw (back w hw) g);
        no_text = λ w hw y g. let v = e.all w hw in h.no_text v.0 v.1 y (rw (back w hw) g);
      }

  pub alike_stuck : {s : List ℕ} {at place : ℕ} → Stuck P s at place → Stuck Q s at place
  alike_stuck h = record { ahead = h.ahead; reached = h.reached; stops = alike_stops h.stops }

  pub alike_passed : {s : List ℕ} {at n : ℕ} {v : P.Value} → Passed P s at v n → Passed Q s at (e.to v) n
  alike_passed {s} {at} {n} {v} f =
      record {
        allowed = e.allowed v f.allowed;
        within = f.within;
        behind = rw (← e.text v f.allowed) f.behind;
        split = rw (← e.text v f.allowed) f.split;
      }

  pub alike_code : Code P → Code Q
  alike_code code a b ha hb x y h =
      let v = e.all a ha in
      let w = e.all b hb in
      let same = code v.0 w.0 v.1 w.1 x y (rw (back a ha, back b hb) h) in
      sym v.2 ∙ ap e.to same ∙ w.2
