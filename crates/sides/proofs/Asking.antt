-- Laws of a packed level: it is small where the table is sound, and asks for what the rows of the table ask for.
use Prim.Native.Nat.{ℕ, ◌+◌, ◌*◌, ◌/◌, ◌≤◌, ◌<◌}
use mathlib.Core.Path.{◌≡◌, refl, sym, ap, ◌∙◌}
use mathlib.Core.Bool.{Bool, true, false, ◌&&◌, and-true}
use mathlib.Core.List.{List}
use native.Mathlib.Omega.{arith}
use native.Mathlib.Nat.{mul-le-mul, div-eq_of_lt}
use lib.Dec.{ltb}
use lib.ListN.{length, take, get_or}
use lib.Seq.{length-take-le, get_or-take}
use borrow.Author.Tests.{lt-ltb, le-ltb}
use Rattle.counting.specs.Sum.{given, sum}
use Rattle.counting.proofs.Cases.{by_le}
use Rattle.counting.proofs.Sum.{sum_add, sum_ext}
use Rattle.tables.specs.Table.{Table, Sound, most, most_rows}
use Rattle.test.specs.Test.{horizon, upto, load, every_row}
use Rattle.sides.specs.declared.ask.Ask.{Ask}
use Rattle.sides.specs.inside.Asks.{nothing, row, run, part_of, again, Asks}
use Rattle.sides.specs.inside.Level.{runs_of, later, Picked, Packed}
use Rattle.sides.proofs.Inverse.{by_inverse}
use Rattle.sides.proofs.Level.{Asking}
use Rattle.sides.proofs.Pack.{over_same}
use Rattle.sides.proofs.Rows.{over_rows}

-- the first m rows of the level are those rows of the asks at which P passes, whatever their places and their kind
pub record Holding {A : Type 0} (none : A) (asks : List A) (P : ℕ → Bool) (level : List A) (m : ℕ) : Type 0 where
  pub few : m ≤ most_rows
  pub same : (f : A → ℕ) → sum (λ p. f (get_or level p none)) m
      ≡ sum (λ j. given (P j) (f (get_or asks j none))) (length asks)

pub packed_holding : {A : Type 0} {none : A} {asks : List A} {P : ℕ → Bool} {before level : List A} {m : ℕ} →
    Picked none asks P before level m → Holding none asks P level m
packed_holding w = record { few = w.few; same = λ f. w.same (λ _ a. f a) }

module _ {A : Type 0} {none : A} {asks : List A} {P : ℕ → Bool} {level : List A} {m : ℕ}
    (w : Holding none asks P level m) where
  -- the packed rows as a slice
  front_many : length level ≡ most_rows → length (take m level) ≡ m
  front_many whole = length-take-le m level (omega (arith, w.few))

  front : (f : A → ℕ) → sum (λ p. f (get_or (take m level) p none)) m ≡ sum (λ p. f (get_or level p none)) m
  front f = over_same none (take m level) level m (λ p h. get_or-take m level p none h) (λ _ a. f a)

  pub held_front : length level ≡ most_rows →
      let l = take m level in Holding none asks P l (length l)
  held_front whole =
      let l = take m level in
      let e = front_many whole in
      record {
        few = omega (arith, e, w.few);
        same = λ f. ap (sum (λ p. f (get_or l p none))) e ∙ front f ∙ w.same f;
      }

-- of the rows at which P passes those are kept, at which Q passes, that are released again before the bound
abbrev pub Kept : Table → (ℕ → Bool) → ℕ → (ℕ → Bool) → Type 0
Kept tb P bound Q = (j : ℕ) → j < tb.n → Q j ≡ (P j && again tb bound j)

module _ {tb : Table} {asks : List Ask} (sound : Sound tb) (a : Asks tb asks) where
  rows : length asks ≡ tb.n
  rows = omega (arith, a.long)

  -- before the bound, a row that is not released again asks for nothing after the first tick
  later_part : (s T C : ℕ) {bound : ℕ} (p q : Bool) → 1 ≤ T → s < bound → q ≡ (p && ltb T bound) →
      given p ((0 / T + 1) * C) + given q (s / T * C) ≡ given p ((s / T + 1) * C)
  later_part s T C {bound} true q some h e =
      let none : 0 / T ≡ 0 = div-eq_of_lt some in
      by_le bound T
      (λ l.
      let zero : s / T ≡ 0 = div-eq_of_lt (omega arith) in
      rw (e, le-ltb T bound l, none, zero) (omega arith))
      (λ l. rw (e, lt-ltb T bound l, none) (omega arith))
  later_part s T C false q some h e = rw e

  -- the level holds the rows at which P passes and that are released again before the bound
  module _ {P : ℕ → Bool} {bound : ℕ} (within : bound ≤ horizon + 1) where
    asking_of : {Q : ℕ → Bool} {level : List Ask} → Kept tb P bound Q → Holding nothing asks Q level (length level) →
        Asking tb P bound level
    unfolding later load
    asking_of {Q} {level} kept w =
        record {
          few = w.few;
          asks =
              λ s h.
              let held : later level s ≡ sum (λ j. given (Q j) (s / tb.T j * tb.C j)) tb.n =
              over_rows (λ a. part_of a s) level
              ∙ w.same (λ a. part_of a s)
              ∙ ap (sum (λ j. given (Q j) (part_of (row asks j) s))) rows
              ∙ sum_ext _ _ tb.n
              (λ j l.
              let T = (sound.row j l).T in
              let small : s * tb.T j ≤ horizon * most =
              mul-le-mul {n₂ = horizon} {m₂ = most} (omega arith) T.high in
              rw (a.runs j l, a.inverses j l, by_inverse s (tb.T j) T.low (omega arith))) in
              ap (λ x. sum (λ j. given (P j) ((0 / tb.T j + 1) * tb.C j)) tb.n + x) held
              ∙ sym (sum_add (λ j. given (P j) ((0 / tb.T j + 1) * tb.C j))
              (λ j. given (Q j) (s / tb.T j * tb.C j)) tb.n)
              ∙ sum_ext _ _ tb.n
              (λ j l. later_part s (tb.T j) (tb.C j) (P j) (Q j) (sound.row j l).T.low h (kept j l));
        }

    -- the rows that are held at the front of an array
    pub asking_held : {Q : ℕ → Bool} {level : List Ask} {m : ℕ} → Kept tb P bound Q →
        length level ≡ most_rows → Holding nothing asks Q level m →
        Asking tb P bound (take (m) level)
    asking_held kept whole w = asking_of kept (held_front w whole)

    -- the rows of a set, packed
    pub asking_packed : {Q : ℕ → Bool} {before level : List Ask} {m : ℕ} → Kept tb P bound Q →
        length level ≡ most_rows → Packed asks Q before level m →
        Asking tb P bound (take (m) level)
    asking_packed kept whole w = asking_held kept whole (packed_holding w)

  -- no spacing passes the horizon: up to it all rows are released again
  pub all_again : (P : ℕ → Bool) → Kept tb P (horizon + 1) P
  all_again P j l =
      let T = (sound.row j l).T.high in
      sym (ap (λ b. P j && b) (lt-ltb (tb.T j) (horizon + 1) (omega arith)) ∙ and-true (P j))

  -- all rows, as they stand
  pub asking_all : Asking tb every_row (horizon + 1) asks
  asking_all =
      asking_of (omega arith) (all_again every_row)
      (record { few = omega (arith, rows, sound.few); same = λ f. refl })

  -- the runs of the rows that are held are what they ask for in the first tick
  runs_held : {P : ℕ → Bool} {level : List Ask} → Holding nothing asks P level (length level) → runs_of level ≡ load upto tb P 0
  unfolding runs_of load
  runs_held {P} {level} w =
      over_rows (λ a. a.run) level
      ∙ w.same (λ a. a.run)
      ∙ ap (sum (λ j. given (P j) (run asks j))) rows
      ∙ sum_ext _ _ tb.n
      (λ j l.
      let none : 0 / tb.T j ≡ 0 = div-eq_of_lt (sound.row j l).T.low in
      rw (a.runs j l, none) (ap (given (P j)) (omega arith)))

  pub runs_all : runs_of asks ≡ load upto tb every_row 0
  runs_all = runs_held (record { few = omega (arith, rows, sound.few); same = λ f. refl })

  pub runs_packed : {P : ℕ → Bool} {before level : List Ask} {m : ℕ} → length level ≡ most_rows →
      Packed asks P before level m → runs_of (take (m) level) ≡ load upto tb P 0
  runs_packed whole w = runs_held (held_front (packed_holding w) whole)
