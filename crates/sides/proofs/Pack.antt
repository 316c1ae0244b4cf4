-- Laws of packing a level: the rows of a set, one by one, until none is left.
use Prim.Native.Nat.{ℕ, ◌+◌, ◌≤◌, ◌<◌}
use mathlib.Core.Path.{◌≡◌, refl, sym, ap, ◌∙◌}
use mathlib.Core.Bool.{Bool, true, false}
use mathlib.Core.List.{List}
use native.Mathlib.Omega.{arith}
use native.Mathlib.Nat.{zero-add}
use native.Mathlib.Numerals.{add-one}
use lib.Dec.{ltb}
use lib.ListN.{length, set, get_or, length-set}
use lib.Seq.{get_or-set_same, get_or-set_other}
use borrow.Author.Tests.{lt-ltb}
use Rattle.counting.specs.Sum.{given, sum, count, without}
use Rattle.counting.proofs.Cases.{by_bool, by_eq, not_both}
use Rattle.counting.proofs.Sum.{count_all, count_le, count_none, count_without, sum_ext, sum_front, sum_without}
use Rattle.counting.proofs.Sum.{without_elim, without_intro}
use Rattle.marks.specs.inside.Marks.{marked, Next, Less}
use Rattle.marks.proofs.Marks.{none as unmarked, sum_none_marked}
use Rattle.tables.specs.Table.{most_rows}
use Rattle.sides.specs.inside.Level.{Picked}

module _ {A : Type 0} (none : A) where
  -- what is summed over the first m rows of a level, by place and row
  abbrev pub over : List A → ℕ → (ℕ → A → ℕ) → ℕ
  over level m f = sum (λ p. f p (get_or level p none)) m

  -- and over the rows of the asks at which P passes, where their places begin at m
  abbrev pub picked : List A → (ℕ → Bool) → ℕ → (ℕ → A → ℕ) → ℕ
  picked asks P m f = sum (λ j. given (P j) (f (m + count P j) (get_or asks j none))) (length asks)

  picked_first : (asks : List A) (P : ℕ → Bool) (f : ℕ → A → ℕ) →
      picked asks P 0 f ≡ sum (λ j. given (P j) (f (count P j) (get_or asks j none))) (length asks)
  picked_first asks P f =
      sum_ext _ _ (length asks)
      (λ j _. ap (λ x. given (P j) (f x (get_or asks j none))) (zero-add (count P j)))

  over_more : (level : List A) (m : ℕ) (f : ℕ → A → ℕ) →
      over level (m + 1) f ≡ over level m f + f m (get_or level m none)
  unfolding sum
  over_more level m f = rw (add-one m)

  pub over_same : (l k : List A) (m : ℕ) → ((p : ℕ) → p < m → get_or l p none ≡ get_or k p none) →
      (f : ℕ → A → ℕ) → over l m f ≡ over k m f
  over_same l k m same f = sum_ext _ _ m (λ p h. rw (same p h))

  -- how many are summed over
  abbrev one : ℕ → A → ℕ
  one p a = 1

  pub over_one : (level : List A) (m : ℕ) → over level m one ≡ m
  unfolding count
  over_one level m = count_all m

-- the rows of rest are left, each to come at the place that counts those of the set before it; the others of the set are
-- packed, each at that place, and behind them the level is as before
pub record Packing {A : Type 0} (asks : List A) (set : ℕ) (before level : List A) (m rest : ℕ) : Type 0 where
  pub whole : length level ≡ most_rows
  pub inside : (j : ℕ) → marked rest j ≡ true → j < length asks
  pub many : m + count (marked rest) (length asks) ≡ count (marked set) (length asks)
  pub order : (k : ℕ) → marked rest k ≡ true → m + count (marked rest) k ≡ count (marked set) k
  pub placed : (none : A) (k : ℕ) → marked set k ≡ true → marked rest k ≡ false →
      (count (marked set) k < m) × (get_or level (count (marked set) k) none ≡ get_or asks k none)
  pub total : (none : A) (f : ℕ → A → ℕ) →
      over none level m f + picked none asks (marked rest) m f ≡ picked none asks (marked set) 0 f
  pub behind : (none : A) (k : ℕ) → m ≤ k → get_or level k none ≡ get_or before k none

module _ {A : Type 0} (asks : List A) (all : ℕ) (few : length asks ≤ most_rows) where
  pub packing_none : (level : List A) → length level ≡ most_rows →
      ((j : ℕ) → marked all j ≡ true → j < length asks) → Packing asks all level level 0 all
  unfolding sum
  packing_none level whole inside =
      record {
        whole = whole;
        inside = inside;
        many = zero-add _;
        order = λ k _. zero-add _;
        placed = λ none k e f. not_both (marked all k) f e;
        total = λ none f. omega arith;
        behind = λ none k _. refl;
      }

  module _ {before level : List A} {m rest : ℕ} (w : Packing asks all before level m rest) where
    pub packing_few : m ≤ most_rows
    packing_few = omega (arith, w.many, count_le (marked all) (length asks))

    -- the row whose mark is next
    module _ {j : ℕ} (n : Next rest j) where
      abbrev Q : ℕ → Bool
      Q = marked rest

      -- it is the first that is left
      first : count Q j ≡ 0
      first =
          count_none Q j
          (λ k l. by_bool (Q k) (λ e. absurd (omega (arith, n.first.least k (omega arith) e))) (λ e. e))

      -- and the others are one fewer, and move up by a place
      fewer : count Q (length asks) ≡ count (without Q j) (length asks) + 1
      unfolding count
      fewer = omega (arith, sum_without Q j (λ _. 1) (length asks) (w.inside j n.first.holds) n.first.holds)

      next : (k : ℕ) → without Q j k ≡ true → m + 1 + count (without Q j) k ≡ m + count Q k
      next k e =
          without_elim Q j k e
          (λ ne q.
          let le = n.first.least k (omega arith) q in
          omega (arith, count_without Q j k (by_eq k j (λ z. absurd (ne z)) (λ z. omega arith)) n.first.holds))

      -- there is room for it
      pub packing_fits : m < length level
      packing_fits = omega (arith, w.whole, w.many, fewer, count_le (marked all) (length asks))

      module _ (none : A) where
        abbrev a : A
        a = get_or asks j none

        taken : (f : ℕ → A → ℕ) → f m a + picked none asks (without Q j) (m + 1) f ≡ picked none asks Q m f
        taken f =
            let F : ℕ → ℕ = λ k. f (m + count Q k) (get_or asks k none) in
            let here : F j ≡ f m a = let z : m + count Q j ≡ m = omega (arith, first) in ap (λ x. f x a) z in
            let others = sum_ext
            (λ k. given (without Q j k) (f (m + 1 + count (without Q j) k) (get_or asks k none)))
            (λ k. given (without Q j k) (F k)) (length asks)
            (λ k _.
            by_bool (without Q j k)
            (λ e. rw (e, next k e))
            (λ e. rw e)) in
            omega (arith, sum_without Q j F (length asks) (w.inside j n.first.holds) n.first.holds)

        total_more : (f : ℕ → A → ℕ) → over none (set level m a) (m + 1) f + picked none asks (without Q j) (m + 1) f
            ≡ picked none asks (marked all) 0 f
        total_more f =
            let old = over_same none (set level m a) level m
            (λ p q. get_or-set_other level m p a none (λ e. omega arith)) f in
            let new : f m (get_or (set level m a) m none) ≡ f m a =
            ap (f m) (get_or-set_same level m a none packing_fits) in
            omega (arith, w.total none f, over_more none (set level m a) m f, taken f)

      -- each row that is packed stands at the place that counts those before it, and the next one takes the first free one
      module _ (x : A) (is : (none : A) → x ≡ get_or asks j none) where
        placed_more : (none : A) (k : ℕ) → marked all k ≡ true → without Q j k ≡ false →
            (count (marked all) k < m + 1) × (get_or (set level m x) (count (marked all) k) none ≡ get_or asks k none)
        placed_more none k e f =
            by_eq k j
            (λ z.
            let here : count (marked all) k ≡ m = omega (arith, ap (count (marked all)) z, w.order j n.first.holds, first) in (
              omega (arith, here),
              rw (here, z) (get_or-set_same level m x none packing_fits ∙ is none),
            ))
            (λ z.
            let old = w.placed none k e
            (by_bool (Q k) (λ q. not_both (without Q j k) f (without_intro Q j k z q)) (λ q. q)) in (
              omega (arith, old.0),
              get_or-set_other level m (count (marked all) k) x none (λ y. omega (arith, old.0)) ∙ old.1,
            ))

      pub packing_more : {r : ℕ} (x : A) → ((none : A) → x ≡ get_or asks j none) → Less rest j r →
          Packing asks all before (set level m x) (m + 1) r
      packing_more {r} x is l =
          record {
            whole = length-set level m x ∙ w.whole;
            inside = λ k e. without_elim Q j k (ap (λ P. P k) (sym l.marks) ∙ e) (λ _ y. w.inside k y);
            many = omega (arith, w.many, fewer, ap (λ (P : ℕ → Bool). count P (length asks)) l.marks);
            order =
                λ k e.
                let o : without Q j k ≡ true = ap (λ P. P k) (sym l.marks) ∙ e in
                let h = without_elim Q j k o (λ _ q. w.order k q) in
                omega (arith, next k o, h, ap (λ (P : ℕ → Bool). count P k) l.marks);
            placed = λ none k e f. placed_more x is none k e (ap (λ P. P k) (sym l.marks) ∙ f);
            total =
                λ none f.
                omega (
                  arith,
                  total_more none f,
                  ap (λ y. over none (set level m y) (m + 1) f) (is none),
                  ap (λ (P : ℕ → Bool). picked none asks P (m + 1) f) l.marks,
                );
            behind = λ none k g. get_or-set_other level m k x none (λ e. omega arith) ∙ w.behind none k (omega arith);
          }

    pub packing_all : rest ≡ 0 → (none : A) → Picked none asks (marked all) before level m
    packing_all none_left none =
        record {
          few = packing_few;
          placed = λ j _ e. (w.placed none j e (ap (λ r. marked r j) none_left ∙ unmarked j)).1;
          same =
              λ f. omega (
                arith,
                w.total none f,
                picked_first none asks (marked all) f,
                ap (λ r. picked none asks (marked r) m f) none_left,
                sum_none_marked (λ j. f (m + count (marked 0) j) (get_or asks j none)) (length asks),
              );
          rest = w.behind none;
        }

-- as many rows are packed as the set has
pub packed_size : {A : Type 0} {none : A} {asks : List A} {before level : List A} {m : ℕ} (all : ℕ) → Picked none asks (marked all) before level m →
    length asks ≤ most_rows → ((j : ℕ) → marked all j ≡ true → j < length asks) → count (marked all) most_rows ≡ m
unfolding count
packed_size {A} {none} {asks} {before} {level} {m} all x few inside =
    let n = length asks in
    sum_ext (λ j. given (marked all j) 1) (λ j. given (ltb j n) (given (marked all j) 1)) most_rows
    (λ j _.
    by_bool (marked all j)
    (λ e. rw (e, lt-ltb j n (inside j e)))
    (λ e. rw e (by_bool (ltb j n) (λ o. rw o) (λ o. rw o))))
    ∙ sum_front (λ j. given (marked all j) 1) n most_rows few
    ∙ sym (x.same (λ _ _. 1))
    ∙ over_one none level m
