-- What is known while the ranks are filled, with the rows of a set not placed: it holds at the start, goes on with each
-- row that takes its rank, and tells how the filling ends.
use Prim.Native.Nat.{ℕ, suc, ◌+◌, ◌-◌, ◌*◌, max, ◌≤◌, ◌<◌}
use mathlib.Core.Path.{◌≡◌, sym, ap, ◌∙◌, subst}
use mathlib.Core.Bool.{true, false}
use mathlib.Core.List.{List}
use native.Mathlib.Omega.{arith}
use lib.ListN.{length, get_or, set, length-set, replicate, length-replicate}
use lib.Seq.{get_or-set_same, get_or-set_other}
use borrow.Author.Tests.{le-leb, lt-leb, lt-ltb, ltb-true}
use Rattle.counting.specs.Sum.{without, count}
use Rattle.counting.proofs.Cases.{by_bool, by_eq, not_both}
use Rattle.counting.proofs.Sum.{without_elim, without_other, count_le}
use Rattle.marks.specs.inside.Marks.{marked, Whole, Less}
use Rattle.marks.proofs.Marks.{none, count_less, count_nothing, whole_count}
use Rattle.tables.specs.Table.{Table, Sound, most_rows}
use Rattle.tables.specs.Plan.{Plan, plan_of, plan_width, cap, longer}
use Rattle.test.specs.Test.{before, load, busy_side, Response, longest, blocking}
use Rattle.test.proofs.Load.{Positive}
use Rattle.test.proofs.Plans.{room, blocking_is, longest_cases}
use Rattle.search.proofs.Pairs.{put, zeros, put_length, put_other, put_first, put_second}
use Rattle.choice.specs.Choice.{unplaced, Takes, TakesRank, NoneFits, Filled}
use Rattle.choice.proofs.Level.{Alike, takes_alike, none_alike}
use Rattle.choice.proofs.Filled.{agree_alike}
use Rattle.choice.proofs.Placed.{Placed, filled_none, placed_agree, filled_placed, blocking_placed}
use Rattle.search.specs.inside.Ended.{FilledAll, StoppedAt}
use Rattle.search.proofs.Timed.{Timed, response_alike, timed_at, timed_response}

-- the rank being filled
abbrev pub rank : ℕ → ℕ
rank rest = count (marked rest) most_rows

module _ (tb : Table) where
  pub record Going (plan times : List ℕ) (rest b : ℕ) : Type 0 where
    pub long : length plan ≡ plan_width * most_rows
    pub whole : length times ≡ most_rows
    pub inside : (j : ℕ) → marked rest j ≡ true → j < tb.n
    pub free : (j : ℕ) → marked rest j ≡ true → (plan_of plan).rank j ≡ 0
    pub placed : (j : ℕ) → j < tb.n → marked rest j ≡ false → rank rest < (plan_of plan).rank j
    pub filled : Filled tb (plan_of plan) (rank rest)
    pub blocks : b ≡ blocking tb (plan_of plan) (rank rest)
    pub timed : (j : ℕ) → j < tb.n → marked rest j ≡ false → Timed tb (plan_of plan) j (get_or times j 0)
    pub plan_past : (k : ℕ) → plan_width * tb.n ≤ k → get_or plan k 0 ≡ 0
    pub times_past : (j : ℕ) → tb.n ≤ j → get_or times j 0 ≡ 0

  pub going_first : Sound tb → (rest : ℕ) → Whole tb.n rest → Going (replicate (plan_width * most_rows) 0)
      (replicate most_rows 0) rest 0
  going_first sound rest w =
      record {
        long = length-replicate {A = ℕ} (plan_width * most_rows) 0;
        whole = length-replicate {A = ℕ} most_rows 0;
        inside = λ j e. ltb-true j tb.n (sym (w j) ∙ e);
        free = λ j _. zeros (plan_width * most_rows) (plan_width * j);
        placed = λ j l e. not_both (marked rest j) e (w j ∙ lt-ltb j tb.n l);
        filled = subst (Filled tb empty) (sym (whole_count tb.n rest w sound.few))
            (filled_none tb empty (λ j l. zeros (plan_width * most_rows) (plan_width * j)));
        blocks =
            let z : longest tb empty (rank rest) ≡ 0 =
            longest_cases tb empty (rank rest) (λ e. e)
            (λ j l lt _. absurd (omega (arith, zeros (plan_width * most_rows) (plan_width * j)))) in
            omega (arith, blocking_is tb empty (rank rest));
        timed = λ j l e. not_both (marked rest j) e (w j ∙ lt-ltb j tb.n l);
        plan_past = λ k _. zeros (plan_width * most_rows) k;
        times_past = λ j _. zeros most_rows j;
      }
    where
      empty : Plan
      empty = plan_of (replicate (plan_width * most_rows) 0)

  module _ (pos : Positive tb) {plan times : List ℕ} {rest b : ℕ} (g : Going plan times rest b) where
    abbrev p : Plan
    p = plan_of plan

    -- the level that is searched is the plan's own
    level_alike : Alike tb (marked rest) (unplaced p (rank rest)) b (blocking tb p (rank rest))
    level_alike =
        record {
          rows =
              λ j l.
              by_bool (marked rest j)
              (λ e. e ∙ sym (le-leb (p.rank j) (rank rest) (omega (arith, g.free j e))))
              (λ e. e ∙ sym (lt-leb (p.rank j) (rank rest) (g.placed j l e)));
          blocking = g.blocks;
        }

    pub going_room : (t : ℕ) → 1 ≤ t → b + load before tb (marked rest) t ≤ busy_side tb t
    going_room t h =
        let out : (j : ℕ) → j < tb.n → rank rest < p.rank j →
        (marked rest j ≡ false) × (1 ≤ p.len j) × (p.len j ≤ cap tb j) =
        λ j l lt.
        let placed = (g.filled.takes j l lt).shortest in (
          by_bool (marked rest j) (λ e. absurd (omega (arith, g.free j e))) (λ e. e),
          placed.low,
          placed.holds.0,
        ) in
        omega (arith, g.blocks, room tb p (rank rest) (marked rest) pos out t h)

    pub going_stops : {r : ℕ} → r ≡ rank rest → 1 ≤ rank rest → NoneFits tb (marked rest) b (marked rest) →
        StoppedAt tb r
    going_stops e some none =
        record {
          stop =
              record {
                plan = p;
                rank = rank rest;
                low = some;
                high = omega (arith, g.filled.left, count_le (unplaced p (rank rest)) tb.n);
                filled = g.filled;
                none = none_alike tb _ _ _ _ pos level_alike none;
              };
          said = e;
        }

    pub going_ends : rest ≡ 0 → FilledAll tb (record { plan = plan; times = times })
    going_ends e =
        let chosen = subst (Filled tb p) (ap rank e ∙ count_nothing most_rows) g.filled in
        record {
          chosen = chosen;
          responses =
              record {
                each = λ j l. timed_response tb p chosen l (g.timed j l (ap (λ x. marked x j) e ∙ none j));
                past = g.times_past;
                whole = g.whole;
              };
          past = g.plan_past;
          whole = g.long;
        }

    -- row y takes the rank with length q, and its response is R
    module _ {y q R left : ℕ} (row : y < most_rows) (t : Takes tb (marked rest) b (marked rest) y q)
        (x : Response tb (without (marked rest) y) b y q R) (d : Less rest y left) where
      abbrev p' : Plan
      p' = plan_of (put plan y (rank rest) q)

      still : {X : Type 0} (j : ℕ) → marked left j ≡ true → (¬ (j ≡ y) → marked rest j ≡ true → X) → X
      still j e k = without_elim (marked rest) y j (ap (λ Q. Q j) (sym d.marks) ∙ e) k

      gone : (j : ℕ) → ¬ (j ≡ y) → marked left j ≡ false → marked rest j ≡ false
      gone j ne e = sym (without_other (marked rest) y j ne) ∙ ap (λ Q. Q j) (sym d.marks) ∙ e

      one_less : suc (rank left) ≡ rank rest
      one_less = omega (arith, count_less most_rows d row t.try)

      placed_y : Placed tb p p' (suc (rank left)) y q
      placed_y =
          let h : plan_width * y + 1 < length plan = omega (arith, g.long) in
          record {
            rank = put_first plan y (rank rest) q h ∙ sym one_less;
            len = put_second plan y (rank rest) q h;
            others = λ j _ ne. (
              put_other plan y (rank rest) q (plan_width * j) (λ e. ne (omega arith)) (λ e. omega arith),
              put_other plan y (rank rest) q (plan_width * j + 1) (λ e. omega arith) (λ e. ne (omega arith)),
            );
          }

      takes_y : TakesRank tb p (suc (rank left)) y q
      takes_y = rw one_less (takes_alike tb _ _ _ _ y q pos level_alike t)

      none_there : (j : ℕ) → j < tb.n → ¬ (p.rank j ≡ suc (rank left))
      none_there j l e =
          by_bool (marked rest j)
          (λ m. omega (arith, g.free j m))
          (λ m. omega (arith, g.placed j l m, one_less))

      filled_before : Filled tb p (suc (rank left))
      filled_before = rw one_less g.filled

      -- the rows placed before stand above rank left + 1, where both plans agree
      alike : (s : ℕ) → suc (rank left) ≤ s →
          Alike tb (unplaced p s) (unplaced p' s) (blocking tb p s) (blocking tb p' s)
      alike s h = agree_alike tb p p' s
          (placed_agree tb pos p p' (rank left) y q filled_before none_there takes_y placed_y s h)

      timed_y : Timed tb p' y R
      timed_y = timed_at p' (alike (suc (rank left)) (omega arith)) placed_y.rank placed_y.len
          (rw one_less (response_alike level_alike x))

      timed_other : (j : ℕ) {T : ℕ} → j < tb.n → ¬ (j ≡ y) → marked rest j ≡ false → Timed tb p j T → Timed tb p' j T
      timed_other j l ne m r =
          let o = placed_y.others j l ne in
          timed_at p' (alike (p.rank j) (omega (arith, g.placed j l m, one_less))) o.0 o.1 r

      pub going_more : {m next : ℕ} → m ≡ longer tb y q → next ≡ max b (m - 1) →
          Going (put plan y (rank rest) q) (set times y R) left next
      going_more longest less =
          record {
            long = put_length plan y (rank rest) q ∙ g.long;
            whole = simp length-set g.whole;
            inside = λ j e. still j e (λ _ m. g.inside j m);
            free = λ j e. still j e (λ ne m. (placed_y.others j (g.inside j m) ne).0 ∙ g.free j m);
            placed =
                λ j l e.
                by_eq j y
                (λ x. omega (arith, ap p'.rank x, placed_y.rank))
                (λ x. omega (arith, (placed_y.others j l x).0, one_less, g.placed j l (gone j x e)));
            filled = filled_placed tb pos p p' (rank left) y q filled_before none_there takes_y placed_y;
            blocks =
                let h = blocking_placed tb pos p p' (rank left) y q filled_before none_there takes_y placed_y in
                omega (arith, g.blocks, ap (blocking tb p) one_less);
            timed =
                λ j l e.
                by_eq j y
                (λ v. rw (v, get_or-set_same times y R 0 (omega (arith, g.whole))) timed_y)
                (λ v.
                let m = gone j v e in
                rw (get_or-set_other times y j R 0 v) (timed_other j l v m (g.timed j l m)));
            plan_past =
                λ k h. put_other plan y (rank rest) q k (λ e. omega (arith, t.row)) (λ e. omega (arith, t.row))
                ∙ g.plan_past k h;
            times_past = λ j h. get_or-set_other times y j R 0 (λ e. omega (arith, t.row)) ∙ g.times_past j h;
          }
