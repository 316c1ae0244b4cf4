-- The figures of requests (i) and (ii), proved: each is an answer that the promise allows, and any two of these are
-- equal.
use Prim.Native.Nat.{ℕ, zero, suc, ◌+◌, ◌*◌, ◌≤◌, ◌<◌}
use mathlib.Core.Path.{◌≡◌, refl, sym, subst}
use mathlib.Core.Bool.{Bool, true, ◌&&◌, ◌||◌}
use mathlib.Core.Logic.{◌↔◌, inl, inr, ⊎_elim}
use mathlib.Core.List.{List, [], ◌∷◌}
use native.Mathlib.Omega.{arith}
use borrow.Author.Tests.{leb-true, ltb-true}
use lib.ListN.{length}
use lib.Dec.{leb, ltb}
use Rattle.counting.specs.Up.{up}
use Rattle.counting.specs.Least.{Least}
use Rattle.counting.proofs.Cases.{by_le, by_eq, and_left, and_right, or_cases}
use Rattle.counting.proofs.Search.{all, all_at}
use Rattle.tables.specs.Table.{Table, Within, row_width, most, most_rows, table_of}
use Rattle.tables.specs.Refusal.{Result}
use Rattle.tables.specs.Checks.{StartAtFault, RegionAtFault, NumberAtFault}
use Rattle.tables.proofs.Answered.{◌past◌}
use Rattle.tables.proofs.Checked.{range_hit, range_clear}
use Rattle.tables.proofs.Numbers.{number_in, none_before}
use Rattle.sheet.specs.Sheet.{Task, TasksWithin, sheet_text, Sheet, ticks_of}
use Rattle.sheet.specs.Answers.{SheetAnswer}
use Rattle.sheet.specs.Figures.{task, task_with, OnlyGives, OnlyRefuses, RoundingFigures, RegionFigures}
use Rattle.sheet.proofs.Fronts.{length_ticks}
use Rattle.sheet.proofs.Answers.{sheet_unique}

-- which numbers of a row are not at fault, as the checker computes it
inside : ℕ → Bool
inside x = leb 1 x && leb x most

fine : Table → ℕ → ℕ → Bool
fine tb i zero = inside (tb.C i)
fine tb i (suc zero) = inside (tb.D i)
fine tb i (suc (suc zero)) = inside (tb.T i)
fine tb i (suc (suc (suc zero))) = leb (tb.S i) most && (leb 1 (tb.M i) || leb (tb.S i) 0)
fine tb i (suc (suc (suc (suc k)))) = leb (tb.M i) 0 || ltb (tb.S i + tb.M i) (tb.C i)

within : (x : ℕ) → inside x ≡ true → Within x
unfolding inside
within x e =
    record {
      low = leb-true 1 x (and_left (leb 1 x) (leb x most) e);
      high = leb-true x most (and_right (leb 1 x) (leb x most) e);
    }

start : (s m : ℕ) → (leb s most && (leb 1 m || leb s 0)) ≡ true → StartAtFault s m → ⊥
start s m e =
    ⊎_elim
    (λ f. omega (arith, leb-true s most (and_left (leb s most) (leb 1 m || leb s 0) e)))
    (λ f. or_cases (leb 1 m) (leb s 0) (and_right (leb s most) (leb 1 m || leb s 0) e)
    (λ g. omega (arith, leb-true 1 m g, f.1))
    (λ g. omega (arith, leb-true s 0 g, f.0)))

region : (c s m : ℕ) → (leb m 0 || ltb (s + m) c) ≡ true → RegionAtFault c s m → ⊥
region c s m e f =
    or_cases (leb m 0) (ltb (s + m) c) e
    (λ g. omega (arith, leb-true m 0 g, f.0))
    (λ g. omega (arith, ltb-true (s + m) c g, f.1))

module _ (tb : Table) where
  -- where the first k numbers of row i are not at fault, and none of the rows before it
  row_faults : (i k : ℕ) → all (fine tb i) k ≡ true → (at : ℕ) → NumberAtFault tb i at → row_width * i + k ≤ at
  unfolding fine
  row_faults i k e =
      let ok : (j : ℕ) → j < k → fine tb i j ≡ true = all_at (fine tb i) k e in
      none_before tb i k (λ h f. f (within (tb.C i) (ok 0 h))) (λ h f. f (within (tb.D i) (ok 1 h)))
      (λ h f. f (within (tb.T i) (ok 2 h))) (λ h. start (tb.S i) (tb.M i) (ok 3 h))
      (λ h. region (tb.C i) (tb.S i) (tb.M i) (ok 4 h))

  faults : (i k : ℕ) → k ≤ row_width → all (λ j. all (fine tb j) row_width) i ≡ true → all (fine tb i) k ≡ true →
      (j at : ℕ) → NumberAtFault tb j at → row_width * i + k ≤ at
  faults i k few before here j at f =
      by_le i j
      (λ l. by_eq i j
      (λ q. row_faults i k here at (subst (λ x. NumberAtFault tb x at) (sym q) f))
      (λ q. omega (arith, number_in tb j f)))
      (λ l.
      let beyond = row_faults j row_width (all_at (λ j. all (fine tb j) row_width) i before j l) at f in
      absurd (omega (arith, number_in tb j f)))

-- where no number of the table is at fault it is given; where the first that is is the k-th of row i it is refused
module _ (tick : ℕ) (ts : List Task)
    (h : (1 ≤ tick) × (tick ≤ 1000) × (1 ≤ length ts) × (length ts ≤ most_rows) × TasksWithin ts) where
  abbrev ticks : List ℕ
  ticks = ticks_of tick ts

  own : Sheet (sheet_text tick ts) tick ts
  own =
      record {
        formed = record { tick_within = record { low = h.0; high = h.1 }; some = h.2; few = h.3; tasks = h.4 };
        bytes = refl;
      }

  -- an answer that the promise allows is the only one
  only : (out : List ℕ) (r s : Result) → SheetAnswer (sheet_text tick ts) out s →
      SheetAnswer (sheet_text tick ts) out r ↔ (r ≡ s)
  only out r s right = (
    λ a. sheet_unique (sheet_text tick ts) out r s a right,
    λ e. subst (SheetAnswer (sheet_text tick ts) out) (sym e) right,
  )

  gives : all (λ j. all (fine (table_of ticks) j) row_width) (length ts) ≡ true → OnlyGives tick ts ticks
  unfolding all
  gives sound out r room =
      let none : (j : ℕ) → j < (table_of ticks).n → (at : ℕ) → NumberAtFault (table_of ticks) j at → ⊥ =
      λ j l at f.
      omega (
        arith,
        length_ticks tick ts,
        number_in (table_of ticks) j f,
        faults (table_of ticks) (length ts) 0 (omega arith) sound refl j at f,
      ) in
      only out r _ (inr (
        tick,
        ts,
        own,
        range_clear ticks none
            past (λ place h. omega (arith, h.1))
            past record { number = refl; place = refl; given = record { many = refl; whole = refl } },
      ))

  refuses : (i k : ℕ) → i < length ts → k < row_width → all (λ j. all (fine (table_of ticks) j) row_width) i ≡ true →
      all (fine (table_of ticks) i) k ≡ true → NumberAtFault (table_of ticks) i (row_width * i + k) →
      OnlyRefuses tick ts (row_width * i + k)
  refuses i k l few before here fault out r =
      let long = length_ticks tick ts in
      let at = row_width * i + k in
      let first : Least (NumberAtFault (table_of ticks) i) 0 at =
      record {
        low = omega arith;
        holds = fault;
        least = λ u _ f. faults (table_of ticks) i k (omega arith) before here i u f;
      } in
      let none : (j : ℕ) → j < i → (u : ℕ) → NumberAtFault (table_of ticks) j u → ⊥ =
      λ j h u f.
      omega (
        arith,
        number_in (table_of ticks) j f,
        faults (table_of ticks) i k (omega arith) before here j u f,
      ) in
      only out r _ (inr (
        tick,
        ts,
        own,
        inl (record {
          number = refl;
          place = range_hit ticks i at (omega (arith, long)) first none;
          value = refl;
          unwritten = refl;
        }),
      ))

pub rounding_figures : RoundingFigures
unfolding up ticks_of fine inside all
rounding_figures =
    record {
      rounded_down = gives 7 (task 7 20 20 ∷ []) (omega arith) refl;
      run_rounded_up = gives 7 (task 8 20 27 ∷ []) (omega arith) refl;
      run_alone = gives 7 (task 20 20 20 ∷ []) (omega arith) refl;
      no_deadline =
          refuses 7 (task 7 6 20 ∷ []) (omega arith) 0 1 (omega arith) (omega arith) refl refl
          (inr (inl (refl, λ w. omega (arith, w.low))));
      no_spacing =
          refuses 7 (task 7 20 6 ∷ []) (omega arith) 0 2 (omega arith) (omega arith) refl refl
          (inr (inr (inl (refl, λ w. omega (arith, w.low)))));
      second_row =
          refuses 7 (task 7 7 7 ∷ task 7 6 7 ∷ task 7 7 6 ∷ []) (omega arith) 1 1 (omega arith) (omega arith) refl refl
          (inr (inl (refl, λ w. omega (arith, w.low))));
    }

pub region_figures : RegionFigures
unfolding up ticks_of fine inside all
region_figures =
    record {
      none = gives 10 (task 60 200 200 ∷ []) (omega arith) refl;
      across_two = gives 10 (task_with 60 200 200 19 2 ∷ []) (omega arith) refl;
      across_the_first = gives 10 (task_with 60 200 200 9 2 ∷ []) (omega arith) refl;
      longer = gives 10 (task_with 60 200 200 5 12 ∷ []) (omega arith) refl;
      whole_ticks = gives 10 (task_with 60 200 200 10 10 ∷ []) (omega arith) refl;
      from_nothing = gives 10 (task_with 60 200 200 0 1 ∷ []) (omega arith) refl;
      before_the_end = gives 10 (task_with 60 200 200 30 20 ∷ []) (omega arith) refl;
      one_more =
          refuses 10 (task_with 60 200 200 30 21 ∷ []) (omega arith) 0 4 (omega arith) (omega arith) refl refl
          (inr (inr (inr (inr (refl, (omega arith, omega arith))))));
      one_less =
          refuses 10 (task_with 50 200 200 30 20 ∷ []) (omega arith) 0 4 (omega arith) (omega arith) refl refl
          (inr (inr (inr (inr (refl, (omega arith, omega arith))))));
      first_of_both =
          refuses 10 (task_with 50 200 200 30 20 ∷ task 50 5 200 ∷ []) (omega arith) 0 4 (omega arith) (omega arith) refl
          refl (inr (inr (inr (inr (refl, (omega arith, omega arith))))));
    }
