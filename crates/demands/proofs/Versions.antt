-- The wrong versions are refuted, each on its named table: the answer that the promise allows there is known, and is
-- the only one.
use Prim.Native.Nat.{ℕ, ◌/◌, ◌%◌, ◌≤◌, ◌<◌}
use mathlib.Core.Path.{◌≡◌, refl, ap, ◌∙◌}
use mathlib.Core.Bool.{true, false}
use mathlib.Core.Logic.{inl, inr}
use mathlib.Core.List.{List, [], ◌∷◌}
use native.Mathlib.Omega.{arith}
use borrow.Author.Tests.{eqb-false}
use lib.Dec.{eqb}
use lib.ListN.{length, get_or}
use Rattle.counting.specs.Up.{up}
use Rattle.counting.specs.Sum.{sum}
use Rattle.counting.proofs.Search.{all}
use Rattle.tables.specs.Table.{Sound, table_of}
use Rattle.tables.specs.Refusal.{Result}
use Rattle.tables.proofs.Clear.{sound_of_clear}
use Rattle.choice.specs.Answers.{PlanAnswer}
use Rattle.starred.specs.Figures.{wholly, second_table, third_table, three_rows, overloaded_table}
use Rattle.starred.specs.Figures.{urgent_first, three_thirds, one_tick_over, plans, plays, region_figures}
use Rattle.starred.proofs.Tests.{Test, less, both, each}
use Rattle.starred.proofs.Clears.{table_test}
use Rattle.starred.proofs.Figures.{second_right, third_right, three_right, overloaded_right, urgent_right}
use Rattle.starred.proofs.Figures.{thirds_right, over_right}
use Rattle.plan.proofs.Unique.{plan_unique}
use Rattle.demands.specs.Settled.{OnlyWrites}
use Rattle.demands.specs.Versions.{Version, Words, Always, six, six_marked, nine, BreaksOn, BreaksOnOneOf}
use Rattle.demands.specs.Versions.{RefusesEverything}
use Rattle.demands.specs.Versions.{GivesAFixedPlan, LeavesTheOutput, WritesOnARefusal, SearchesTheLowestOnly}
use Rattle.demands.specs.Versions.{RanksByDeadline, RefusesByUtilisation, AllRefuted, NotWritten, NotPlanned}
use Rattle.demands.specs.Versions.{NotPlayed, locked_table, locked_plan, RegionVersionsRefuted}
use Rattle.demands.proofs.Settled.{Among, region_settled}

words : (xs : List ℕ) → Test (Words xs)
words xs = each (length xs) (λ i. less (get_or xs i 0) 4294967296)

-- what always holds, on a table and an output whose numbers the checker finds to be of 32 bits
on : {Holds : List ℕ → List ℕ → Type 0} → Always Holds → (xs out : List ℕ) →
    (both (words xs) (words out)).passes ≡ true → Holds xs out
on w xs out e = let s = (both (words xs) (words out)).shows e in w xs out s.0 s.1

sound : (xs : List ℕ) → (table_test xs).passes ≡ true → Sound (table_of xs)
sound xs e = let clear = (table_test xs).shows e in sound_of_clear xs clear.0 clear.1

-- the number of a result, and what stands at place k of its output
number_of : {r s : Result} → r ≡ s → r.number ≡ s.number
number_of e = ap (λ (r : Result). r.number) e

number_at : {r s : Result} → r ≡ s → (k : ℕ) → get_or r.out k 0 ≡ get_or s.out k 0
number_at e k = ap (λ (r : Result). get_or r.out k 0) e

module _ (f : Version) where
  -- (2,5,5) (4,7,7): (1,1,3) (2,2,7)
  at_second : PlanAnswer second_table six (f second_table six) →
      f second_table six ≡ wholly (1 ∷ 1 ∷ 3 ∷ 2 ∷ 2 ∷ 7 ∷ [])
  at_second a = plan_unique second_table six _ _ a (second_right six refl)

  -- (2,5,5) (4,6,7): (1,1,4) (2,3,6)
  at_third : PlanAnswer third_table six (f third_table six) → f third_table six ≡ wholly (1 ∷ 1 ∷ 4 ∷ 2 ∷ 3 ∷ 6 ∷ [])
  at_third a = plan_unique third_table six _ _ a (third_right six refl)

  -- (1,4,4) (1,6,6) (4,12,12): (2,1,2) (1,1,1) (3,1,8)
  at_rows : PlanAnswer three_rows nine (f three_rows nine) →
      f three_rows nine ≡ wholly (2 ∷ 1 ∷ 2 ∷ 1 ∷ 1 ∷ 1 ∷ 3 ∷ 1 ∷ 8 ∷ [])
  at_rows a = plan_unique three_rows nine _ _ a (three_right nine refl)

  refuses : RefusesEverything f → BreaksOn second_table six f
  unfolding all words
  refuses w a = omega (arith, on w second_table six refl, number_of (at_second a))

  fixed : GivesAFixedPlan f → BreaksOnOneOf second_table six third_table six f
  unfolding all words
  fixed w a b =
      let s = at_second a in
      let t = at_third b in
      let same = on (on w second_table six refl) third_table six refl (number_of s) (number_of t) refl 1 in
      omega (arith, (same (omega arith)).1, number_at s 4, number_at t 4)

  untouched : LeavesTheOutput f → BreaksOn second_table six f
  unfolding all words
  untouched w a =
      omega (arith, ap (λ (l : List ℕ). get_or l 0 0) (on w second_table six refl), number_at (at_second a) 0)

  -- (2,3,3) (2,3,3): refused 4, and the output is as it was
  at_overloaded : (out : List ℕ) → 6 ≤ length out → PlanAnswer overloaded_table out (f overloaded_table out) →
      f overloaded_table out ≡ record { number = 4; place = 0; value = 0; out = out }
  at_overloaded out l a = plan_unique overloaded_table out _ _ a (overloaded_right out l)

  written : WritesOnARefusal f → BreaksOnOneOf overloaded_table six overloaded_table six_marked f
  unfolding all words
  written w a b =
      let s = at_overloaded six (omega arith) a in
      let t = at_overloaded six_marked (omega arith) b in
      omega (
        arith,
        on w.1 overloaded_table six refl (omega (arith, number_of s)) (omega arith),
        on w.1 overloaded_table six_marked refl (omega (arith, number_of t)) (omega arith),
        number_at s 0,
        number_at t 0,
      )

  lowest_only : SearchesTheLowestOnly (λ rank i j. rank i < rank j) f → BreaksOn three_rows nine f
  unfolding all words
  lowest_only w a =
      let e = at_rows a in
      let r₀ = number_at e 0 in
      let r₁ = number_at e 3 in
      omega (arith, on w three_rows nine refl (number_of e) 0 1 (omega arith) (omega arith) (omega arith) (omega arith))

  -- (1,1,10) (1,5,10) (1,12,12): (1,1,1) (3,1,3) (2,1,2)
  lowest_only_down : SearchesTheLowestOnly (λ rank i j. rank j < rank i) f → BreaksOn urgent_first nine f
  unfolding all words
  lowest_only_down w a =
      let e = plan_unique urgent_first nine _ _ a (urgent_right nine refl) in
      let r₀ = number_at e 0 in
      let r₂ = number_at e 6 in
      let ordered = on w urgent_first nine refl (number_of e) 0 2 in
      omega (arith, ordered (omega arith) (omega arith) (omega arith) (omega arith))

  by_deadline : RanksByDeadline f → BreaksOn three_rows nine f
  unfolding all words
  by_deadline w a =
      let e = at_rows a in
      let r₀ = number_at e 0 in
      let r₁ = number_at e 3 in
      omega (arith, on w three_rows nine refl (number_of e) 0 1 (omega arith) (omega arith) (omega arith))

  -- (1,3,3) three times is planned, though each third is rounded up
  rounded_up : (whole : ℕ) → (whole % 3 ≡ 0 → ⊥) → RefusesByUtilisation up whole f → BreaksOn three_thirds nine f
  unfolding all words table_test up sum
  rounded_up whole uneven w a =
      let e = plan_unique three_thirds nine _ _ a (thirds_right nine refl) in
      let four = (on w three_thirds nine refl refl (sound three_thirds refl) (omega arith)).1 (omega arith) in
      omega (arith, four, number_of e)

  -- (500000,1000000,1000000) (500001,1000000,1000000) is refused with 4, though the halves are rounded down
  rounded_down : (whole : ℕ) → whole < 1000000 → RefusesByUtilisation ◌/◌ whole f → BreaksOn one_tick_over six f
  unfolding all words table_test sum
  rounded_down whole coarse w a =
      let e = plan_unique one_tick_over six _ _ a (over_right six (omega arith)) in
      omega (arith, (on w one_tick_over six refl refl (sound one_tick_over refl) (omega arith)).0 (number_of e))

pub all_refuted : AllRefuted
all_refuted =
    record {
      refuses = refuses;
      fixed = fixed;
      untouched = untouched;
      written = written;
      lowest_only = lowest_only;
      lowest_only_down = lowest_only_down;
      by_deadline = by_deadline;
      rounded_up = rounded_up;
      rounded_down = rounded_down;
    }

-- beside a figure of request (ii) numbers that differ from its own at place k are not written
module _ {zs : List ℕ} (ys : List ℕ) (k : ℕ) (same : length zs ≡ length ys)
    (differ : eqb (get_or zs k 0) (get_or ys k 0) ≡ false) where
  not_written : {Answer : List ℕ → Result → Type 0} → OnlyWrites Answer ys → NotWritten Answer zs
  not_written only out whole a = eqb-false _ _ differ (number_at ((only out (whole ∙ same) _).0 a) k)

  not_planned : {xs : List ℕ} → Among (plans xs ys) region_figures → NotPlanned xs zs
  not_planned {xs} is = not_written (region_settled (plans xs ys) is)

  not_played : (js : List ℕ) → Among (plays locked_table locked_plan js ys) region_figures →
      NotPlayed locked_table locked_plan js zs
  not_played js is = not_written (region_settled (plays locked_table locked_plan js ys) is)

pub region_versions_refuted : RegionVersionsRefuted
unfolding region_figures
region_versions_refuted =
    record {
      by_final_length = not_planned (1 ∷ 1 ∷ 3 ∷ 2 ∷ 1 ∷ 4 ∷ []) 0 refl refl (inl refl);
      equals_by_length = not_planned (2 ∷ 2 ∷ 5 ∷ 1 ∷ 1 ∷ 4 ∷ []) 0 refl refl (search (inl, inr) depth 20);
      longer_length = not_planned (1 ∷ 1 ∷ 2 ∷ 2 ∷ 1 ∷ 5 ∷ []) 4 refl refl (search (inl, inr) depth 20);
      final_alone = not_planned (2 ∷ 1 ∷ 4 ∷ 1 ∷ 1 ∷ 2 ∷ []) 5 refl refl (search (inl, inr) depth 20);
      middle_alone = not_planned (2 ∷ 2 ∷ 4 ∷ 1 ∷ 1 ∷ 2 ∷ []) 5 refl refl (search (inl, inr) depth 20);
      added_up = not_planned (2 ∷ 1 ∷ 3 ∷ 1 ∷ 1 ∷ 1 ∷ []) 5 refl refl (search (inl, inr) depth 20);
      own_region = not_planned (1 ∷ 1 ∷ 2 ∷ 2 ∷ 1 ∷ 5 ∷ []) 5 refl refl (search (inl, inr) depth 20);
      lengths_up_to_c = not_planned (1 ∷ 1 ∷ 4 ∷ 2 ∷ 3 ∷ 5 ∷ []) 0 refl refl (search (inl, inr) depth 20);
      locked_from_the_start =
          not_played (6 ∷ 2 ∷ []) 1 refl refl (0 ∷ 0 ∷ 5 ∷ 1 ∷ 1 ∷ 1 ∷ []) (search (inl, inr) depth 20);
      locked_with_the_end =
          not_played (6 ∷ 5 ∷ []) 0 refl refl (0 ∷ 0 ∷ 5 ∷ 1 ∷ 4 ∷ 1 ∷ []) (search (inl, inr) depth 20);
      held_to_its_own_end =
          not_played (6 ∷ 5 ∷ []) 0 refl refl (0 ∷ 0 ∷ 5 ∷ 1 ∷ 2 ∷ 1 ∷ []) (search (inl, inr) depth 20);
    }
