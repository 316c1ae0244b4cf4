-- Wrong versions of plan and of play, each of which breaks the promise on a table that is named here: document 01,
-- "What the manual may rely on" and "Shortcuts that give a wrong manual", and request (ii) of document 02.
use Rattle.std.specs.Prelude.{ℕ, ◌*◌, ◌/◌, ◌%◌, ◌≤◌, ◌<◌, ◌≡◌, ◌↔◌, List, [], ◌∷◌, length, get_or}
use Rattle.counting.specs.Up.{up}
use Rattle.counting.specs.Sum.{sum}
use Rattle.tables.specs.Table.{Sound, table_of, row_width}
use Rattle.tables.specs.Refusal.{Result}
use Rattle.choice.specs.Answers.{PlanAnswer, planned_width, planned_of}
use Rattle.kernel.specs.Answers.{PlayAnswer}
use Rattle.starred.specs.Figures.{second_table, third_table, three_rows, overloaded_table, urgent_first, three_thirds}
use Rattle.starred.specs.Figures.{one_tick_over, wholly, row, plain}

-- a version of plan: a task table and a lent output to what it answers and leaves
abbrev pub Version : Type 0
Version = List ℕ → List ℕ → Result

-- "slices of 32-bit numbers": what a program can be lent, every number below 2^32
abbrev pub Words : List ℕ → Type 0
Words xs = (i : ℕ) → i < length xs → get_or xs i 0 < 4294967296

-- what holds of every task table and output of 32-bit numbers
abbrev pub Always : (List ℕ → List ℕ → Type 0) → Type 0
Always Holds = (xs out : List ℕ) → Words xs → Words out → Holds xs out

-- "refuses everything": for every table and output its answer is some refusal
abbrev pub RefusesEverything : Version → Type 0
RefusesEverything f = Always (λ xs out. 1 ≤ (f xs out).number)

-- "gives a fixed plan": two tables of as many rows that it plans get the same ranks and lengths, whatever the
-- responses beside them and whatever stands behind
abbrev pub GivesAFixedPlan : Version → Type 0
GivesAFixedPlan f =
    Always (λ xs out. Always (λ ys lent.
    (f xs out).number ≡ 0 → (f ys lent).number ≡ 0 → (table_of xs).n ≡ (table_of ys).n →
    (i : ℕ) → i < (table_of xs).n →
    let p = planned_of (f xs out).out in
    let q = planned_of (f ys lent).out in
    (p.rank i ≡ q.rank i) × (p.len i ≡ q.len i)))

-- "leaves the output untouched": whatever it answers, the output is as it was lent
abbrev pub LeavesTheOutput : Version → Type 0
LeavesTheOutput f = Always (λ xs out. (f xs out).out ≡ out)

-- against "Nothing lent is written": where it refuses, a number of its own stands at the front of an output that has a
-- place, whatever stood there
abbrev pub WritesOnARefusal : Version → Type 0
WritesOnARefusal f =
    (own : List ℕ → ℕ)
    × Always (λ xs out. 1 ≤ (f xs out).number → 1 ≤ length out → get_or (f xs out).out 0 0 ≡ own xs)

-- "searches at rank n only": in every table that it plans the rows that do not have rank n have the other ranks in
-- table order, from the highest rank on or from the lowest
abbrev pub SearchesTheLowestOnly : ((ℕ → ℕ) → ℕ → ℕ → Type 0) → Version → Type 0
SearchesTheLowestOnly Ordered f =
    Always (λ xs out.
    (f xs out).number ≡ 0 →
    let n = (table_of xs).n in
    let rank = (planned_of (f xs out).out).rank in
    (i j : ℕ) → i < j → j < n → rank i < n → rank j < n → Ordered rank i j)

-- "priorities by deadline first": in every table that it plans the smaller of two deadlines has the higher rank
abbrev pub RanksByDeadline : Version → Type 0
RanksByDeadline f =
    Always (λ xs out.
    (f xs out).number ≡ 0 →
    let tb = table_of xs in
    let rank = (planned_of (f xs out).out).rank in
    (i j : ℕ) → i < tb.n → j < tb.n → tb.D i < tb.D j → rank i < rank j)

-- "a sum of rounded utilisations": each C/T in parts of a whole (100 for percent), rounded up or down, and 4, where
-- the earlier checks are clear, exactly if the sum is more than the whole
abbrev pub RefusesByUtilisation : (ℕ → ℕ → ℕ) → ℕ → Version → Type 0
RefusesByUtilisation rounded whole f =
    Always (λ xs out.
    let tb = table_of xs in
    length xs ≡ row_width * tb.n → Sound tb → planned_width * tb.n ≤ length out →
    ((f xs out).number ≡ 4) ↔ (whole < sum (λ i. rounded (whole * tb.C i) (tb.T i)) tb.n))

-- outputs with room for two rows, of zeros and with a 1 in front, and for three
abbrev pub six : List ℕ
six = 0 ∷ 0 ∷ 0 ∷ 0 ∷ 0 ∷ 0 ∷ []

abbrev pub six_marked : List ℕ
six_marked = 1 ∷ 0 ∷ 0 ∷ 0 ∷ 0 ∷ 0 ∷ []

abbrev pub nine : List ℕ
nine = 0 ∷ 0 ∷ 0 ∷ six

-- what the version answers for this table and leaves in this output is not what the promise allows
abbrev pub BreaksOn : List ℕ → List ℕ → Version → Type 0
BreaksOn xs out f = PlanAnswer xs out (f xs out) → ⊥

-- of two tables, each with its output, it breaks the promise on one
abbrev pub BreaksOnOneOf : List ℕ → List ℕ → List ℕ → List ℕ → Version → Type 0
BreaksOnOneOf xs out ys lent f = PlanAnswer xs out (f xs out) → BreaksOn ys lent f

-- every one of them breaks the promise, on this table
pub record AllRefuted : Type 0 where
  pub refuses : (f : Version) → RefusesEverything f → BreaksOn second_table six f
  pub fixed : (f : Version) → GivesAFixedPlan f → BreaksOnOneOf second_table six third_table six f
  pub untouched : (f : Version) → LeavesTheOutput f → BreaksOn second_table six f
  pub written : (f : Version) → WritesOnARefusal f → BreaksOnOneOf overloaded_table six overloaded_table six_marked f
  pub lowest_only : (f : Version) → SearchesTheLowestOnly (λ rank i j. rank i < rank j) f → BreaksOn three_rows nine f
  pub lowest_only_down : (f : Version) → SearchesTheLowestOnly (λ rank i j. rank j < rank i) f →
      BreaksOn urgent_first nine f
  pub by_deadline : (f : Version) → RanksByDeadline f → BreaksOn three_rows nine f
  pub rounded_up : (f : Version) (whole : ℕ) → (whole % 3 ≡ 0 → ⊥) → RefusesByUtilisation up whole f →
      BreaksOn three_thirds nine f
  pub rounded_down : (f : Version) (whole : ℕ) → whole < 1000000 → RefusesByUtilisation ◌/◌ whole f →
      BreaksOn one_tick_over six f

-- a version is known by what it writes: whatever an output of as many numbers holds, the promise does not allow that
-- it is left with these
abbrev pub NotWritten : (List ℕ → Result → Type 0) → List ℕ → Type 0
NotWritten Answer ys = (out : List ℕ) → length out ≡ length ys → Answer out (wholly ys) → ⊥

abbrev pub NotPlanned : List ℕ → List ℕ → Type 0
NotPlanned xs ys = NotWritten (PlanAnswer xs) ys

abbrev pub NotPlayed : List ℕ → List ℕ → List ℕ → List ℕ → Type 0
NotPlayed xs ps js ys = NotWritten (PlayAnswer xs ps js) ys

-- row 0, the lower one, has a middle region of 3 after 1 tick of its run, and both final lengths are 1
abbrev pub locked_table : List ℕ
locked_table = row 5 20 20 1 3 (plain 1 9 9 [])

abbrev pub locked_plan : List ℕ
locked_plan = 2 ∷ 1 ∷ 1 ∷ 1 ∷ []

-- request (ii) of document 02: what each of these versions writes for its table is not allowed
pub record RegionVersionsRefuted : Type 0 where
  -- "the least such longer region": not the least final length, nor the first row that passes with a length of 1
  pub by_final_length : NotPlanned (row 3 4 4 0 2 (plain 1 4 4 [])) (2 ∷ 1 ∷ 4 ∷ 1 ∷ 1 ∷ 2 ∷ [])
  -- "equals go to the earliest row": not to the one with the shorter final length
  pub equals_by_length : NotPlanned (plain 2 5 8 (row 3 5 4 0 2 [])) (1 ∷ 1 ∷ 3 ∷ 2 ∷ 1 ∷ 5 ∷ [])
  -- "its shortest passing final length": not a longer one that blocks with no more than the middle region does
  pub longer_length : NotPlanned (plain 1 2 5 (row 4 5 5 0 2 [])) (1 ∷ 1 ∷ 2 ∷ 2 ∷ 2 ∷ 5 ∷ [])
  -- "Blocking counts the longer": not the final region alone
  pub final_alone : NotPlanned (row 3 4 4 0 2 (plain 1 2 4 [])) (2 ∷ 1 ∷ 4 ∷ 1 ∷ 1 ∷ 1 ∷ [])
  -- "Blocking counts the longer": nor the middle region alone
  pub middle_alone : NotPlanned (row 3 4 5 0 1 (plain 1 2 3 [])) (2 ∷ 2 ∷ 4 ∷ 1 ∷ 1 ∷ 1 ∷ [])
  -- "Blocking counts the longer": nor both added up
  pub added_up : NotPlanned (row 2 3 3 0 1 (plain 1 2 3 [])) (2 ∷ 1 ∷ 3 ∷ 1 ∷ 1 ∷ 2 ∷ [])
  -- "Blocking counts" by document 01 what is below: not the row's own middle region
  pub own_region : NotPlanned (plain 1 2 3 (row 3 6 5 0 2 [])) (1 ∷ 1 ∷ 2 ∷ 2 ∷ 1 ∷ 6 ∷ [])
  -- "at most C less the region's end": not up to C
  pub lengths_up_to_c : NotPlanned (row 2 5 4 0 1 (plain 3 5 6 [])) (2 ∷ 2 ∷ 5 ∷ 1 ∷ 1 ∷ 4 ∷ [])
  -- "executed more than the start": a job is not held with the start
  pub locked_from_the_start : NotPlayed locked_table locked_plan (0 ∷ 0 ∷ 5 ∷ 1 ∷ 1 ∷ 1 ∷ []) (6 ∷ 5 ∷ [])
  -- "and less than the end": nor with the end
  pub locked_with_the_end : NotPlayed locked_table locked_plan (0 ∷ 0 ∷ 5 ∷ 1 ∷ 4 ∷ 1 ∷ []) (5 ∷ 6 ∷ [])
  -- "and less than the end": nor past it to the end of its run
  pub held_to_its_own_end : NotPlayed locked_table locked_plan (0 ∷ 0 ∷ 5 ∷ 1 ∷ 2 ∷ 1 ∷ []) (5 ∷ 6 ∷ [])
