-- The starred figures are right: each by a test that the checker computes.
use Prim.Native.Nat.{ℕ, suc, pred, ◌+◌, ◌*◌}
use mathlib.Core.Path.{◌≡◌, refl, sym, ◌∙◌}
use mathlib.Core.Bool.{true}
use mathlib.Core.Logic.{◌⊎◌, inl, inr, ⊎_elim}
use mathlib.Core.List.{List, [], ◌∷◌}
use native.Mathlib.Omega.{arith}
use lib.ListN.{length, get_or, drop}
use lib.Seq.{drop-length}
use Rattle.counting.specs.Up.{up}
use Rattle.counting.specs.Sum.{sum, largest, count}
use Rattle.counting.proofs.Search.{first, all}
use Rattle.tables.specs.Table.{Table, table_of}
use Rattle.tables.specs.Plan.{Plan, plan_of, cap, longer}
use Rattle.tables.specs.Jobs.{Jobs, jobs_of}
use Rattle.tables.proofs.Clear.{sound_of_clear, plan_of_clear}
use Rattle.tables.specs.Refusal.{Granted}
use Rattle.tables.proofs.Answered.{◌past◌}
use Rattle.test.specs.Test.{load, busy_side, active_side, start_side, above, longest, blocking, ResponseOf}
use Rattle.test.specs.Answers.{times_width, time_in}
use Rattle.test.proofs.Load.{sound_positive}
use Rattle.test.proofs.Plans.{plan_bounded}
use Rattle.choice.proofs.Filled.{chosen_not_stopped}
use Rattle.choice.specs.Choice.{Stopped}
use Rattle.choice.specs.Answers.{planned_of, response_in, planned_width}
use Rattle.kernel.specs.Rule.{one_of, pick, executed, Finishes}
use Rattle.starred.specs.Figures.{Figure, plans, refuses, stops, timed, plays, takes, shortest, Refused, Right}
use Rattle.starred.specs.Figures.{AllRight, figures, further, region_figures, StarredFigures, RegionFigures}
use Rattle.starred.specs.Figures.{wholly, second_planned, third_planned, three_planned}
use Rattle.starred.specs.Figures.{overloaded_refused, urgent_planned, thirds_planned, over_refused}
use Rattle.starred.proofs.Tests.{Test, equal, less, both, so₃, so₅, either, each}
use Rattle.starred.proofs.Seen.{look, seen, busy, passes_h, overloaded, period, start, value, taken, responds}
use Rattle.starred.proofs.Trials.{known, passing, short, comes_after, takes_test, none_test, filled_test}
use Rattle.starred.proofs.Trials.{stopped_test, shortest_test}
use Rattle.starred.proofs.Clears.{table_test, plan_test, jobs_test}

-- row i of a plan has the response R
response_test : (tb : Table) (p : Plan) (i R : ℕ) → Test (ResponseOf tb p i R)
response_test tb p i R = responds tb (above p (p.rank i)) (blocking tb p (p.rank i)) i (p.len i) R

finish_test : (tb : Table) (p : Plan) (js : Jobs) (k f : ℕ) → Test (Finishes tb p js k f)
finish_test tb p js k f =
    so₃ (equal f (suc (pred f))) (less (executed tb p js (pred f) k) (js.run k))
    (equal (executed tb p js f k) (js.run k))
    (λ after before done. record { last = pred f; after = after; unfinished = before; finished = done })

-- an output that is wholly written leaves no rest
no_rest : (out ys : List ℕ) (m : ℕ) → length out ≡ length ys → length ys ≡ m → drop m ys ≡ drop m out
no_rest out ys m a b = ends ys b ∙ sym (ends out (a ∙ b))
  where
    ends : (zs : List ℕ) → length zs ≡ m → drop m zs ≡ []
    ends zs c = rw (← c) (drop-length zs)

-- what is given, all of the output written
all_given : {Given : ℕ → List ℕ → Type 0} {ys : List ℕ} → Given (length ys) ys → Granted Given (wholly ys)
all_given g = record { number = refl; place = refl; given = g }

plans_test : (xs ys : List ℕ) → Test (Right (plans xs ys))
plans_test xs ys =
    let tb = table_of xs in
    so₅ (table_test xs) (busy tb) (equal (length ys) (planned_width * tb.n)) (filled_test tb (planned_of ys) 0)
    (each tb.n (λ i. response_test tb (planned_of ys) i (response_in ys i)))
    (λ clear busy whole chosen responses out same.
    let pos = sound_positive tb (sound_of_clear xs clear.0 clear.1) in
    clear.0 past clear.1 past (λ place h. omega (arith, h.1)) past (λ place h. h.1 busy)
    past (λ place h. chosen_not_stopped tb (planned_of ys) pos chosen h.1)
    past all_given (record {
      many = whole;
      chosen = chosen;
      responses = responses;
      whole = sym same;
      rest = no_rest out ys (planned_width * tb.n) same whole;
    }))

refused_test : (xs : List ℕ) (number place : ℕ) → Test (Stopped (table_of xs)) → Test (Refused xs number place)
refused_test xs number place stopped =
    let tb = table_of xs in
    so₃ (table_test xs) (equal place 0)
    (either (both (equal number 4) (overloaded tb)) (both (equal number 5) (both (busy tb) stopped)))
    (λ clear at why out room.
    clear.0 past clear.1 past (λ p h. omega (arith, h.1)) past ⊎_elim
    (λ four. inl (record { number = four.0; place = (at, four.1); value = refl; unwritten = refl }))
    (λ five. (λ p h. h.1 five.1.0) past inl (record {
      number = five.0;
      place = (at, five.1.1);
      value = refl;
      unwritten = refl;
    }))
    why)

-- no row is placed: where nothing is said of them, the choice stops at the lowest rank
nothing_placed : Plan
nothing_placed = record { rank = λ i. 0; len = λ i. 0 }

refuses_test : (xs : List ℕ) (number place : ℕ) → Test (Right (refuses xs number place))
refuses_test xs number place =
    let tb = table_of xs in refused_test xs number place (stopped_test tb nothing_placed tb.n)

stops_test : (xs ps : List ℕ) (r : ℕ) → Test (Right (stops xs ps r))
stops_test xs ps r =
    let tb = table_of xs in
    let p = plan_of ps in
    both (refused_test xs 5 0 (stopped_test tb p r)) (filled_test tb p r)

timed_test : (xs ps ys : List ℕ) → Test (Right (timed xs ps ys))
timed_test xs ps ys =
    let tb = table_of xs in
    let p = plan_of ps in
    so₅ (table_test xs) (busy tb) (plan_test tb ps) (equal (length ys) (times_width * tb.n))
    (each tb.n (λ i. response_test tb p i (time_in ys i)))
    (λ clear busy formed whole responses out same.
    let sound = sound_of_clear xs clear.0 clear.1 in
    let wf = (plan_of_clear tb ps formed).1 in
    clear.0 past clear.1 past formed past (λ place h. omega (arith, h.1)) past (λ place h. h.1 busy)
    past all_given (record {
      many = whole;
      responses = responses;
      bounded = λ i l. plan_bounded tb sound busy p wf i l (time_in ys i) (responses i l);
      whole = sym same;
      rest = no_rest out ys (times_width * tb.n) same whole;
    }))

plays_test : (xs ps js ys : List ℕ) → Test (Right (plays xs ps js ys))
plays_test xs ps js ys =
    let tb = table_of xs in
    let J = jobs_of js in
    so₅ (table_test xs) (plan_test tb ps) (jobs_test tb js) (equal (length ys) J.N)
    (each J.N (λ k. finish_test tb (plan_of ps) J k (get_or ys k 0)))
    (λ clear formed jobs whole finishes out same.
    clear.0 past clear.1 past formed past jobs.0 past jobs.1 past (λ place h. omega (arith, h.1))
    past all_given (record {
      many = whole;
      finishes = finishes;
      whole = sym same;
      rest = no_rest out ys J.N same whole;
    }))

test_of : (f : Figure) → Test (Right f)
test_of (plans xs ys) = plans_test xs ys
test_of (refuses xs number place) = refuses_test xs number place
test_of (stops xs ps r) = stops_test xs ps r
test_of (timed xs ps ys) = timed_test xs ps ys
test_of (plays xs ps js ys) = plays_test xs ps js ys
test_of (takes xs ps i k ticks) =
    let tb = table_of xs in
    let p = plan_of ps in
    taken tb (above p (p.rank i)) (blocking tb p (p.rank i)) i (p.len i) k (ticks + k * tb.T i)
test_of (shortest xs ps r z q) = shortest_test (table_of xs) (plan_of ps) r z q

every : (fs : List Figure) → Test (AllRight fs)
every [] = record { passes = true; shows = λ _. tt }
every (f ∷ fs) = both (test_of f) (every fs)

-- the checker computes the test of each whole table, and of the figures beside the first
all_figures : StarredFigures × AllRight further × RegionFigures
unfolding figures further region_figures every test_of plans_test refused_test nothing_placed refuses_test stops_test
    timed_test plays_test response_test finish_test look
    seen busy passes_h overloaded period start value taken responds known passing short shortest_test comes_after
    takes_test none_test filled_test stopped_test table_test plan_test jobs_test first all up sum largest count load
    busy_side active_side start_side cap longer longest blocking one_of pick executed
all_figures = ((every figures).shows refl, (every further).shows refl, (every region_figures).shows refl)

pub starred_figures : StarredFigures
starred_figures = all_figures.0

pub region_figures_right : RegionFigures
region_figures_right = all_figures.2

-- a figure of a list
abbrev Among : Figure → List Figure → Type 0
Among f [] = ⊥
Among f (g ∷ gs) = (f ≡ g) ⊎ Among f gs

-- of a list of right figures each is right
right_among : (f : Figure) (fs : List Figure) → AllRight fs → Among f fs → Right f
right_among f [] all h = absurd h
right_among f (g ∷ gs) all h = ⊎_elim (λ e. rw e all.0) (right_among f gs all.1) h

-- the figures that have a name
pub second_right : Right second_planned
unfolding figures
second_right = right_among second_planned figures starred_figures (search (inl, inr) depth 20)

pub third_right : Right third_planned
unfolding figures
third_right = right_among third_planned figures starred_figures (search (inl, inr) depth 20)

pub three_right : Right three_planned
unfolding figures
three_right = right_among three_planned figures starred_figures (search (inl, inr) depth 20)

pub overloaded_right : Right overloaded_refused
unfolding figures
overloaded_right = right_among overloaded_refused figures starred_figures (search (inl, inr) depth 20)

pub urgent_right : Right urgent_planned
unfolding further
urgent_right = right_among urgent_planned further all_figures.1 (search (inl, inr) depth 20)

pub thirds_right : Right thirds_planned
unfolding further
thirds_right = right_among thirds_planned further all_figures.1 (search (inl, inr) depth 20)

pub over_right : Right over_refused
unfolding further
over_right = right_among over_refused further all_figures.1 (search (inl, inr) depth 20)
