-- `fill` meets its contract: at each goal what is known is one law of Turn, Lengths, Trial, Seen, Runs or Going.
use Prim.Native.Nat.{ℕ, ◌≤◌, ◌<◌, ◌+◌, ◌-◌}
use mathlib.Core.Path.{◌≡◌, refl, sym, ap, ◌∙◌}
use mathlib.Core.Bool.{true}
use native.Mathlib.Omega.{arith}
use Rattle.std.specs.Prelude.{Some}
use native.Mathlib.Nat.{pos_of_ne-zero}
use lib.ListN.{get_or, take}
use Rattle.counting.specs.Sum.{without}
use Rattle.marks.specs.inside.Marks.{marked}
use Rattle.marks.proofs.Marks.{count_something}
use Rattle.tables.specs.Table.{most_rows}
use Rattle.tables.specs.Plan.{cap, longer}
use Rattle.tables.specs.declared.task.Tasks.{Tasks}
use Rattle.tables.specs.inside.Rows.{no, longer_in}
use Rattle.tables.proofs.Plan.{cap_in_lem, longer_in_lem, longer_ge}
use Rattle.test.specs.Test.{upto, start_side}
use Rattle.test.proofs.Load.{sound_positive}
use Rattle.choice.specs.Choice.{Takes}
use Rattle.sides.specs.inside.Asks.{nothing}
use Rattle.sides.specs.inside.Level.{start_of}
use Rattle.sides.proofs.Again.{again_asked}
use Rattle.responses.proofs.Jobs.{Working, length_first, base_within}
use Rattle.search.proofs.Turn.{table, Turn, Hand, turn_level, turn_period, turn_hand, hand_works}
use Rattle.search.proofs.Turn.{place_fits, place_in_room, left_level, left_back}
use Rattle.search.proofs.Lengths.{Tested, Narrowed, narrowed_first, narrowed_fits, narrowed_misses}
use Rattle.search.proofs.Trial.{trial_first, trial_within, trial_released, trial_last, trial_more, trial_side}
use Rattle.search.proofs.Trial.{trial_again, trial_misses, trial_after, trial_next, trial_passes}
use Rattle.search.proofs.Seen.{Seen, worth_top, worth_over, top_le}
use Rattle.search.proofs.Seen.{seen_first, seen_over, seen_same, seen_better, seen_one, seen_all, seen_none}
use Rattle.search.proofs.Runs.{runs_first, read_run, runs_enough, runs_more}
use Rattle.search.proofs.Going.{going_first, going_room, going_stops, going_ends, going_more}
use Rattle.search.proofs.fill.Goals as goal
use Rattle.search.proofs.fill.Goals.{After-level_of-all, After-next-i, In-lengths, At-loop-s, Then-next-s, Joined-due-s}
use Rattle.search.proofs.fill.Goals.{Joined-trial, After-put_back, In-Some-best}
use Rattle.search.proofs.fill.Goals.{then-due-s, else-due-s+then-next-s+then-period-released}
use Rattle.search.proofs.fill.Goals.{in-Some-trial, in_default-trial, else-rows-test}
use Rattle.search.proofs.fill.Goals.{then-rows-test+in-Some+else-lengths-test+in-Some-passed+then-longer-eq1}

-- ---- the rank that is filled
turn : (c : After-level_of-all) →
    Turn (table c.args.tasks) c.args.asks.now c.ranks.unplaced c.again_of-again.result c.ranks.blocking
    c.ranks.runs c.args.busy c.both-packed.result c.level_of-all.new.level c.level_of-all.result
    (c.ranks.blocking + c.ranks.runs)
turn c =
    let sound = c.args.tasks.sound in
    let busy = c.requires.0 in
    record {
      search =
          record {
            sound = sound;
            asked = c.requires.2;
            inside = c.ranks.invariant.going.inside;
            some = pos_of_ne-zero c.ranks-test.true;
            busy = busy;
            within = c.requires.1;
            room = going_room _ (sound_positive _ sound) c.ranks.invariant.going;
            repeat =
                again_asked c.again_of-again.result sound c.requires.2 busy.low c.requires.1 c.again_of-again.ensures;
            first = c.ranks.invariant.runs;
          };
      both = c.both-packed.ensures;
      before = c.ranks.level;
      packed = c.level_of-all.ensures.packed nothing;
      whole = c.level_of-all.auto.level ∙ c.both-packed.array_long;
      first_is = refl;
    }

pub ranks-init : goal.ranks-init
ranks-init c =
    let sound = c.args.tasks.sound in
    record {
      going = going_first _ sound c.whole-unplaced.result c.whole-unplaced.ensures;
      runs = c.runs_of-runs.ensures ∙ runs_first c.whole-unplaced.result sound c.requires.2 c.whole-unplaced.ensures;
    }

pub overflow_add-first : goal.overflow_add-first
overflow_add-first c =
    let w = turn_period (turn (goal.at.overflow_add-first c).After-level_of-all) in
    omega (arith, w.under, w.within)

pub active_period-period-requires : goal.active_period-period-requires
active_period-period-requires c =
    let t = turn (goal.at.active_period-period-requires c).After-level_of-all in
    ((turn_level t).asking.few, turn_period t)

pub rows-init : goal.rows-init
rows-init c =
    record {
      turn = turn (goal.at.rows-init c).After-level_of-all;
      period = c.active_period-period.ensures;
      seen = seen_first _ _ _ _;
    }

-- ---- the row in hand
among : (c : After-next-i) → marked c.ranks.unplaced c.next-i.result ≡ true
among c = c.rows.invariant.seen.among c.next-i.result c.next-i.ensures.first.holds

hand : (c : After-next-i) →
    Hand (table c.args.tasks) (without (marked c.ranks.unplaced) c.next-i.result) c.ranks.blocking
    c.next-i.result (c.ranks.blocking + c.ranks.runs) c.active_period-period.result c.args.busy
hand c = turn_hand c.rows.invariant.turn _ (among c) c.rows.invariant.period

pub leave_out-above-requires : goal.leave_out-above-requires
leave_out-above-requires c =
    let t = c.rows.invariant.turn in
    let m = among (goal.at.leave_out-above-requires c).After-next-i in
    (t.packed.few, t.whole, place_fits t _ m c.place_of-at.result c.place_of-at.ensures)

pub lengths-init : goal.lengths-init
lengths-init c =
    let g = (goal.at.lengths-init c).After-next-i in
    record {
      hand = hand g;
      above =
          left_level c.rows.invariant.turn _ (among g) c.place_of-at.result c.place_of-at.ensures
          c.leave_out-above.new.level c.leave_out-above.result (c.leave_out-above.ensures.left nothing);
      top =
          rw (cap_in_lem c.args.tasks.rows c.args.tasks.n c.next-i.result)
          (worth_top (get_or c.args.tasks.rows c.next-i.result no) c.rows.best c.in-Some.cap c.in-Some.ensures);
      narrowed = narrowed_first _ _ _ _ _;
      between = λ h. (omega arith, h);
    }

-- ---- the length that is tried
works : (c : In-lengths) →
    Working (table c.args.tasks) (without (marked c.ranks.unplaced) c.next-i.result) c.ranks.blocking
    c.next-i.result c.lengths.len c.active_period-period.result
works c =
    let v = c.lengths.invariant in
    let between = v.between c.lengths-test.true in
    hand_works v.hand (omega (arith, between.0, v.narrowed.some))
    (omega (arith, between.1, v.narrowed.within, top_le _ _ c.rows.best _ v.top))

pub overflow_sub-s : goal.overflow_sub-s
overflow_sub-s c =
    omega (arith, length_first (works (goal.at.overflow_sub-s c).In-lengths), c.lengths.invariant.hand.first_is)

pub jobs-init : goal.jobs-init
jobs-init c =
    let w = works (goal.at.jobs-init c).In-lengths in
    record { trial = trial_first w _ c.lengths.invariant.hand.first_is; working = w }

-- ---- a job that is tried
pub overflow_mul-released : goal.overflow_mul-released
overflow_mul-released c = omega (arith, trial_released c.jobs.invariant.working c.jobs.invariant.trial)

pub overflow_add-due : goal.overflow_add-due
overflow_add-due c =
    omega (arith, trial_released c.jobs.invariant.working c.jobs.invariant.trial, c.lengths.invariant.hand.sound.D.high)

pub base_of-base-requires : goal.base_of-base-requires
base_of-base-requires c =
    let h = c.lengths.invariant.hand in
    let w = c.jobs.invariant.working in
    let t = c.jobs.invariant.trial in (
      omega (arith, w.most, h.sound.C.high),
      omega (arith, length_first w, h.first_is),
      omega (arith, base_within w (c.jobs.k - 1) (omega (arith, t.low, t.high)), h.first_is, h.short),
    )

-- ---- one value of a start's iteration
side : (c : At-loop-s) →
    start_of (take c.leave_out-above.result c.leave_out-above.new.level) c.base_of-base.result c.loop-s.s
    ≡ start_side (table c.args.tasks) (without (marked c.ranks.unplaced) c.next-i.result) c.ranks.blocking
    c.next-i.result upto c.lengths.len c.jobs.k c.loop-s.s
side c =
    trial_side c.jobs.invariant.working c.loop-s.invariant c.lengths.invariant.hand c.lengths.invariant.above
    c.base_of-base.ensures

pub overflow_add-s : goal.overflow_add-s
overflow_add-s c =
    omega (arith, trial_within c.jobs.invariant.working c.loop-s.invariant, c.lengths.invariant.hand.short)

pub start_side-next-requires : goal.start_side-next-requires
start_side-next-requires c =
    let w = c.jobs.invariant.working in
    let short = c.lengths.invariant.hand.short in
    let is = side (goal.at.start_side-next-requires c).At-loop-s in (
      c.lengths.invariant.above.asking.few,
      omega (arith, trial_within w c.loop-s.invariant, short),
      omega (arith, is, trial_within w (trial_again w c.loop-s.invariant), short),
    )

pub loop-s-smaller : goal.loop-s-smaller
loop-s-smaller c =
    omega (
      arith,
      c.loop-s.invariant.climbing.up,
      c.start_side-next.ensures,
      side (goal.at.loop-s-smaller c).At-loop-s,
      c.if-next-s.false,
      trial_within c.jobs.invariant.working c.loop-s.invariant,
      c.lengths.invariant.hand.short,
    )

pub loop-s-preserved : goal.loop-s-preserved
loop-s-preserved c =
    rw (c.start_side-next.ensures ∙ side (goal.at.loop-s-preserved c).At-loop-s)
    (trial_again c.jobs.invariant.working c.loop-s.invariant)

-- a value that repeats is the start
repeats : (c : Then-next-s) →
    c.loop-s.s
    ≡ start_side (table c.args.tasks) (without (marked c.ranks.unplaced) c.next-i.result) c.ranks.blocking
    c.next-i.result upto c.lengths.len c.jobs.k c.loop-s.s
repeats c = sym c.if-next-s.true ∙ c.start_side-next.ensures ∙ side (goal.at.overflow_add-start c).At-loop-s

pub overflow_add-start : goal.overflow_add-start
overflow_add-start c =
    omega (arith, trial_within c.jobs.invariant.working c.loop-s.invariant, c.lengths.invariant.hand.short)

pub overflow_sub-start : goal.overflow_sub-start
overflow_sub-start c =
    omega (
      arith,
      trial_after c.jobs.invariant.working c.loop-s.invariant (repeats (goal.at.overflow_sub-start c).Then-next-s),
    )

pub overflow_add-released : goal.overflow_add-released
overflow_add-released c =
    omega (arith, trial_released c.jobs.invariant.working c.jobs.invariant.trial, c.lengths.invariant.hand.sound.T.high)

pub jobs-preserved : goal.jobs-preserved
jobs-preserved c =
    let w = c.jobs.invariant.working in
    let t = c.loop-s.invariant in
    record {
      trial =
          rw c.max-largest.ensures
          (trial_next w t (repeats (goal.at.jobs-preserved c).Then-next-s) c.if-due-s.false
          (trial_more w t c.if-period-released.false) refl);
      working = w;
    }

-- ---- where the job loop is left
tested : (c : Joined-due-s) →
    Tested (table c.args.tasks) (without (marked c.ranks.unplaced) c.next-i.result) c.ranks.blocking
    c.next-i.result c.lengths.len c.if-due-s.trial
tested c =
    let w = c.jobs.invariant.working in
    let t = c.loop-s.invariant in
    let is = trial_side w t c.lengths.invariant.hand c.lengths.invariant.above c.base_of-base.ensures in
    elim c.if-due-s.branch [
      | then-due-s m ↦ rw m.trial-is (trial_misses w t m.if-due-s.true)
      | else-due-s+then-next-s+then-period-released m ↦
          rw (m.trial-is, m.max-largest.ensures)
          (trial_passes w t (sym m.if-next-s.true ∙ m.start_side-next.ensures ∙ is) m.if-due-s.false
          (trial_last w t m.if-period-released.true))
    ]

-- ---- where a length has been tried
narrower : (c : Joined-trial) →
    Tested (table c.args.tasks) (without (marked c.ranks.unplaced) c.next-i.result) c.ranks.blocking c.next-i.result
    c.lengths.len c.if-due-s.trial →
    Narrowed (table c.args.tasks) (without (marked c.ranks.unplaced) c.next-i.result) c.ranks.blocking c.next-i.result
    c.in-Some.cap c.match-trial.low c.match-trial.high c.match-trial.passed
narrower c t =
    let v = c.lengths.invariant in
    let b = v.between c.lengths-test.true in
    let w = c.jobs.invariant.working in
    let most : c.lengths.len ≤ cap (table c.args.tasks) c.next-i.result =
    omega (arith, b.1, v.narrowed.within, top_le _ _ c.rows.best _ v.top) in
    elim c.match-trial.branch [
      | in-Some-trial m ↦
          rw (m.low-is, m.high-is, m.passed-is) (narrowed_fits v.narrowed b.0 b.1 most w (rw m.in-Some-trial.is at t))
      | in_default-trial m ↦
          rw (m.low-is, m.high-is, m.passed-is)
          (narrowed_misses v.narrowed b.0 b.1 most w (rw m.in_default-trial.is at t))
    ]

pub lengths-preserved : goal.lengths-preserved
lengths-preserved c =
    let g = goal.at.lengths-preserved c in
    let v = c.lengths.invariant in
    record {
      hand = v.hand;
      above = v.above;
      top = v.top;
      narrowed = narrower g.Joined-trial (tested g.Joined-due-s);
      between = c.next_length-len.ensures;
    }

-- ---- where all lengths of the row in hand are tried
pub put_back-requires : goal.put_back-requires
put_back-requires c =
    let m = among (goal.at.put_back-requires c).After-next-i in (
      c.lengths.invariant.above.whole,
      place_in_room c.rows.invariant.turn _ m c.place_of-at.result c.place_of-at.ensures,
    )

-- what the row in hand blocks with
blocks_with : (tasks : Tasks) (i q : ℕ) {m : ℕ} → m ≡ longer_in (get_or tasks.rows i no) q →
    m ≡ longer (table tasks) i q
blocks_with tasks i q e = e ∙ sym (longer_in_lem tasks.rows tasks.n i q)

-- the level is that of the rank again
restored : (c : After-put_back) → c.put_back.new.level ≡ c.rows.level
restored c =
    let v = c.rows.invariant in
    left_back v.turn _ (v.seen.among c.next-i.result c.next-i.ensures.first.holds) c.place_of-at.result
    c.place_of-at.ensures c.leave_out-above.new.level c.leave_out-above.result (c.leave_out-above.ensures.left nothing)
    c.put_back.new.level c.index-asks-i.result c.index-asks-i.is c.put_back.ensures

pub rows-preserved-else-longer-eq1 : goal.rows-preserved-else-longer-eq1
rows-preserved-else-longer-eq1 c =
    let v = c.rows.invariant in
    let l = c.lengths.invariant in
    let back = restored (goal.at.rows-preserved-else-longer-eq1 c).After-put_back in
    record {
      turn = rw back v.turn;
      period = rw back v.period;
      seen =
          seen_better c.rows.best v.seen c.next-i.ensures c.less-rest.ensures l.hand.row l.top l.narrowed
          c.lengths-test.false (rw c.in-Some-passed.is at l.narrowed.found)
          (blocks_with c.args.tasks c.next-i.result c.lengths.high c.longer-longer.ensures);
    }

pub rows-preserved : goal.rows-preserved
rows-preserved c =
    let v = c.rows.invariant in
    let l = c.lengths.invariant in
    let back = restored (goal.at.rows-preserved c).After-put_back in
    record {
      turn = rw back v.turn;
      period = rw back v.period;
      seen =
          seen_same c.rows.best v.seen c.next-i.ensures c.less-rest.ensures l.hand.row l.top l.narrowed
          c.lengths-test.false (rw c.in_default-passed.is at l.narrowed.found);
    }

-- no length of the row in hand is worth a try
pub rows-preserved-in_default : goal.rows-preserved-in_default
rows-preserved-in_default c =
    let v = c.rows.invariant in
    let m = among (goal.at.rows-preserved-in_default c).After-next-i in
    record {
      turn = v.turn;
      period = v.period;
      seen =
          seen_over c.rows.best v.seen c.next-i.ensures c.less-rest.ensures (v.turn.search.inside _ m)
          (worth_over (get_or c.args.tasks.rows c.next-i.result no) c.rows.best c.in_default.ensures);
    }

-- ---- where all rows have been tried
pub returns-in_default-best : goal.returns-in_default-best
returns-in_default-best c =
    let t = c.rows.invariant.turn.search in
    going_stops _ (sound_positive _ t.sound) c.ranks.invariant.going c.size-rank.ensures
    (count_something c.ranks.unplaced most_rows t.some (λ j m. omega (arith, t.inside j m, t.sound.few)))
    (elim c.rows-test.branch [
      | else-rows-test w ↦
          seen_none (rw (sym w.best-is ∙ c.in_default-best.is, w.rows-test.false) at c.rows.invariant.seen)
      | then-rows-test+in-Some+else-lengths-test+in-Some-passed+then-longer-eq1 w ↦
          let some = w.best-is in
          let none = c.in_default-best.is in
          absurd (cc)
    ])

-- ---- the row that takes the rank
seen : (c : In-Some-best) →
    Seen (table c.args.tasks) (marked c.ranks.unplaced) c.ranks.blocking (marked c.ranks.unplaced)
    (Some c.in-Some-best.taken) 0
seen c =
    elim c.rows-test.branch [
      | else-rows-test w ↦
          rw (sym w.best-is ∙ c.in-Some-best.is, w.rows-test.false) at c.rows.invariant.seen
      | then-rows-test+in-Some+else-lengths-test+in-Some-passed+then-longer-eq1 w ↦
          let l = w.lengths.invariant in
          rw (sym c.in-Some-best.is ∙ w.best-is)
          (seen_one w.if-longer-eq1.true
          (seen_better c.rows.best c.rows.invariant.seen w.next-i.ensures w.less-rest.ensures l.hand.row l.top
          l.narrowed w.lengths-test.false (rw w.in-Some-passed.is at l.narrowed.found)
          (blocks_with c.args.tasks w.next-i.result w.lengths.high w.longer-longer.ensures)))
    ]

takes : (c : In-Some-best) →
    Takes (table c.args.tasks) (marked c.ranks.unplaced) c.ranks.blocking (marked c.ranks.unplaced)
    c.in-Some-best.taken.row c.in-Some-best.taken.length
takes c = seen_all (seen c)

row_inside : (c : In-Some-best) → c.in-Some-best.taken.row < most_rows
row_inside c = omega (arith, (takes c).row, c.args.tasks.sound.few)

pub overflow_sub-runs : goal.overflow_sub-runs
overflow_sub-runs c =
    let k = takes (goal.at.overflow_sub-runs c).In-Some-best in
    omega (
      arith,
      read_run c.index-asks-placed.result c.requires.2 k.row,
      runs_enough (sound_positive _ c.args.tasks.sound) c.ranks.unplaced c.ranks.invariant.runs k.row k.try,
    )

pub overflow_sub-taken : goal.overflow_sub-taken
overflow_sub-taken c =
    let k = (seen (goal.at.overflow_sub-taken c).In-Some-best).leads in
    omega (
      arith,
      k.blocks_with,
      k.shortest.low,
      longer_ge (table c.args.tasks) c.in-Some-best.taken.row c.in-Some-best.taken.length,
    )

pub ranks-preserved : goal.ranks-preserved
ranks-preserved c =
    let g = (goal.at.ranks-preserved c).In-Some-best in
    let k = (seen g).leads in
    let pos = sound_positive _ c.args.tasks.sound in
    record {
      going =
          rw c.size-rank.ensures
          (going_more _ pos c.ranks.invariant.going (row_inside g) (takes g) k.timed c.less-unplaced.ensures
          k.blocks_with c.max-blocking.ensures);
      runs =
          ap (λ x. c.ranks.runs - x) (read_run c.index-asks-placed.result c.requires.2 k.row)
          ∙ runs_more pos c.ranks.unplaced c.ranks.invariant.runs k.row k.try c.less-unplaced.ensures;
    }

pub returns : goal.returns
returns c =
    going_ends _ (sound_positive _ c.args.tasks.sound) c.ranks.invariant.going c.ranks-test.false
