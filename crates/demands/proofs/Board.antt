-- From the bytes of a sheet to the board, proved.
use Prim.Native.Nat.{ℕ, ◌+◌, ◌*◌, ◌/◌, ◌≤◌, ◌<◌}
use mathlib.Core.Path.{◌≡◌, refl, ap, sym, ◌∙◌, subst}
use mathlib.Core.Logic.{⊎_elim}
use mathlib.Core.List.{List, ◌++◌}
use native.Mathlib.Omega.{arith}
use native.Mathlib.Nat.{mul-le-mul_right}
use lib.ListN.{length, get_or, take}
use lib.Seq.{get_or-take, take_at, length-take-le}
use Rattle.counting.specs.Up.{up}
use Rattle.counting.proofs.Cases.{by_eq}
use Rattle.tables.specs.Table.{Table, table_of, row_width}
use Rattle.tables.specs.Plan.{Plan, WellFormed, plan_of}
use Rattle.tables.specs.Planned.{planned_width, planned_of, response_in}
use Rattle.tables.specs.Refusal.{Result, bare}
use Rattle.tables.specs.Checks.{Rows}
use Rattle.tables.proofs.Answered.{granted}
use Rattle.tables.proofs.Plan.{cap_run}
use Rattle.tables.proofs.Clear.{plan_of_clear, sound_of_clear}
use Rattle.decimal.specs.Word.{word}
use Rattle.decimal.specs.Decimal.{decimal}
use Rattle.decimal.proofs.Decimal.{decimal_small}
use Rattle.test.specs.Test.{ResponseOf, Passes}
use Rattle.test.proofs.Load.{sound_positive}
use Rattle.test.proofs.Response.{response_unique}
use Rattle.test.proofs.Plans.{plan_alike}
use Rattle.choice.specs.Answers.{PlanAnswer}
use Rattle.choice.proofs.Complete.{chosen_well_formed, chosen_passes, stopped_no_plan}
use Rattle.sheet.specs.Sheet.{ticks_of}
use Rattle.sheet.specs.Answers.{SheetGiven, ticks_checks}
use Rattle.sheet.proofs.Fronts.{length_ticks, sheet_once}
use Rattle.sheet.proofs.Ticks.{place_within, row_at}
use Rattle.sheet.proofs.Rounding.{neither_grows}
use Rattle.printing.specs.Printed.{plan_line, plan_text, refused_line}
use Rattle.printing.proofs.Inverse.{text_determines}
use Rattle.program.specs.Reply.{blank, PagePlanned, Page}
use Rattle.program.proofs.Pages.{plan_rows}
use Rattle.demands.specs.Demand2.{Accepted}
use Rattle.demands.specs.Board.{OfItsTable, RowHolds, PrintedPlanHolds, PrintedWithinTheSheet}
use Rattle.demands.specs.Board.{PrintedFiveHolds}
use Rattle.demands.proofs.Gave.{PlanGave, plan_gave}
use Rattle.demands.proofs.Demand3.{no_job_takes_longer, some_job_takes_exactly}

-- the first byte tells a plan from a refusal, and the ninth byte a refusal's number
plan_byte : (ys : List ℕ) → get_or (plan_text ys) 0 0 ≡ 112
unfolding plan_text plan_line
plan_byte ys = refl

refused_byte : (number place : ℕ) → get_or (refused_line number place) 0 0 ≡ 114
unfolding refused_line
refused_byte number place = refl

number_byte : (number place : ℕ) → number < 10 → get_or (refused_line number place) 8 0 ≡ 48 + number
unfolding refused_line
number_byte number place small =
    ap (λ (d : List ℕ). get_or ((word "refused " ++ d) ++ (word " " ++ decimal place) ++ word "\n") 8 0)
    (decimal_small number small)

no_plan_refused : (ys : List ℕ) (number place : ℕ) → plan_text ys ≡ refused_line number place → ⊥
no_plan_refused ys number place e =
    omega (arith, plan_byte ys, refused_byte number place, ap (λ (l : List ℕ). get_or l 0 0) e)

-- a plan with the same ranks and lengths in the rows of the table is well formed too
alike_well_formed : (tb : Table) (p o : Plan) →
    ((j : ℕ) → j < tb.n → (p.rank j ≡ o.rank j) × (p.len j ≡ o.len j)) → WellFormed tb p → WellFormed tb o
alike_well_formed tb p o same w =
    record {
      rank_low = λ i l. omega (arith, same i l, w.rank_low i l);
      rank_high = λ i l. omega (arith, same i l, w.rank_high i l);
      once = λ i j l m e. w.once i j l m ((same i l).0 ∙ e ∙ sym (same j m).0);
      len_low = λ i l. omega (arith, same i l, w.len_low i l);
      len_high = λ i l. omega (arith, same i l, w.len_high i l);
    }

-- what plan gave for a table, and the numbers printed: the planned table in front of the output
module _ (xs planned : List ℕ) (r : Result) (answer : PlanAnswer xs (blank planned_width) r) (zero : r.number ≡ 0)
    (same : planned ≡ take r.value r.out) where
  abbrev tb : Table
  tb = table_of xs

  abbrev written : Plan
  written = planned_of r.out

  gave : PlanGave xs (blank planned_width) r
  gave = plan_gave xs (blank planned_width) r answer zero

  number_same : (k : ℕ) → k < planned_width * tb.n → get_or r.out k 0 ≡ get_or planned k 0
  number_same k l =
      sym (ap (λ (ys : List ℕ). get_or ys k 0) same
      ∙ get_or-take r.value r.out k 0 (omega (arith, gave.given.many)))

  ranks_same : (j : ℕ) → j < tb.n → (written.rank j ≡ (planned_of planned).rank j)
      × (written.len j ≡ (planned_of planned).len j)
  ranks_same j l = (number_same (planned_width * j) (omega arith), number_same (planned_width * j + 1) (omega arith))

  row_holds : (i : ℕ) → i < tb.n → RowHolds tb planned i
  row_holds i l =
      let sound = gave.table.sound in
      let pos = sound_positive tb sound in
      let wf = chosen_well_formed tb pos written gave.given.chosen in
      let o = planned_of planned in
      let wo = alike_well_formed tb written o ranks_same wf in
      let x = gave.given.responses i l in
      let R = response_in planned i in
      let e = number_same (planned_width * i + 2) (omega arith) in
      let y = subst (ResponseOf tb o i) e
      (plan_alike tb written o ranks_same i (response_in r.out i) pos l (wf.len_low i l)
      (cap_run tb i (wf.len_high i l)) x) in
      let pass = chosen_passes tb pos written gave.given.chosen i l in
      record {
        never_longer = no_job_takes_longer tb sound o wo i R l y;
        reached = some_job_takes_exactly tb sound o wo i R l y;
        in_time =
            omega (
              arith,
              e,
              response_unique tb _ _ i _ (response_in r.out i) pass.R x pass.response,
              pass.within,
            );
      }

  lines : length planned ≡ planned_width * tb.n
  lines =
      ap length same
      ∙ length-take-le r.value r.out (plan_rows xs r answer zero).0
      ∙ gave.given.many

-- a page that is the text of a planned table, as far as plan goes
plan_holds : (xs page planned : List ℕ) → PagePlanned xs page → Rows planned_width planned → page ≡ plan_text planned →
    (length planned ≡ planned_width * (table_of xs).n)
    × ((i : ℕ) → i < (table_of xs).n → RowHolds (table_of xs) planned i)
plan_holds xs page planned q rows e =
    let r = q.result in
    by_eq r.number 0
    (λ zero.
    let same =
    text_determines planned (take r.value r.out) rows (plan_rows xs r q.plan zero).1
    (sym e ∙ q.given zero) in
    (lines xs planned r q.plan zero same, row_holds xs planned r q.plan zero same))
    (λ nonzero. absurd (no_plan_refused planned _ _ (sym e ∙ q.refused nonzero)))

-- the table that sheet gave is that of the text
of_sheet : (text page : List ℕ) (p : Page text page) → p.result.number ≡ 0 →
    OfItsTable text (λ xs. PagePlanned xs page)
of_sheet text page p zero =
    let r = p.result in
    ⊎_elim
    (λ x. absurd (omega (arith, x.number)))
    (λ x.
    let ticks = ticks_of x.0 x.1 in
    let g =
    (granted bare (ticks_checks ticks (blank row_width)) (SheetGiven ticks (blank row_width))
    (blank row_width) r refl zero x.3).1.given in
    let table = ap (take r.value) g.whole ∙ take_at ticks _ r.value (sym g.many) in
    record {
      tick = x.0;
      tasks = x.1;
      sheet = x.2;
      holds = subst (λ (l : List ℕ). PagePlanned l page) table (p.given zero);
    })
    p.sheet

pub printed_plan_holds : PrintedPlanHolds
printed_plan_holds text page planned p rows e =
    by_eq p.result.number 0
    (λ zero.
    let t = of_sheet text page p zero in
    record {
      tick = t.tick;
      tasks = t.tasks;
      sheet = t.sheet;
      holds = plan_holds (ticks_of t.tick t.tasks) page planned t.holds rows e;
    })
    (λ nonzero. absurd (no_plan_refused planned _ _ (sym e ∙ p.refused nonzero)))

pub printed_within_the_sheet : PrintedWithinTheSheet
printed_within_the_sheet text page planned p rows e tick tasks sheet i t at =
    let h = printed_plan_holds text page planned p rows e in
    let same = sheet_once text h.tick tick h.tasks tasks h.sheet sheet in
    let xs = ticks_of tick tasks in
    let row = (rw (same.0, same.1) at h.holds).1 in
    let l : i < (table_of xs).n = omega (arith, length_ticks tick tasks, place_within tasks i t at) in
    let ticks : response_in planned i ≤ t.D / tick =
    omega (arith, (row i l).in_time, row_at tick tasks i t at 1 (omega arith)) in
    let low = sheet.formed.tick_within.low in
    let kept = neither_grows tick t (up t.C tick) (t.D / tick) (t.T / tick) _ low refl in
    omega (arith, mul-le-mul_right tick ticks, kept.1.not_above)

-- a refusal's number is that of one of its checks, and the page tells it
refused_number : (page : List ℕ) (r : Result) (place : ℕ) → (r.number ≡ 0 → ⊥) →
    ((r.number ≡ 0 → ⊥) → page ≡ refused_line r.number r.place) → r.number < 10 → page ≡ refused_line 5 place →
    r.number ≡ 5
refused_number page r place nonzero refused small e =
    omega (
      arith,
      number_byte r.number r.place small,
      number_byte 5 place (omega arith),
      ap (λ (l : List ℕ). get_or l 8 0) (sym (refused nonzero) ∙ e),
    )

-- the page `refused 5` of a table, as far as plan goes
five_holds : (xs page : List ℕ) (place : ℕ) → PagePlanned xs page → page ≡ refused_line 5 place →
    (ps : List ℕ) → Accepted xs ps → Passes (table_of xs) (plan_of ps) → ⊥
five_holds xs page place q e ps ok passes =
    let r = q.result in
    let tb = table_of xs in
    let not-given : r.number ≡ 0 → ⊥ = λ zero. no_plan_refused _ 5 place (sym (q.given zero) ∙ e) in
    let five : r.number < 10 → r.number ≡ 5 = λ small. refused_number page r place not-given q.refused small e in
    ⊎_elim (λ x. omega (arith, x.number, five (omega (arith, x.number)))) (λ x.
    ⊎_elim (λ y. omega (arith, y.number, five (omega (arith, y.number)))) (λ y.
    ⊎_elim (λ z. omega (arith, z.number, five (omega (arith, z.number)))) (λ z.
    ⊎_elim (λ v. omega (arith, v.number, five (omega (arith, v.number)))) (λ v.
    ⊎_elim
    (λ w.
    stopped_no_plan tb (sound_positive tb (sound_of_clear xs x.0 y.0)) w.place.1 (plan_of ps)
    (plan_of_clear tb ps ok).1 passes)
    (λ w. not-given w.1.number)
    v.1) z.1) y.1) x.1) q.plan

pub printed_five_holds : PrintedFiveHolds
printed_five_holds text page place p e =
    let r = p.result in
    by_eq r.number 0
    (λ zero.
    let t = of_sheet text page p zero in
    record {
      tick = t.tick;
      tasks = t.tasks;
      sheet = t.sheet;
      holds = five_holds (ticks_of t.tick t.tasks) page place t.holds e;
    })
    (λ nonzero. absurd (not_sheets nonzero))
  where
    -- sheet refuses with 9, 3 or 2
    not_sheets : (p.result.number ≡ 0 → ⊥) → ⊥
    not_sheets nonzero =
        let five : p.result.number < 10 → p.result.number ≡ 5 =
        λ small. refused_number page p.result place nonzero p.refused small e in
        ⊎_elim (λ x. omega (arith, x.number, five (omega (arith, x.number)))) (λ x.
        ⊎_elim (λ y. omega (arith, y.number, five (omega (arith, y.number)))) (λ y.
        ⊎_elim (λ z. omega (arith, z.number, five (omega (arith, z.number)))) (λ z. nonzero z.1.number)
        y.1) x.3) p.sheet
