-- `plan_sheet` meets its contract: the refusal of the sheet, or that of its table, or the planned table.
use Rattle.std.proofs.Common.{ℕ, List, ◌≡◌, take}
use Rattle.std.specs.Borrow.{Bor}
use Rattle.std.proofs.lemmas.Result.{IfOk-weaker, IfErr-weaker, err_from_is_err_and}
use Rattle.tables.specs.Checks.{Rows}
use Rattle.tables.specs.declared.answer.Said.{Said}
use Rattle.choice.specs.Answers.{planned_width, PlanAnswer}
use Rattle.printing.specs.Printed.{plan_text, refused_line}
use Rattle.templetbark.specs.Said.{said_of}
use Rattle.program.specs.Reply.{blank, PagePlanned, Page}
use Rattle.program.proofs.Pages.{plan_rows, plan_given, plan_refused, sheet_given, sheet_refused}
use Rattle.program.proofs.plan_sheet.Goals as goal
use Rattle.program.proofs.plan_sheet.Goals.{After-front-2}

-- what plan answered, of an output that was blank
plans : (c : After-front-2) → PlanAnswer c.in_ok-rows.rows.now (blank planned_width)
    (said_of c.tb_plan-said.result c.tb_plan-said.new.out)
plans c = rw c.requires at c.tb_plan-said.ensures

-- of a sheet that is given, the page of its table is the page of the text
page_of : (c : After-front-2) (page : List ℕ) → PagePlanned c.in_ok-rows.rows.now page → Page c.args.text.now page
page_of c page p =
    let e = c.in_ok-rows.ensures.given in
    sheet_given c.args.text.now (said_of c.tb_sheet-read.result c.tb_sheet-read.new.out) page c.tb_sheet-read.ensures e.0
    (rw e.1 at p)

pub returns-in_err-rows-clause-refused : goal.returns-in_err-rows-clause-refused
returns-in_err-rows-clause-refused c =
    let p = err_from_is_err_and c.from_residual.result c.from_residual.ensures.1 in
    let e = c.in_err-rows.ensures.refused in
    rw (p.1, p.2, e.0)
    (sheet_refused c.args.text.now (said_of c.tb_sheet-read.result c.tb_sheet-read.new.out) c.tb_sheet-read.ensures e.1)

pub returns-clause-given : goal.returns-clause-given
returns-clause-given c =
    let r = said_of c.tb_plan-said.result c.tb_plan-said.new.out in
    IfOk-weaker c.front-2.result
    (λ (given : Bor (List ℕ)). (r.number ≡ 0) × (given.now ≡ take r.value r.out))
    (λ (given : Bor (List ℕ)). Rows planned_width given.now × Page c.args.text.now (plan_text given.now))
    (λ given h.
    rw h.1 (
      (plan_rows c.in_ok-rows.rows.now r (plans c) h.0).1,
      page_of c (plan_text (take r.value r.out)) (plan_given c.in_ok-rows.rows.now r (plans c) h.0),
    ))
    c.front-2.ensures.given

pub returns-clause-refused : goal.returns-clause-refused
returns-clause-refused c =
    let r = said_of c.tb_plan-said.result c.tb_plan-said.new.out in
    IfErr-weaker c.front-2.result
    (λ (refusal : Said). (refusal ≡ c.tb_plan-said.result) × (r.number ≡ 0 → ⊥))
    (λ (refusal : Said). Page c.args.text.now (refused_line refusal.number refusal.place))
    (λ refusal h.
    rw h.0 (page_of c (refused_line r.number r.place) (plan_refused c.in_ok-rows.rows.now r (plans c) h.1)))
    c.front-2.ensures.refused
