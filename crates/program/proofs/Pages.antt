-- Laws of the page of a text: what is given has the shape and the length for the next step, and one text has one page.
use Prim.Native.Nat.{ℕ, ◌*◌, ◌≤◌, ◌<◌}
use mathlib.Core.Path.{◌≡◌, refl, sym, ap, ◌∙◌, subst}
use mathlib.Core.Logic.{⊎_elim}
use mathlib.Core.List.{List}
use native.Mathlib.Omega.{arith}
use lib.ListN.{length, take}
use lib.Seq.{length-take-le}
use Rattle.counting.proofs.Cases.{by_eq}
use Rattle.tables.specs.Table.{row_width, most_rows, table_of}
use Rattle.tables.specs.Refusal.{Result, bare}
use Rattle.tables.specs.Checks.{Rows}
use Rattle.tables.proofs.Answered.{granted, clear_at}
use Rattle.tables.proofs.Clear.{rows_of_shape}
use Rattle.choice.specs.Answers.{planned_width, PlanGiven, plan_checks, PlanAnswer}
use Rattle.sheet.specs.Sheet.{ticks_of}
use Rattle.sheet.specs.Answers.{SheetGiven, ticks_checks, SheetAnswer}
use Rattle.sheet.proofs.Fronts.{longest_sheet, length_ticks}
use Rattle.printing.specs.Printed.{plan_text, refused_line}
use Rattle.printing.specs.Answers.{PrintFront}
use Rattle.plan.proofs.Unique.{plan_unique}
use Rattle.sheet.proofs.Answers.{sheet_unique, cut_same}
use Rattle.program.specs.Reply.{blank, Refuses, PagePlanned, Page}

-- a planned table that is given is rows
pub plan_rows : (table : List ℕ) (r : Result) → PlanAnswer table (blank planned_width) r → r.number ≡ 0 →
    (r.value ≤ length r.out) × Rows planned_width (take r.value r.out)
plan_rows table r a z =
    let tb = table_of table in
    let cs = plan_checks table (blank planned_width) in
    let g = granted bare cs (PlanGiven tb (blank planned_width)) (blank planned_width) r refl z a in
    let s = rows_of_shape row_width table (clear_at 1 cs g.0) in
    let w = s.whole in
    let l = s.some in
    let f = s.few in
    let v = g.1.given.many in
    let o = g.1.given.whole in
    let fits : r.value ≤ length r.out = omega arith in (
      fits,
      record {
        n = tb.n;
        whole = length-take-le r.value r.out fits ∙ v;
        some = omega arith;
        few = omega arith;
      },
    )

-- a table that is given by sheet is within its output
pub sheet_within : (text : List ℕ) (r : Result) → SheetAnswer text (blank row_width) r → r.number ≡ 0 →
    r.value ≤ row_width * most_rows
sheet_within text r a z =
    ⊎_elim
    (λ x. absurd (omega (arith, x.number)))
    (λ x.
    let ticks = ticks_of x.0 x.1 in
    let g = granted bare (ticks_checks ticks (blank row_width)) (SheetGiven ticks (blank row_width)) (blank row_width) r
    refl z x.3 in
    let v = g.1.given.many in
    let f = x.2.formed.few in omega (arith, length_ticks x.0 x.1))
    a

-- with room for it, print gives the text
pub front_given : (planned : List ℕ) (len : ℕ) (front : List ℕ) → Rows planned_width planned →
    length (plan_text planned) ≤ len → PrintFront planned len front
    → front ≡ plan_text planned
front_given planned len front rows fits p =
    p.given
    (⊎_elim
    (λ x. absurd (x.place.1 rows))
    (λ x. ⊎_elim (λ y. absurd (let l = y.place.1 in omega arith)) (λ y. y.1.number) x.1)
    p.fit)

-- the page of a table that is given, and of one that is refused
pub plan_given : (table : List ℕ) (r : Result) → PlanAnswer table (blank planned_width) r → r.number ≡ 0 →
    PagePlanned table (plan_text (take r.value r.out))
plan_given table r a z = record { result = r; plan = a; given = λ w. refl; refused = λ n. absurd (n z) }

pub plan_refused : (table : List ℕ) (r : Result) → PlanAnswer table (blank planned_width) r → (r.number ≡ 0 → ⊥) →
    PagePlanned table (refused_line r.number r.place)
plan_refused table r a n = record { result = r; plan = a; given = λ z. absurd (n z); refused = λ w. refl }

-- the page of a sheet whose table has the page, and of one that is refused
pub sheet_given : (text : List ℕ) (r : Result) (page : List ℕ) → SheetAnswer text (blank row_width) r → r.number ≡ 0 →
    PagePlanned (take r.value r.out) page → Page text page
sheet_given text r page a z p = record { result = r; sheet = a; given = λ w. p; refused = λ n. absurd (n z) }

pub sheet_refused : (text : List ℕ) (r : Result) → SheetAnswer text (blank row_width) r → (r.number ≡ 0 → ⊥) →
    Page text (refused_line r.number r.place)
sheet_refused text r a n = record { result = r; sheet = a; given = λ z. absurd (n z); refused = λ w. refl }

-- one text has one page
module _ {a b : List ℕ} where
  pages_same : (x y : Result) → x ≡ y → (x.number ≡ 0 → y.number ≡ 0 → a ≡ b) → Refuses x a → Refuses y b → a ≡ b
  pages_same x y e given f g =
      let n = ap (λ (r : Result). r.number) e in
      by_eq x.number 0
      (λ z. given z (sym n ∙ z))
      (λ z. f z ∙ ap (λ (r : Result). refused_line r.number r.place) e ∙ sym (g (λ w. z (n ∙ w))))

  planned_unique : (table : List ℕ) → PagePlanned table a → PagePlanned table b → a ≡ b
  planned_unique table p q =
      let e = plan_unique table (blank planned_width) p.result q.result p.plan q.plan in
      pages_same p.result q.result e
      (λ z w. p.given z ∙ ap (λ (r : Result). plan_text (take r.value r.out)) e ∙ sym (q.given w))
      p.refused
      q.refused

  pub page_unique : (text : List ℕ) → Page text a → Page text b → a ≡ b
  page_unique text p q =
      let e = sheet_unique text (blank row_width) p.result q.result p.sheet q.sheet in
      pages_same p.result q.result e
      (λ z w.
      planned_unique (take p.result.value p.result.out) (p.given z)
      (subst (λ (r : Result). PagePlanned (take r.value r.out) b) (sym e) (q.given w)))
      p.refused
      q.refused

-- a text cut behind the longest sheet has the page of the whole
pub page_cut : (text : List ℕ) (k : ℕ) (page : List ℕ) → longest_sheet < k → Page (take k text) page → Page text page
page_cut text k page h p =
    record {
      result = p.result;
      sheet = cut_same text k h (blank row_width) p.result p.sheet;
      given = p.given;
      refused = p.refused;
    }
