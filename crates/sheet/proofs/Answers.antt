-- Laws of the answer of `sheet`: what was read is the sheet, any two answers are equal, and a text cut behind the
-- longest sheet has the same answer.
use Prim.Native.Nat.{ℕ, ◌*◌, ◌<◌}
use mathlib.Core.Path.{◌≡◌, refl, sym, ap, ◌∙◌}
use mathlib.Core.Logic.{inl, ⊎_elim}
use mathlib.Core.List.{List, ◌++◌}
use native.Mathlib.Omega.{arith}
use lib.ListN.{length, take}
use lib.Seq.{take_at, take_all, take-take, length-take-le}
use Rattle.counting.proofs.Cases.{by_le}
use Rattle.tables.specs.Table.{row_width}
use Rattle.tables.specs.Refusal.{Result}
use Rattle.tables.specs.Checks.{Rows}
use Rattle.tables.proofs.Answered.{OnePlace, bare_one, answered_unique, result_same, range_place, room_place}
use Rattle.sheet.specs.Sheet.{Task, WellFormed, Sheet, LongestPrefix, ticks_of}
use Rattle.sheet.specs.Answers.{sheet_form, SheetGiven, ticks_checks, TicksAnswer, SheetAnswer}
use Rattle.sheet.specs.inside.Read.{ReadsTasks, ReadsSheet}
use Rattle.std.proofs.Common.{Result as OkOrErr, Ok, Err}
use Rattle.sheet.proofs.Fronts.{length_ticks, longest_sheet, sheet_length, sheet_once, front_whole, shared_bound}

-- all tasks read, and the text ends
pub reads_sheet : (s : List ℕ) (tick : ℕ) (before table : List ℕ) (r : OkOrErr ℕ ℕ) → ReadsTasks s tick before table r →
    ReadsSheet s before table r
reads_sheet s tick before table (Ok n) h =
    let f = h.1 in
    (tick, f.tasks, front_whole s tick f.tasks (length s) f.front refl (omega arith), f.many, f.rows)
reads_sheet s tick before table (Err place) h = h

-- the table of a well-formed sheet
module _ (tick : ℕ) (ts : List Task) where
  pub ticks_rows : WellFormed tick ts → Rows row_width (ticks_of tick ts)
  ticks_rows w = record { n = length ts; whole = length_ticks tick ts; some = w.some; few = w.few }

  pub ticks_front : (n : ℕ) (table rest : List ℕ) → length ts ≡ n → table ≡ ticks_of tick ts ++ rest →
      take (row_width * n) table ≡ ticks_of tick ts
  ticks_front n table rest e f =
      rw f (take_at (ticks_of tick ts) rest (row_width * n) (omega (arith, length_ticks tick ts)))

-- any two answers are equal
form_place : (text : List ℕ) → OnePlace (sheet_form text)
form_place text a b h g =
    let p = h.0 in
    let q = g.0 in omega (arith, p.longest b q.within q.shared, q.longest a p.within p.shared)

ticks_unique : (ticks out : List ℕ) (r s : Result) → TicksAnswer ticks out r → TicksAnswer ticks out s → r ≡ s
ticks_unique ticks out r s =
    answered_unique bare_one (ticks_checks ticks out) (SheetGiven ticks out) out r s
    (range_place ticks, (room_place (length ticks) out, tt))
    (λ clear v w l m g h. (g.many ∙ sym h.many, g.whole ∙ sym h.whole))

pub sheet_unique : (text out : List ℕ) (r s : Result) → SheetAnswer text out r → SheetAnswer text out s → r ≡ s
sheet_unique text out r s a b =
    ⊎_elim
    (λ x. ⊎_elim
    (λ y.
    result_same r s (x.number ∙ sym y.number) (form_place text r.place s.place x.place y.place)
    (x.value ∙ sym y.value)
    (x.unwritten ∙ sym y.unwritten))
    (λ y. absurd (x.place.1 y.0 y.1 y.2))
    b)
    (λ x. ⊎_elim
    (λ y. absurd (y.place.1 x.0 x.1 x.2))
    (λ y.
    let e = sheet_once text x.0 y.0 x.1 y.1 x.2 y.2 in
    ticks_unique (ticks_of x.0 x.1) out r s x.3 (rw (e.0, e.1) y.3))
    b)
    a

long_no_sheet : (s : List ℕ) → longest_sheet < length s → (tick : ℕ) (ts : List Task) → Sheet s tick ts → ⊥
long_no_sheet s h tick ts g = omega (arith, ap length g.bytes, sheet_length tick ts g.formed)

-- a text that is cut behind the longest sheet has the same answer
pub cut_same : (text : List ℕ) (k : ℕ) → longest_sheet < k → (out : List ℕ) (r : Result) →
    SheetAnswer (take k text) out r → SheetAnswer text out r
cut_same text k enough out r a =
    by_le (length text) k
    (λ h. rw (take_all k text h) at a)
    (λ h.
    let long = length-take-le k text (omega arith) in
    ⊎_elim
    (λ x.
    let p = x.place.0 in
    let same : LongestPrefix text r.place =
    record {
      within = omega arith;
      shared = rw (take-take r.place k text (omega arith)) at p.shared;
      longest = λ m l g.
          let b = shared_bound text m l g in p.longest m (omega arith) (rw (take-take m k text (omega arith)) g);
    } in
    inl (record {
      number = x.number;
      place = (same, long_no_sheet text (omega arith));
      value = x.value;
      unwritten = x.unwritten;
    }))
    (λ x. absurd (long_no_sheet (take k text) (omega arith) x.0 x.1 x.2))
    a)
