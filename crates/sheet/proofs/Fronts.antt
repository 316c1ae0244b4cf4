-- Laws of the front of a sheet that has been read: it grows line by line, and where it is stuck is the place of refusal
-- 9.
use Prim.Native.Nat.{ℕ, suc, ◌+◌, ◌*◌, ◌≤◌, ◌<◌}
use mathlib.Core.Path.{◌≡◌, refl, sym, ap, ◌∙◌}
use mathlib.Core.List.{List, [], ◌∷◌, ◌++◌, append_assoc, append-nil}
use native.Mathlib.Omega.{arith}
use native.Mathlib.Nat.{add-suc}
use native.Mathlib.Numerals.{add-one}
use lib.ListN.{length, take, drop, length-append, length-drop, drop_of_length-le}
use lib.Seq.{take-add, take_at, length-take-le}
use Rattle.counting.proofs.Cases.{by_le}
use Rattle.tables.specs.Table.{row_width, most_rows}
use Rattle.reading.specs.Begins.{Between}
use Rattle.reading.specs.inside.Piece.{Passed, Stuck}
use Rattle.reading.proofs.Pieces.{begins_less, begins_on, begins_behind, code_rest}
use Rattle.sheet.specs.Sheet.{Task, longest_tick, task_line, TaskWithin, task_lines, TasksWithin}
use Rattle.sheet.specs.Sheet.{WellFormed, sheet_text, Sheet, Shared, LongestPrefix, row_of, ticks_of}
use Rattle.sheet.specs.Answers.{sheet_form}
use Rattle.sheet.specs.inside.Read.{tick_piece, task_piece, Front}
use Rattle.sheet.proofs.Lines.{code_tick, code_task, tick_length, task_length, one, one_within}

-- one task more
pub within_more : (ts : List Task) (t : Task) → TasksWithin ts → TaskWithin t → TasksWithin (ts ++ t ∷ [])
within_more [] t h g = (g, tt)
within_more (u ∷ ts) t h g = (h.0, within_more ts t h.1 g)

pub lines_more : (ts : List Task) (t : Task) → task_lines (ts ++ t ∷ []) ≡ task_lines ts ++ task_line t
unfolding task_lines
lines_more [] t = append-nil (task_line t)
lines_more (u ∷ ts) t = rw (lines_more ts t, append_assoc)

pub sheet_more : (tick : ℕ) (ts : List Task) (t : Task) →
    sheet_text tick (ts ++ t ∷ []) ≡ sheet_text tick ts ++ task_line t
unfolding sheet_text
sheet_more tick ts t = rw (lines_more ts t, append_assoc)

pub ticks_more : (tick : ℕ) (ts : List Task) (t : Task) → ticks_of tick (ts ++ t ∷ []) ≡ ticks_of tick ts ++ row_of tick t
unfolding ticks_of
ticks_more tick [] t = refl
ticks_more tick (u ∷ ts) t = rw (ticks_more tick ts t)

pub length_ticks : (tick : ℕ) (ts : List Task) → length (ticks_of tick ts) ≡ row_width * length ts
unfolding ticks_of
length_ticks tick [] = refl
length_ticks tick (t ∷ ts) = omega (arith, length_ticks tick ts)

-- how long the task lines are: each has some bytes, and 60 at most
lines_length : (ts : List Task) → TasksWithin ts →
    (length ts ≤ length (task_lines ts)) × (length (task_lines ts) ≤ 60 * length ts)
unfolding task_lines
lines_length [] h = (omega arith, omega arith)
lines_length (t ∷ ts) h =
    let r = lines_length ts h.1 in
    let l = task_length t h.0 in (simp length-append (omega arith), simp length-append (omega arith))

-- the first line with its four digits, and 32 lines with five numbers of ten digits each
abbrev pub longest_sheet : ℕ
longest_sheet = 10 + 32 * 60

pub sheet_length : (tick : ℕ) (ts : List Task) → WellFormed tick ts → length (sheet_text tick ts) ≤ longest_sheet
unfolding sheet_text
sheet_length tick ts w =
    simp length-append (omega (arith, w.few, tick_length tick w.tick_within, lines_length ts w.tasks))

-- what follows some task lines, where the whole is task lines
pub record Rest (ts us : List Task) (x : List ℕ) : Type 0 where
  pub rest : List Task
  pub joined : us ≡ ts ++ rest
  pub within : TasksWithin rest
  pub text : x ≡ task_lines rest

lines_rest : (ts us : List Task) (x : List ℕ) → TasksWithin ts → TasksWithin us → task_lines ts ++ x ≡ task_lines us →
    Rest ts us x
unfolding task_lines
lines_rest [] us x h g e = record { rest = us; joined = refl; within = g; text = e }
lines_rest (t ∷ ts) [] x h g e = absurd (omega (arith, task_length t h.0, simp length-append at (ap length e)))
lines_rest (t ∷ ts) (u ∷ us) x h g e =
    let f = rw append_assoc at e in
    let q = code_task t u h.0 g.0 (task_lines ts ++ x) (task_lines us) f in
    let y = code_rest task_piece code_task t u h.0 g.0 (task_lines ts ++ x) (task_lines us) f in
    let r = lines_rest ts us x h.1 g.1 y in
    record { rest = r.rest; joined = cc; within = r.within; text = r.text }

-- the same of whole sheets
sheet_rest : (tick tock : ℕ) (ts us : List Task) (x : List ℕ) → Between 1 longest_tick tick →
    Between 1 longest_tick tock → TasksWithin ts → TasksWithin us → sheet_text tick ts ++ x ≡ sheet_text tock us →
    (tick ≡ tock) × Rest ts us x
unfolding sheet_text
sheet_rest tick tock ts us x p q h g e =
    let f = rw append_assoc at e in (
      code_tick tick tock p q (task_lines ts ++ x) (task_lines us) f,
      lines_rest ts us x h g (code_rest tick_piece code_tick tick tock p q (task_lines ts ++ x) (task_lines us) f),
    )

-- task lines that are not empty begin with a whole one
some_lines : {X : Type 0} (vs : List Task) (x : List ℕ) → TasksWithin vs → x ≡ task_lines vs → 1 ≤ length x
    → ((t : Task) (us : List Task) → TaskWithin t → x ≡ task_line t ++ task_lines us → X) → X
unfolding task_lines
some_lines [] x h e l f = absurd (omega (arith, ap length e))
some_lines (t ∷ vs) x h e l f = f t vs h.0 e

empty : (ts : List Task) → length ts ≤ 0 → ts ≡ []
empty [] h = refl
empty (t ∷ ts) h = absurd (omega arith)

-- "which the bytes determine"
pub sheet_once : (text : List ℕ) (tick tock : ℕ) (ts us : List Task) → Sheet text tick ts → Sheet text tock us →
    (tick ≡ tock) × (ts ≡ us)
sheet_once text tick tock ts us p q =
    let e = append-nil (sheet_text tick ts) ∙ sym p.bytes ∙ q.bytes in
    let r = sheet_rest tick tock ts us [] p.formed.tick_within q.formed.tick_within p.formed.tasks
    q.formed.tasks e in
    let rest = r.1.rest in
    let none = empty rest (omega (arith, lines_length rest r.1.within, ap length r.1.text)) in
    (r.0, sym (r.1.joined ∙ rw (none, append-nil)))

longest_here : (text : List ℕ) (place : ℕ) → place ≤ length text → Shared (take place text)
    → (place < length text → Shared (take (suc place) text) → ⊥) → LongestPrefix text place
longest_here text place h s none =
    record {
      within = h;
      shared = s;
      longest = λ m l g. by_le m place (λ q. q)
          (λ q. absurd (none (omega arith) (g.0, g.1, g.2, begins_less text (suc place) m q g.3)));
    }

-- stuck in the first line
pub tick_stuck : (text : List ℕ) (place : ℕ) → Stuck tick_piece text 0 place → (sheet_form text).hits place
unfolding sheet_text
tick_stuck text place h =
    let e : place ≡ h.ahead = omega arith in
    let s = h.stops in
    let tick = s.begun.0 in
    let formed : WellFormed tick (one ∷ []) =
    record { tick_within = s.begun.1; some = omega arith; few = omega arith; tasks = (one_within, tt) } in
    rw e (
      longest_here text h.ahead s.within
          (tick, one ∷ [], formed, begins_on (take h.ahead text) (task_lines (one ∷ [])) s.begun.2)
          (λ l g. s.no_more l g.0 g.2.tick_within (task_lines g.1) g.3),
      λ tick ts g. s.no_text tick g.formed.tick_within (task_lines ts) g.bytes,
    )

module _ (text : List ℕ) (tick : ℕ) (ts : List Task) (at : ℕ) (f : Front text tick ts at) where
  front : take at text ≡ sheet_text tick ts
  front = ap (take at) f.split ∙ take_at (sheet_text tick ts) (drop at text) at (sym f.behind)

  seen : (m : ℕ) → take (at + m) text ≡ sheet_text tick ts ++ take m (drop at text)
  seen m = rw (take-add, front)

  -- a sheet that begins as far as that goes on with task lines
  beyond : (m tock : ℕ) (us : List Task) (rest : List ℕ) → WellFormed tock us →
      take (at + m) text ++ rest ≡ sheet_text tock us → Rest ts us (take m (drop at text) ++ rest)
  beyond m tock us rest w e =
      (sheet_rest tick tock ts us (take m (drop at text) ++ rest) f.tick_within w.tick_within f.tasks w.tasks
      (rw (seen m, append_assoc) at e)).1

  whole_rest : (tock : ℕ) (us : List Task) → Sheet text tock us → Rest ts us (drop at text)
  whole_rest tock us g =
      (sheet_rest tick tock ts us (drop at text) f.tick_within g.formed.tick_within f.tasks g.formed.tasks
      (sym f.split ∙ g.bytes)).1

  left : length (drop at text) + at ≡ length text
  left = omega (arith, length-drop at text)

  -- one line more
  pub front_more : (t : Task) (next : ℕ) → length ts < most_rows → Passed task_piece text at t next →
      Front text tick (ts ++ t ∷ []) next
  front_more t next few p =
      record {
        tick_within = f.tick_within;
        few = omega (arith, length-append ts (t ∷ []));
        tasks = within_more ts t f.tasks p.allowed;
        within = p.within;
        behind = rw (sheet_more tick ts t, length-append) (omega arith);
        split = cc (sheet_more tick ts t, append_assoc (sheet_text tick ts) (task_line t) (drop next text));
      }

  -- stuck in a task line, the first or one behind which the text goes on
  pub front_stuck : (place : ℕ) → length ts < most_rows → (1 ≤ length ts → at < length text) →
      Stuck task_piece text at place → (sheet_form text).hits place
  front_stuck place few more h =
      let s = h.stops in
      let p = h.ahead in
      let t = s.begun.0 in
      let long = length-append ts (t ∷ []) in
      let formed : WellFormed tick (ts ++ t ∷ []) =
      record {
        tick_within = f.tick_within;
        some = omega arith;
        few = omega arith;
        tasks = within_more ts t f.tasks s.begun.1;
      } in
      rw h.reached (
        longest_here text (at + p) (omega (arith, left)) (
          tick,
          ts ++ t ∷ [],
          formed,
          rw (seen p, sheet_more tick ts t) (begins_behind (sheet_text tick ts) (take p (drop at text)) s.begun.2),
        )
            (λ l g.
            let r = beyond (suc p) g.0 g.1 g.3.0 g.2 (rw add-suc g.3.1) in
            let m : p < length (drop at text) = omega (arith, left) in
            some_lines r.rest (take (suc p) (drop at text) ++ g.3.0) r.within r.text
            (simp length-append (omega (arith, length-take-le (suc p) (drop at text) m)))
            (λ t us ht e. s.no_more m t ht (task_lines us) (g.3.0, e))),
        λ tock us g.
            let r = whole_rest tock us g in
            by_le (length (drop at text)) 0
            (λ z.
            let none : length r.rest ≤ 0 = omega (arith, lines_length r.rest r.within, ap length r.text) in
            let o = g.formed.some in
            let l = more (omega (arith, simp length-append at (ap length r.joined))) in omega (arith, left))
            (λ z. some_lines r.rest (drop at text) r.within r.text z
            (λ t vs ht e. s.no_text t ht (task_lines vs) e)),
      )

  -- 32 task lines, and the text goes on
  pub front_full : length ts ≡ most_rows → at < length text → (sheet_form text).hits at
  front_full full more = (
    longest_here text at f.within (
      tick,
      ts,
      record { tick_within = f.tick_within; some = omega arith; few = f.few; tasks = f.tasks },
      ([], rw append-nil front),
    )
        (λ l g. over g.1 g.2.few (beyond 1 g.0 g.1 g.3.0 g.2 (rw add-one g.3.1))
        (simp length-append (omega (arith, left, length-take-le 1 (drop at text) (omega (arith, left)))))),
    λ tock us g. over us g.formed.few (whole_rest tock us g) (omega (arith, left)),
  )
    where
      over : (us : List Task) → length us ≤ most_rows → {x : List ℕ} → Rest ts us x → 1 ≤ length x → ⊥
      over us h r l =
          let m = lines_length r.rest r.within in
          omega (arith, simp length-append at (ap length r.joined), ap length r.text)

  -- the whole text
  pub front_whole : at ≡ length text → 1 ≤ length ts → Sheet text tick ts
  front_whole e some =
      record {
        formed = record { tick_within = f.tick_within; some = some; few = f.few; tasks = f.tasks };
        bytes = f.split ∙ rw (drop_of_length-le text {i = at} (omega arith), append-nil);
      }

-- the first line
pub front_none : (text : List ℕ) (tick next : ℕ) → Passed tick_piece text 0 tick next → Front text tick [] next
unfolding sheet_text task_lines
front_none text tick next p =
    record {
      tick_within = p.allowed;
      few = omega arith;
      tasks = tt;
      within = p.within;
      behind = rw append-nil (omega arith);
      split = rw append-nil p.split;
    }

-- a prefix that some sheet begins with is no longer than the longest sheet
pub shared_bound : (text : List ℕ) (m : ℕ) → m ≤ length text → Shared (take m text) → m ≤ longest_sheet
shared_bound text m w s =
    omega (
      arith,
      length-take-le m text w,
      simp length-append at (ap length s.3.1),
      sheet_length s.0 s.1 s.2,
    )

pub place_bound : (text : List ℕ) (place : ℕ) → (sheet_form text).hits place → place ≤ longest_sheet
place_bound text place h = shared_bound text place h.0.within h.0.shared
