-- `read_tasks` meets its contract. The loop's invariant: n tasks have been read and their rows stand at the front of
-- the table, and behind one of them the text goes on.
use Prim.Native.Nat.{ℕ, ◌≤◌, ◌<◌, ◌+◌, ◌*◌, ◌-◌}
use mathlib.Core.Path.{◌≡◌, refl, ◌∙◌}
use mathlib.Core.List.{List, [], ◌∷◌, ◌++◌}
use native.Mathlib.Omega.{arith}
use lib.ListN.{length-append, length}
use borrow.Rule.Slice.PartMut.{put_mid}
use Rattle.counting.proofs.Cases.{by_le}
use Rattle.tables.specs.Table.{row_width, most_rows}
use Rattle.reading.specs.inside.Piece.{Passed}
use Rattle.sheet.specs.Sheet.{Task, row_of, ticks_of}
use Rattle.sheet.specs.inside.Read.{task_piece, Filled, ReadsTasks}
use Rattle.sheet.proofs.Fronts.{front_more, front_stuck, front_full}
use Rattle.sheet.proofs.Reading.{hands_on}
use Rattle.sheet.proofs.Ticks.{row_more}
use Rattle.sheet.proofs.read_tasks.Goals as goal
use Rattle.sheet.proofs.read_tasks.Goals.{After-put_ticks}

-- a task line was there, and its row stands behind the others
more : (text : List ℕ) (tick : ℕ) (before : List ℕ) (at n : ℕ) (table : List ℕ) (f : Filled text tick before at n table)
    (task : Task) (next : ℕ) (row : List ℕ) → n < most_rows → Passed task_piece text at task next →
    row ≡ row_of tick task →
    Filled text tick before next (n + 1)
    (put_mid (row_width * n) (row_width * n + row_width - row_width * n) table row)
more text tick before at n table f task next row few line e =
    record {
      tasks = f.tasks ++ task ∷ [];
      front = front_more text tick f.tasks at f.front task next (omega (arith, f.many)) line;
      many = simp length-append (omega (arith, f.many));
      rows = row_more tick n f.tasks task before table row f.many f.rows e;
    }

pub loop-n-init : goal.loop-n-init
unfolding ticks_of
loop-n-init c = (
  refl,
  (λ h. absurd (omega arith)),
  record { tasks = []; front = c.requires.0; many = refl; rows = refl },
)

pub returns-in_err-times : goal.returns-in_err-times
returns-in_err-times c =
    let text = c.args.cursor.now.text.now in
    let l = c.loop-n in
    let f = l.invariant.2 in
    let few : length f.tasks < most_rows = omega (arith, f.many) in
    hands_on (ReadsTasks text c.args.tick c.args.table.now l.table) c.from_residual.ensures
    (front_stuck text _ f.tasks l.cursor.at f.front _ few (λ h. l.invariant.1 (omega (arith, f.many)))
    (rw l.invariant.0 at c.in_err-times.ensures))

-- the line at hand, and its row
line_more : (c : After-put_ticks) →
    let a = c.args in
    let l = c.loop-n in
    Filled a.cursor.now.text.now a.tick a.table.now c.read_task.new.cursor.at (l.n + 1)
    (put_mid (row_width * l.n) (row_width * l.n + row_width - row_width * l.n) l.table c.put_ticks.new.row)
line_more c =
    let a = c.args in
    let l = c.loop-n in
    more a.cursor.now.text.now a.tick a.table.now l.cursor.at l.n l.table l.invariant.2 _ c.read_task.new.cursor.at
    c.put_ticks.new.row c.loop-n-test.true (rw l.invariant.0 at c.in_ok-times.ensures.passed) c.put_ticks.ensures

-- the text is the same
same_text : (c : After-put_ticks) → c.read_task.new.cursor.text ≡ c.args.cursor.now.text
same_text c = c.in_ok-times.ensures.text ∙ c.loop-n.invariant.0

pub returns-then-cursor : goal.returns-then-cursor
returns-then-cursor c =
    let k = (goal.at.returns-then-cursor c).After-put_ticks in
    let end = rw (same_text k) at c.if-cursor.true in
    (omega arith, rw end at (line_more k))

pub loop-n-preserved : goal.loop-n-preserved
loop-n-preserved c =
    let k = (goal.at.loop-n-preserved c).After-put_ticks in
    let text = c.args.cursor.now.text.now in
    let within : c.read_task.new.cursor.at ≤ length text = rw (same_text k) at c.read_task.new.cursor.within in
    let on = rw (same_text k) at c.if-cursor.false in (
      same_text k,
      (λ _. by_le (length text) c.read_task.new.cursor.at (λ g. absurd (on (omega arith))) (λ g. g)),
      line_more k,
    )

pub returns : goal.returns
returns c =
    let l = c.loop-n in
    let f = l.invariant.2 in
    front_full _ _ f.tasks l.cursor.at f.front (omega (arith, f.many)) (l.invariant.1 (omega arith))
