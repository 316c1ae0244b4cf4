-- `read_task` meets its contract: the word, and the numbers behind it.
use Prim.Native.Nat.{ℕ}
use mathlib.Core.Path.{subst}
use Rattle.decimal.specs.Word.{word}
use Rattle.std.proofs.Common.{Result, Ok, Err}
use Rattle.reading.specs.inside.Piece.{word_piece}
use Rattle.reading.specs.inside.Read.{Past}
use Rattle.reading.specs.declared.Cursor.{Cursor}
use Rattle.reading.proofs.Pieces.{code_word, stuck_first, alike_stuck}
use Rattle.reading.proofs.Cursors.{past_both, past_stuck, past_alike}
use Rattle.sheet.specs.Sheet.{Task}
use Rattle.sheet.specs.inside.Read.{task_piece, times_piece, ReadsTask, ReadsTimes}
use Rattle.sheet.specs.declared.Times.{Times}
use Rattle.sheet.proofs.Lines.{task_alike}
use Rattle.sheet.proofs.Reading.{some_times, hands_on}
use Rattle.sheet.proofs.read_task.Goals as goal

-- the word read, and what is read behind it
reads : {c d : Cursor} (e : Cursor) (r : Result Times ℕ) → Past (word_piece (word "task ")) c d tt → ReadsTimes d e r →
    ReadsTask c e r
reads {c} {d} e (Ok t) p h =
    subst (λ (u : Task). Past task_piece c e u) h.1 (past_alike task_alike (past_both (λ _. times_piece) p h.2))
reads e (Err place) p h = alike_stuck task_alike (past_stuck (λ _. times_piece) p (code_word (word "task ")) h)

pub returns-in_err-word : goal.returns-in_err-word
returns-in_err-word c =
    hands_on (ReadsTask _ _) c.from_residual.ensures
    (alike_stuck task_alike
    (stuck_first (word_piece (word "task ")) (λ _. times_piece) c.in_err-word.ensures.stuck (λ _ _. some_times)))

pub returns : goal.returns
returns c = reads c.read_times.new.cursor c.read_times.result c.in_ok-word.ensures c.read_times.ensures
