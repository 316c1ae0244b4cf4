-- `read_tick` meets its contract: the word, and the number behind it.
use Rattle.decimal.specs.Word.{word}
use Rattle.reading.specs.inside.Piece.{word_piece}
use Rattle.reading.proofs.Pieces.{code_word, stuck_first, alike_stuck}
use Rattle.reading.proofs.Cursors.{past_both, past_stuck, past_alike}
use Rattle.sheet.specs.inside.Read.{ReadsTick}
use Rattle.sheet.proofs.Lines.{tick_number, tick_alike}
use Rattle.sheet.proofs.Reading.{some_tick, hands_on}
use Rattle.sheet.proofs.read_tick.Goals as goal

pub returns-in_err-word : goal.returns-in_err-word
returns-in_err-word c =
    hands_on (ReadsTick _ _) c.from_residual.ensures
    (alike_stuck tick_alike
    (stuck_first (word_piece (word "tick ")) (λ _. tick_number) c.in_err-word.ensures.stuck (λ _ _. some_tick)))

pub returns-in_err-tick : goal.returns-in_err-tick
returns-in_err-tick c =
    hands_on (ReadsTick _ _) c.from_residual-in_err-tick.ensures
    (alike_stuck tick_alike
    (past_stuck (λ _. tick_number) c.in_ok-word.ensures (code_word (word "tick ")) c.in_err-tick.ensures.stuck))

pub returns : goal.returns
returns c = past_alike tick_alike (past_both (λ _. tick_number) c.in_ok-word.ensures c.in_ok-tick.ensures)
