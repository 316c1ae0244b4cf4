-- `print` meets its contract: the front as long as the value that `print_into` answers.
use mathlib.Core.Path.{◌≡◌, refl}
use Rattle.std.proofs.Common.{Ok, Err}
use Rattle.std.specs.Result.{result_unwrap_or}
use Rattle.tables.specs.Answer.{Answer, value_of}
use Rattle.printing.proofs.Answers.{front}
use Rattle.printing.proofs.print.Goals as goal

-- the value of an answer, 0 on a refusal
value : (a : Answer) → result_unwrap_or a 0 ≡ value_of a
value (Ok v) = refl
value (Err r) = refl

pub returns : goal.returns
returns c =
    let v = value c.print_into.result in
    (rw (c.unwrap_or-end.ensures, v) (front c.args.planned.now c.args.buf.now c.print_into.ensures), refl)
