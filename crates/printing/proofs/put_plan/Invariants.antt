-- `put_plan` meets its contract. The loop's invariant: the lines of the rows passed stand behind the first line.
use Rattle.decimal.specs.inside.Placed.{Writes}
use Rattle.printing.specs.Printed.{row_lines}
use Rattle.printing.proofs.put_plan.Given as goal

abbrev pub invariant-loop-i : goal.invariant-loop-i
invariant-loop-i l = Writes l.initial.text (row_lines l.planned.numbers.now l.i) l.text
