-- `print_planned` meets its contract: 32-bit numbers have a text for which there is room.
use native.Mathlib.Omega.{arith}
use lib.ListN.{length}
use Rattle.printing.proofs.Most.{text_most}
use Rattle.program.proofs.Pages.{front_given}
use Rattle.program.proofs.print_planned.Goals as goal

pub returns : goal.returns
returns c =
    let s = c.args in
    let l = text_most s.planned.now (λ i. (c.type_inv.planned i).fits) c.requires.0 in
    let p = c.requires.1 in (
      front_given s.planned.now (length s.page.now) c.print.result.now c.requires.0 (omega arith) c.print.ensures.0,
      c.print.ensures.1,
    )
