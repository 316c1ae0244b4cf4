-- `put_refused` meets its contract: word by word, each behind the one before.
use mathlib.Core.Path.{ap}
use native.Mathlib.Omega.{arith}
use borrow.Author.Rules.{rules}
use lib.ListN.{length, length-append}
use Rattle.decimal.specs.inside.Placed.{Room}
use Rattle.decimal.proofs.Placed.{room_front, room_behind, written_behind, written_first}
use Rattle.printing.specs.Printed.{refused_line}
use Rattle.printing.proofs.Printed.{ten_digits}
use Rattle.printing.proofs.put_refused.Goals as goal
use Rattle.printing.proofs.put_refused.Goals.{After-new-line}

room : (c : After-new-line) → Room c.new-line.result (refused_line c.args.number c.args.place)
unfolding refused_line
room c =
    let n = ten_digits c.args.number c.ranges.number.fits in
    let p = ten_digits c.args.place c.ranges.place.fits in
    record { fits = simp length-append (omega (arith, n, p, ap length c.new-line.ensures.whole)) }

pub field-requires : goal.field-requires
unfolding refused_line
field-requires c = room_front _ _ (room_front _ _ (room (goal.at.field-requires c).After-new-line))

pub field-requires-2 : goal.field-requires-2
unfolding refused_line
field-requires-2 c =
    room_behind _ (room_front _ _ (room (goal.at.field-requires-2 c).After-new-line)) c.field.ensures

pub word-requires : goal.word-requires
unfolding refused_line
word-requires c =
    let fits = room (goal.at.word-requires c).After-new-line in
    room_behind _ fits (written_behind _ (room_front _ _ fits) c.field.ensures c.field-2.ensures)

pub returns : goal.returns
unfolding refused_line
returns c =
    let fits = room (goal.at.returns c).After-new-line in
    let both = written_behind _ (room_front _ _ fits) c.field.ensures c.field-2.ensures in
    written_first (written_behind _ fits both c.word.ensures) c.new-line.ensures.whole c.new-line.ensures.first
    (search rules) c.at.ensures
