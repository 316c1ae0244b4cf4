-- `asks_of` meets its contract: the rows passed have stored theirs.
use Prim.Native.Nat.{◌<◌}
use native.Mathlib.Omega.{arith}
use mathlib.Core.Path.{refl, ap, ◌∙◌}
use lib.Seq.{get_or-take}
use Rattle.tables.specs.inside.Rows.{no}
use Rattle.sides.specs.inside.Inverse.{inverse_of}
use Rattle.sides.proofs.Asks.{stored_none, stored_more}
use Rattle.sides.proofs.asks_of.Goals as goal

pub loop-i-init : goal.loop-i-init
loop-i-init c = stored_none _ _ refl refl

pub loop-i-preserved : goal.loop-i-preserved
loop-i-preserved c =
    let tasks = c.args.tasks.now in
    let l : c.loop-i.i < tasks.n = omega arith in
    let own = get_or-take tasks.n tasks.rows c.loop-i.i no l in
    stored_more _ c.loop-i.invariant (omega arith) c.of.result (c.of.ensures.0 ∙ ap (λ row. row.c) own)
    (c.of.ensures.1 ∙ ap (λ row. inverse_of row.t) own)
