-- `write` meets its contract: a turn of the loop puts one planned row into its own part.
use Prim.Native.Nat.{◌+◌, ◌*◌, ◌-◌}
use mathlib.Core.Path.{◌≡◌, refl, ◌∙◌}
use native.Mathlib.Omega.{arith}
use borrow.Rule.Slice.PartMut.{same_len_mid}
use Rattle.tables.specs.Planned.{planned_width}
use Rattle.planned.proofs.Written.{planned_none, planned_more}
use Rattle.planned.proofs.write.Goals as goal

pub loop-i-init : goal.loop-i-init
loop-i-init c =
    let a = c.args in
    (refl, rw (planned_none a.plan a.times))

pub loop-i-preserved : goal.loop-i-preserved
loop-i-preserved c =
    let l = c.loop-i in
    let a = c.args in
    let p = c.put_row in (
      same_len_mid (planned_width * l.i) (planned_width * l.i + planned_width - planned_width * l.i) l.out
          p.new.out p.auto.out ∙ l.invariant.0,
      rw (l.invariant.1, p.ensures) (planned_more a.plan a.times a.out.now l.i),
    )

pub returns : goal.returns
returns c =
    let e : c.loop-i.i ≡ c.args.n = omega arith in
    rw e at c.loop-i.invariant.1
