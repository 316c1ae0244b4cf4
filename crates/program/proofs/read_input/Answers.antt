-- What each turn read follows what was read before it.
use Rattle.std.proofs.Common.{rules, ◌-◌, length, subst}
use Rattle.std.specs.Io.KnownBytes.{Consumes}
use Rattle.std.proofs.KnownBytes.{Consumes-trans}
use Rattle.program.proofs.Turns.{read_front}
use Rattle.program.proofs.read_input.Goals as goal

pub loop-n-preserved : goal.loop-n-preserved
loop-n-preserved g c =
    let n = c.loop-n.n in
    let room = length c.loop-n.buf - n in
    let all = read_front n room c.in_ok-more.more c.loop-n.buf c.read.new.buf c.loop-n.invariant.0 c.in_ok-more.ensures.bound.0 in
    (search rules, subst (Consumes _ _) all (Consumes-trans _ _ _ _ _ c.loop-n.invariant.1 c.in_ok-more.ensures.bytes.0))
