-- `answer` meets its contract: the page of what was read is the page of the input.
use Rattle.std.proofs.Common.{rules, arith, length, take, length-take-le}
use Rattle.std.proofs.lemmas.Result.{on_ok_weaker}
use Rattle.program.proofs.Turns.{page_written, write_comes}
use Rattle.program.proofs.answer.Goals as goal

pub returns : goal.returns
returns g c =
    let n = c.in-Ok.n in
    let buf = c.read_input.new.buf in
    let within = c.in-Ok.ensures.within in
    let size = length-take-le n buf within in
    write_comes _ _ _ _ c.write_all.result c.map_err.result c.map_err.ensures.cases (λ e f h. search rules)
    (on_ok_weaker c.write_all.result
    (page_written _ _ _ _ (take n buf) (length buf) _ c.in-Ok.ensures.front.0 (omega arith)
    (λ h. c.in-Ok.ensures.front.1 (omega arith)) (let all = c.read_input.auto.buf in omega arith) c.reply.ensures.0)
    c.write_all.ensures.bytes)
