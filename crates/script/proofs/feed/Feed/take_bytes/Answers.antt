-- Byte after byte.
use Rattle.std.proofs.Common.{arith}
use Rattle.std.proofs.lemmas.Result.{err_from_is_err_and}
use Rattle.script.proofs.Fed.{sofar_none, sofar_more, sofar_lacks, sofar_all}
use Rattle.script.proofs.feed.Feed.take_bytes.Goals as goal

pub loop-b-init : goal.loop-b-init
loop-b-init g c = λ line is. sofar_none _ line _ _ _ is

pub returns-in_err-take_byte : goal.returns-in_err-take_byte
returns-in_err-take_byte g c = λ line is.
    let p = err_from_is_err_and c.from_residual.result c.from_residual.ensures.1 in
    let so = c.loop-b.invariant line is in
    rw p.1 (sofar_lacks _ _ _ _ c.loop-b.b-index _ _ _ _ _ _ so (omega arith) (c.in_err-take_byte.ensures so.rest so.held))

pub loop-b-preserved : goal.loop-b-preserved
loop-b-preserved g c = λ line is.
    let so = c.loop-b.invariant line is in
    sofar_more _ _ _ _ c.loop-b.b-index _ _ _ _ _ _ so (omega arith) (c.in_ok-take_byte.ensures so.rest so.held)

pub returns : goal.returns
returns g c = λ line is. sofar_all _ _ _ _ c.loop-b.b-index _ _ _ (omega arith) (c.loop-b.invariant line is)
