-- A line feed ends the line, and any other byte is kept where there is room.
use Rattle.std.proofs.Common.{refl, rules}
use Rattle.std.proofs.lemmas.Result.{err_from_is_err_and}
use Rattle.script.specs.Feeds.{Taken}
use Rattle.script.proofs.Fed.{kept_pushed, answers_line}
use Rattle.script.proofs.feed.Feed.take_byte.Goals as goal

pub returns-in_err-add_reply : goal.returns-in_err-add_reply
returns-in_err-add_reply g c = λ line is.
    let p = err_from_is_err_and c.from_residual.result c.from_residual.ensures.1 in
    rw p.1 (Taken.lacks c.if-b-eq10.true (answers_line _ line is _ c.as_slice.ensures.value c.answer.ensures.answers) is c.in_err-add_reply.ensures)

pub returns-in_ok-add_reply : goal.returns-in_ok-add_reply
returns-in_ok-add_reply g c = λ line is.
    Taken.ends c.if-b-eq10.true (answers_line _ line is _ c.as_slice.ensures.value c.answer.ensures.answers) (search rules) c.in_ok-add_reply.ensures

pub returns-else-b-eq10 : goal.returns-else-b-eq10
returns-else-b-eq10 g c = λ line is.
    let e = c.try_push.ensures in
    Taken.goes_on c.if-b-eq10.false refl (kept_pushed _ line is c.args.b _ _ c.try_push.result refl e.variant.0 e.ok e.err e.full) refl
