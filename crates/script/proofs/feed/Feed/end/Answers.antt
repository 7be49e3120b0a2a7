-- What is kept is the last line, if there is one.
use Rattle.std.proofs.Common.{refl, rules}
use Rattle.script.specs.Feeds.{Last}
use Rattle.script.proofs.Fed.{kept_none, kept_some, answers_line, last_answered}
use Rattle.script.proofs.feed.Feed.end.Goals as goal

pub returns-then-is_empty : goal.returns-then-is_empty
returns-then-is_empty g c = λ line is. Last.no_line (kept_none _ line is (search rules)) refl refl

pub returns : goal.returns
returns g c = λ line is.
    last_answered c.add_reply.result (kept_some _ line is (search rules))
    (answers_line _ line is _ c.as_slice.ensures.value c.answer.ensures.answers) c.add_reply.ensures
