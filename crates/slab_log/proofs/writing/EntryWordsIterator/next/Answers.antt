-- The word at the place reached is the first of those left.
use Rattle.std.proofs.Common.{sym, ◌∙◌, arith}
use Rattle.std.proofs.lemmas.Option.{slice_get_within}
use Rattle.slab_log.specs.Words.{words_of, left}
use Rattle.slab_log.proofs.Written.{words_length}
use Rattle.slab_log.proofs.Given.{drop_at, nearer}
use Rattle.slab_log.proofs.writing.EntryWordsIterator.next.Goals as goal

pub overflow_add-self : goal.overflow_add-self
overflow_add-self c =
    let it = c.args.self.now in
    let e = it.extent in
    omega (arith, slice_get_within (words_of it.effect e.start e.length) it.given c.in_ok-word.word (sym c.nth_word.ensures ∙ c.in_ok-word.was), words_length it.effect e.start e.length e.some, e.ends)

pub returns-clause-steps : goal.returns-clause-steps
returns-clause-steps c =
    let it = c.args.self.now in
    drop_at (words_of it.effect it.extent.start it.extent.length) it.given c.in_ok-word.word (sym c.nth_word.ensures ∙ c.in_ok-word.was)

pub returns-clause-goes : goal.returns-clause-goes
returns-clause-goes c =
    let it = c.args.self.now in
    nearer _ left it _ c.in_ok-word.word (drop_at (words_of it.effect it.extent.start it.extent.length) it.given c.in_ok-word.word (sym c.nth_word.ensures ∙ c.in_ok-word.was)) tt
