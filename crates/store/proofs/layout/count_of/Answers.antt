-- The count is that of the words.
use Rattle.std.proofs.Common.{rules}
use Rattle.store.proofs.Images.{count_met, words_unmet}
use Rattle.store.proofs.layout.count_of.Goals as goal

pub returns : goal.returns
returns c = search (rules, count_met, words_unmet)
