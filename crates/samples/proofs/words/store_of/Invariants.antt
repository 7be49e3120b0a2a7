-- How many words have been added.
use Rattle.std.proofs.Common.{◌≡◌, take}
use Rattle.samples.proofs.words.store_of.Given as goal

abbrev pub invariant-loop-word : goal.invariant-loop-word
invariant-loop-word l = l.store.words.items ≡ take l.word-index l.words
