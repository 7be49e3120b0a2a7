-- How many words have been added.
use Rattle.std.proofs.Common.{◌≡◌}
use Rattle.samples.specs.Teeth.{comb}
use Rattle.samples.proofs.combs.comb_of.Given as goal

abbrev pub invariant-loop-tooth : goal.invariant-loop-tooth
invariant-loop-tooth l = l.store.words.items ≡ comb l.tooth
