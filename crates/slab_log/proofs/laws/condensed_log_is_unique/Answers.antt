-- The law is a lemma.
use Rattle.slab_log.proofs.Unique.{condensed_is_unique}
use Rattle.slab_log.proofs.laws.condensed_log_is_unique.Goals as goal

pub returns : goal.returns
returns c = condensed_is_unique
