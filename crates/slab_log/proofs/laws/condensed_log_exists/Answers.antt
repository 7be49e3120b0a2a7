-- The law is a lemma.
use Rattle.slab_log.proofs.Unique.{condensed_exists}
use Rattle.slab_log.proofs.laws.condensed_log_exists.Goals as goal

pub returns : goal.returns
returns c = condensed_exists
