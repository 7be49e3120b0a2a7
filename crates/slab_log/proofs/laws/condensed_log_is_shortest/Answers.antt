-- The law is a lemma.
use Rattle.slab_log.proofs.Shortest.{condensed_is_shortest}
use Rattle.slab_log.proofs.laws.condensed_log_is_shortest.Goals as goal

pub returns : goal.returns
returns c = condensed_is_shortest
