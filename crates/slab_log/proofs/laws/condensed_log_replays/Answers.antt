-- The law is a lemma.
use Rattle.slab_log.proofs.Replays.{condensed_replays}
use Rattle.slab_log.proofs.laws.condensed_log_replays.Goals as goal

pub returns : goal.returns
returns c = condensed_replays
