-- The law is a lemma.
use Rattle.slab_log.proofs.Logged.{return_replays}
use Rattle.slab_log.proofs.laws.return_replays.Goals as goal

pub returns : goal.returns
returns c = return_replays
