-- The law is a lemma.
use Rattle.slab_log.proofs.Logged.{grant_replays}
use Rattle.slab_log.proofs.laws.grant_replays.Goals as goal

pub returns : goal.returns
returns c = grant_replays
