-- The run is the extent's.
use Rattle.space.proofs.space.Space.grant.Goals as goal

pub returns : goal.returns
returns c = rw (← c.into.ensures.0, ← c.into.ensures.1) c.grant_run.ensures
