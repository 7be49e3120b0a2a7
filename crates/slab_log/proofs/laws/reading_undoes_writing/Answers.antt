-- The law is a lemma.
use Rattle.slab_log.proofs.RoundTrip.{reading_undoes_writing}
use Rattle.slab_log.proofs.laws.reading_undoes_writing.Goals as goal

pub returns : goal.returns
returns c = reading_undoes_writing
