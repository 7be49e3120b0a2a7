-- The law is a lemma.
use Rattle.slab_log.proofs.Covered.{equal_condensed_equal_sectors}
use Rattle.slab_log.proofs.laws.equal_condensed_logs_have_equal_sectors.Goals as goal

pub returns : goal.returns
returns c = equal_condensed_equal_sectors
