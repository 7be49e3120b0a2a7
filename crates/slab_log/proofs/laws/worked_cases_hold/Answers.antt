-- The law is a lemma.
use Rattle.slab_log.proofs.Worked.{worked_cases_hold}
use Rattle.slab_log.proofs.laws.worked_cases_hold.Goals as goal

pub returns : goal.returns
returns c = worked_cases_hold
