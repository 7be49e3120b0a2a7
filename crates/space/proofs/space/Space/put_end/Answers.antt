-- Nothing moves where the extent is empty.
use Rattle.std.proofs.Common.{refl}
use Rattle.space.proofs.Emptied.{none_given}
use Rattle.space.proofs.space.Space.put_end.Goals as goal

pub returns-else-len-gt0-clause-moved : goal.returns-else-len-gt0-clause-moved
returns-else-len-gt0-clause-moved c = record { sectors = none_given _ c.args.start c.args.len c.if-len-gt0.false; size = refl }
