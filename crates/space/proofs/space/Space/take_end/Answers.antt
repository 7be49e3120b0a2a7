-- Nothing moves where the extent is empty.
use Rattle.std.proofs.Common.{refl, arith}
use Rattle.space.proofs.Emptied.{none_granted}
use Rattle.space.proofs.Spaces.{lies_in}
use Rattle.space.proofs.space.Space.take_end.Goals as goal

pub invariant_of-take_out : goal.invariant_of-take_out
invariant_of-take_out c =
    let now = c.args.self.now in
    let at = lies_in now _ _ (c.requires (omega (arith, c.if-len-gt0.true))) in
    record { some = at.some; sums = omega (arith, at.within, now.size.most) }

pub returns-else-len-gt0-clause-moved : goal.returns-else-len-gt0-clause-moved
returns-else-len-gt0-clause-moved c = record { sectors = none_granted _ c.args.start c.args.len c.if-len-gt0.false; size = refl }
