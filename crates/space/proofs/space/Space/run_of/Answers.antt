-- A free extent has a sector and ends within the slab.
use Rattle.std.proofs.Common.{arith}
use Rattle.space.proofs.Spaces.{lies_in}
use Rattle.space.proofs.space.Space.run_of.Goals as goal

pub invariant_of-result : goal.invariant_of-result
invariant_of-result c =
    let now = c.args.self.now in
    let at = lies_in now _ _ (rw (c.in_ok-pair.was) at c.requires) in
    record { some = at.some; sums = omega (arith, at.within, now.size.most) }
