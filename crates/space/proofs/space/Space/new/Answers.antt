-- Both tables take the one extent of the whole slab.
use Rattle.std.proofs.Common.{refl}
use Rattle.space.proofs.Moves.{first_extent}
use Rattle.space.proofs.space.Space.new.Goals as goal

pub invariant_of-result : goal.invariant_of-result
invariant_of-result c =
    let p = first_extent c.args.size.sectors _ _ _ _ _ _ c.args.size.some c.new-by_start.ensures c.new-by_length.ensures c.insert.ensures c.insert-2.ensures in
    record { spaced = ∣ p.held.spaced ∣₁; twins = p.held.twins; level = p.held.level; counted = p.held.counted }

pub returns : goal.returns
returns c =
    let p = first_extent c.args.size.sectors _ _ _ _ _ _ c.args.size.some c.new-by_start.ensures c.new-by_length.ensures c.insert.ensures c.insert-2.ensures in
    record { sectors = p.sectors; size = refl }
