-- Both tables give the extent up, which both have.
use Rattle.std.proofs.Common.{◌-◌, refl, arith}
use Rattle.space.proofs.Moves.{take_both}
use Rattle.space.proofs.Spaces.{held_in, lengths_ordered}
use Rattle.space.proofs.space.Space.take_out.Goals as goal

pub overflow_sub-self : goal.overflow_sub-self
overflow_sub-self c =
    let p = take_both _ _ c.args.run.start c.args.run.len _ _ _ _ (held_in c.args.self.now) c.requires (lengths_ordered c.args.self.now) _ _ c.remove.ensures c.remove-2.ensures in
    p.few

pub invariant_of-self : goal.invariant_of-self
invariant_of-self c =
    let p = take_both _ _ c.args.run.start c.args.run.len _ _ _ _ (held_in c.args.self.now) c.requires (lengths_ordered c.args.self.now) _ _ c.remove.ensures c.remove-2.ensures in
    let few = p.few in
    let held = p.held (c.args.self.now.free - c.args.run.len) (omega arith) in
    record { spaced = ∣ held.spaced ∣₁; twins = held.twins; level = held.level; counted = held.counted }

pub returns : goal.returns
returns c =
    let p = take_both _ _ c.args.run.start c.args.run.len _ _ _ _ (held_in c.args.self.now) c.requires (lengths_ordered c.args.self.now) _ _ c.remove.ensures c.remove-2.ensures in
    record { moved = record { sectors = p.sectors; size = refl }; fewer = p.fewer }
