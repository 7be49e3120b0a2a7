-- Both tables take the extent, which neither has.
use Rattle.std.proofs.Common.{refl, arith}
use Rattle.space.proofs.Spaced.{total_most}
use Rattle.space.proofs.Moves.{put_both}
use Rattle.space.proofs.Spaces.{held_in, spaced_in}
use Rattle.space.proofs.space.Space.put_in.Goals as goal

pub overflow_add-self : goal.overflow_add-self
overflow_add-self c =
    let now = c.args.self.now in
    omega (arith, total_most 0 now.size.sectors _ (spaced_in now), now.counted, c.requires.within, now.size.most)

pub invariant_of-self : goal.invariant_of-self
invariant_of-self c =
    let p = put_both _ _ c.args.run.start c.args.run.len _ _ _ _ (held_in c.args.self.now) c.args.run.some c.requires.within c.requires.clear c.requires.few _ _ c.insert.ensures c.insert-2.ensures in
    record { spaced = ∣ p.held.spaced ∣₁; twins = p.held.twins; level = p.held.level; counted = p.held.counted }

pub returns : goal.returns
returns c =
    let p = put_both _ _ c.args.run.start c.args.run.len _ _ _ _ (held_in c.args.self.now) c.args.run.some c.requires.within c.requires.clear c.requires.few _ _ c.insert.ensures c.insert-2.ensures in
    record { moved = record { sectors = p.sectors; size = refl }; more = p.more }
