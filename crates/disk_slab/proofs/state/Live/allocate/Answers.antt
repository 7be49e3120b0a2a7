-- A stopped slab refuses, and a running one grants and stays sound.
use Rattle.std.proofs.Common.{refl}
use Rattle.disk_slab.specs.View.{running}
use Rattle.disk_slab.specs.Answers.{after_allocate}
use Rattle.disk_slab.specs.Answers.Allocates.{stopped}
use Rattle.disk_slab.proofs.Views.{seen_stopped}
use Rattle.disk_slab.proofs.Loads.{sound_before, sized_after, replayed_after}
use Rattle.disk_slab.proofs.Kept.{allocate_keeps, allocate_size}
use Rattle.disk_slab.proofs.state.Live.allocate.Goals as goal

pub invariant_of-self : goal.invariant_of-self
invariant_of-self g c =
    let now = c.args.self.now in
    let space = c.in-Ok.space in
    let v = running g.S.LogStore space now.store in
    let r = c.grant.result in
    let same = allocate_size v r in
    record {
      sized = sized_after g.S.LogStore now.size now.space now.store space c.in-Ok.is now.sized c.grant.new.space c.grant.new.store (after_allocate v r) c.grant.ensures.leaves same;
      sound = replayed_after g.S.LogStore now.size now.space now.store space c.in-Ok.is now.sized c.grant.new.space c.grant.new.store (after_allocate v r) c.grant.ensures.leaves same
          (allocate_keeps v space.size.most c.args.want r c.grant.ensures.answer (sound_before g.S.LogStore now.size now.space now.store space c.in-Ok.is now.sized now.sound));
    }

pub returns-in-Err-clause-answer : goal.returns-in-Err-clause-answer
returns-in-Err-clause-answer g c =
    let now = c.args.self.now in
    rw (seen_stopped g.S.LogStore now.size now.space now.store c.in-Err.stop c.in-Err.is) (stopped refl)
