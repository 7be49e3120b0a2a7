-- A stopped slab refuses, and a running one takes the extent back and stays sound.
use Rattle.std.proofs.Common.{refl}
use Rattle.disk_slab.specs.View.{running}
use Rattle.disk_slab.specs.Answers.{after_free}
use Rattle.disk_slab.specs.Answers.Frees.{stopped}
use Rattle.disk_slab.proofs.Views.{seen_stopped}
use Rattle.disk_slab.proofs.Loads.{sound_before, sized_after, replayed_after}
use Rattle.disk_slab.proofs.Kept.{free_keeps, free_size}
use Rattle.disk_slab.proofs.state.Live.free.Goals as goal

pub invariant_of-self : goal.invariant_of-self
invariant_of-self g c =
    let now = c.args.self.now in
    let space = c.in-Ok.space in
    let v = running g.S.LogStore space now.store in
    let e = c.args.extent in
    let r = c.give_back.result in
    let same = free_size v e r in
    record {
      sized = sized_after g.S.LogStore now.size now.space now.store space c.in-Ok.is now.sized c.give_back.new.space c.give_back.new.store (after_free v e r) c.give_back.ensures.leaves same;
      sound = replayed_after g.S.LogStore now.size now.space now.store space c.in-Ok.is now.sized c.give_back.new.space c.give_back.new.store (after_free v e r) c.give_back.ensures.leaves same
          (free_keeps v space.size.most e r c.give_back.ensures.answer (sound_before g.S.LogStore now.size now.space now.store space c.in-Ok.is now.sized now.sound));
    }

pub returns-in-Err-clause-answer : goal.returns-in-Err-clause-answer
returns-in-Err-clause-answer g c =
    let now = c.args.self.now in
    rw (seen_stopped g.S.LogStore now.size now.space now.store c.in-Err.stop c.in-Err.is) (stopped refl)
