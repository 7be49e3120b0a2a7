-- Each run of used sectors has as many words as entries.
use Rattle.std.proofs.Common.{◌+◌, [], length, refl, Some, None, sym, ap, ◌∙◌, arith}
use Rattle.slab_log.specs.Sectors.{used}
use Rattle.space.specs.Free.{sectors_of, free_in, Follows}
use Rattle.space.specs.Tables.{Passes}
use Rattle.space.proofs.Walked.{walk_starts, walk_ends, number_on, number_past}
use Rattle.space.proofs.space.Space.condensed_len.Goals as goal

pub loop-extent-init : goal.loop-extent-init
loop-extent-init c =
    let now = c.args.self.now in
    let runs = c.into_iter-extent-iterator.result in
    let first : Passes (sectors_of now) (free_in now) 0 runs.at = rw (c.into_iter-extent-iterator.ensures.into_iter_gives) (c.used_runs-extent-items.ensures.first) in
    record {
      same = cc (c.into_iter-extent-iterator.ensures.into_iter_gives, c.used_runs-extent-items.ensures.space);
      few = omega arith;
      within = first.high;
      counted = λ log w. number_past _ _ log _ _ _ first (record { done = []; walked = walk_starts (sectors_of now) (free_in now) log w; count = refl });
    }

pub loop-extent-preserved : goal.loop-extent-preserved
loop-extent-preserved c =
    let now = c.args.self.now in
    let set = used (sectors_of now) (free_in now) in
    let at = c.loop-extent.extent-iterator.at in
    let e = c.in-Some.extent in
    let inv = c.loop-extent.invariant in
    let step = c.in-Some.ensures.steps in
    let f : Follows set at (Some e) = rw (← inv.same) step.follows in
    let passes : Passes (sectors_of now) (free_in now) (e.start + e.length) c.next.new.self.at = rw (← inv.same) step.goes in
    record {
      same = step.same ∙ inv.same;
      few = omega (arith, passes.low, inv.few, f.1, e.some, c.entries-words.ensures);
      within = passes.high;
      counted = λ log w. rw (c.entries-words.ensures) (number_past _ _ log _ _ _ passes (number_on set log at c.loop-extent.words e (inv.counted log w) f));
    }

pub returns : goal.returns
returns c log w =
    let now = c.args.self.now in
    let set = used (sectors_of now) (free_in now) in
    let at = c.loop-extent.extent-iterator.at in
    let inv = c.loop-extent.invariant in
    let f : Follows set at None = rw (← inv.same) c.in-None.ensures.steps.follows in
    let n = inv.counted log w in
    n.count ∙ ap length (sym (walk_ends set log at n.done n.walked f))
