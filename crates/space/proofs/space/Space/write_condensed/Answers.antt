-- The places are counted first, so that each run's words find theirs.
use Rattle.std.proofs.Common.{◌+◌, [], ◌++◌, Some, None, sym, refl, ap, ◌∙◌, append-nil, arith}
use Rattle.std.proofs.lemmas.Result.{err_from_is_err_and}
use Rattle.slab_log.specs.Sectors.{used}
use Rattle.slab_log.proofs.Unique.{condensed_exists}
use Rattle.store.proofs.Appended.{all_added}
use Rattle.space.specs.Free.{sectors_of, free_in, Follows}
use Rattle.space.specs.Tables.{Passes}
use Rattle.space.proofs.Walked.{walk_starts, walk_ends, walk_past, write_fits, write_on, write_past}
use Rattle.space.proofs.space.Space.write_condensed.Goals as goal

pub returns-in_err-room_for-clause-writes : goal.returns-in_err-room_for-clause-writes
returns-in_err-room_for-clause-writes g c =
    let now = c.args.self.now in
    let all = condensed_exists (sectors_of now) (free_in now) in
    let same = c.condensed_len-needed.ensures all.0 all.1 in
    let p = err_from_is_err_and c.from_residual.result c.from_residual.ensures.1 in
    let lacks = c.in_err-room_for.ensures in
    rw (p.1) (all.0, all.1, omega (arith, same, lacks.0), cc (p.2, lacks.1, same), refl)

pub loop-extent-init : goal.loop-extent-init
loop-extent-init g c =
    let now = c.args.self.now in
    let all = condensed_exists (sectors_of now) (free_in now) in
    let same = c.condensed_len-needed.ensures all.0 all.1 in
    let runs = c.into_iter-extent-iterator.result in
    let first : Passes (sectors_of now) (free_in now) 0 runs.at = rw (c.into_iter-extent-iterator.ensures.into_iter_gives) (c.used_runs-extent-items.ensures.first) in
    record {
      same = cc (c.used_runs-extent-items.ensures.space);
      writing = record {
        log = all.0;
        condensed = all.1;
        count = same;
        fits = omega (arith, same, c.in_ok-room_for.ensures);
        within = first.high;
        done = [];
        walked = walk_past _ _ _ _ _ _ first (walk_starts (sectors_of now) (free_in now) all.0 all.1);
        words = sym (append-nil _);
        kept = refl;
      };
    }

pub unwrap-requires : goal.unwrap-requires
unwrap-requires g c =
    let now = c.args.self.now in
    let inv = c.loop-extent.invariant in
    let f : Follows (used (sectors_of now) (free_in now)) c.loop-extent.extent-iterator.at (Some c.in-Some.extent) = rw (← inv.same) c.in-Some.ensures.steps.follows in
    let room = write_fits _ _ _ _ _ _ _ _ inv.writing c.in-Some.extent f in
    all_added _ _ _ _ c.add_extent.result room c.add_extent.ensures.adds

pub loop-extent-preserved : goal.loop-extent-preserved
loop-extent-preserved g c =
    let now = c.args.self.now in
    let inv = c.loop-extent.invariant in
    let step = c.in-Some.ensures.steps in
    let f : Follows (used (sectors_of now) (free_in now)) c.loop-extent.extent-iterator.at (Some c.in-Some.extent) = rw (← inv.same) step.follows in
    let e = c.in-Some.extent in
    let passes : Passes (sectors_of now) (free_in now) (e.start + e.length) c.next.new.self.at = rw (← inv.same) step.goes in
    let added = rw (c.unwrap.ensures) at c.add_extent.ensures.adds in
    record {
      same = step.same ∙ inv.same;
      writing = write_past _ _ _ _ _ _ _ _ _ passes (write_on _ _ _ _ _ _ _ _ inv.writing c.in-Some.extent f _ _ c.add_extent.ensures.kept added.1);
    }

pub returns : goal.returns
returns g c =
    let now = c.args.self.now in
    let set = used (sectors_of now) (free_in now) in
    let at = c.loop-extent.extent-iterator.at in
    let inv = c.loop-extent.invariant in
    let f : Follows set at None = rw (← inv.same) c.in-None.ensures.steps.follows in
    let w = inv.writing in
    let all = walk_ends set w.log at w.done w.walked f in
    record {
      kept = w.kept;
      writes = (w.log, w.condensed, w.count, omega (arith, w.count, w.fits), w.words ∙ ap (λ l. g.S.LogStore.words c.args.out.now ++ l) (sym all));
    }
