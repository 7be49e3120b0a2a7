-- The tests are made in order, and what is left is the run granted out of its free extent.
use Rattle.std.proofs.Common.{◌<◌, Some, Ok, sym, refl, ap, ◌∙◌, rules, arith}
use Rattle.std.proofs.lemmas.Bool.{and_parts, ltb-true, leb-true}
use Rattle.slab_log.specs.Limits.{most_extents}
use Rattle.slab_log.specs.Sectors.{runs}
use Rattle.slab_log.specs.Replay.{grant}
use Rattle.space.specs.Free.{sectors_of, free_in}
use Rattle.space.specs.Tables.{Holds}
use Rattle.space.proofs.Spaces.{spaced_in, runs_moved}
use Rattle.space.proofs.Cutting.{all_free, both_ends}
use Rattle.space.proofs.Meant.{granted, granted_crowded}
use Rattle.space.proofs.space.Space.grant_run.Goals as goal

pub returns-then-inside-len : goal.returns-then-inside-len
returns-then-inside-len c =
    let now = c.args.self.now in
    let held : Holds now c.args.run.start c.args.run.len (Some c.in_ok-holder.holder) = search rules in
    let full = and_parts _ _ (rw (c.end-2.ensures, c.end-3.ensures) at c.if-inside-len.true) in
    let ends = and_parts _ _ full.0 in
    let more =
    both_ends _ _ (spaced_in now) _ _ held.0 c.args.run.start c.args.run.len c.args.run.some held.1 held.2 (ltb-true _ _ ends.0) (ltb-true _ _ ends.1) in
    let free = all_free _ _ (spaced_in now) _ _ held.0 c.args.run.start c.args.run.len c.args.run.some held.1 held.2 in
    let many : most_extents < runs (grant (free_in now) c.args.run.start c.args.run.len) (sectors_of now) =
    omega (arith, more, leb-true _ _ full.1, c.len.ensures.counts) in
    (granted_crowded (sectors_of now) (free_in now) c.args.run.start c.args.run.len (rw (c.end.ensures) at c.if-end-self.false) free many, refl)

pub returns : goal.returns
returns c =
    let now = c.args.self.now in
    let held : Holds now c.args.run.start c.args.run.len (Some c.in_ok-holder.holder) = search rules in
    let moved = c.cut.ensures in
    let free = all_free _ _ (spaced_in now) _ _ held.0 c.args.run.start c.args.run.len c.args.run.some held.1 held.2 in
    (granted (sectors_of now) (free_in now) c.args.run.start c.args.run.len (rw (c.end.ensures) at c.if-end-self.false) free (runs_moved now _ _ moved) ∙ ap Ok (sym moved.sectors), moved.size)
