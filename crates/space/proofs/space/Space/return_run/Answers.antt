-- The tests are made in order, and what is left is the run made free together with the free extents beside it.
use Rattle.std.proofs.Common.{◌+◌, ◌<◌, Ok, sym, refl, ap, ◌∙◌, rules, arith}
use Rattle.slab_log.specs.Limits.{most_extents}
use Rattle.slab_log.specs.Sectors.{runs}
use Rattle.slab_log.specs.Replay.{give_back}
use Rattle.table.specs.Table.{pairs as starts}
use Rattle.space.specs.Free.{sectors_of, free_in}
use Rattle.space.specs.Tables.{Apart}
use Rattle.space.proofs.Joining.{joined_count}
use Rattle.space.proofs.Spaces.{spaced_in, runs_moved}
use Rattle.space.proofs.Meant.{returned, returned_crowded, full_alone}
use Rattle.space.proofs.space.Space.return_run.Goals as goal

pub returns-then-alone-len : goal.returns-then-alone-len
returns-then-alone-len c =
    let now = c.args.self.now in
    let run = c.args.run in
    let edges = c.in_ok-edges.edges in
    let fits = rw (c.end-end.ensures) at c.if-end-self.false in
    let apart : Apart (starts now.by_start) run.start run.len edges = search rules in
    let full = full_alone edges.first run.start edges.last (run.start + run.len) c.len.result (rw (c.end-end.ensures) at c.if-alone-len.true) in
    let more = joined_count _ _ (spaced_in now) run.start run.len _ _ run.some fits apart.unmet apart.left apart.right in
    let many : most_extents < runs (give_back (free_in now) run.start run.len) (sectors_of now) = omega (arith, more, full.0, full.1, full.2, c.len.ensures.counts) in
    (returned_crowded (sectors_of now) (free_in now) run.start run.len fits apart.unmet many, refl)

pub returns : goal.returns
returns c =
    let now = c.args.self.now in
    let run = c.args.run in
    let edges = c.in_ok-edges.edges in
    let fits = rw (c.end-end.ensures) at c.if-end-self.false in
    let apart : Apart (starts now.by_start) run.start run.len edges = search rules in
    let moved = c.grow.ensures in
    (returned (sectors_of now) (free_in now) run.start run.len fits apart.unmet (runs_moved now _ _ moved) ∙ ap Ok (sym moved.sectors), moved.size)
