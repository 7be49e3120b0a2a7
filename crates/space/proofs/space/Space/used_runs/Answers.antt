-- The first run begins with the slab, or behind the free extent that does.
use Rattle.std.proofs.Common.{rules}
use Rattle.space.proofs.InUse.{first_run}
use Rattle.space.proofs.Spaces.{spaced_in}
use Rattle.space.proofs.space.Space.used_runs.Goals as goal

pub invariant_of-result : goal.invariant_of-result
invariant_of-result c =
    let first = first_run _ _ (spaced_in c.args.self.now) c.sides.result.from c.filter-first.result c.sides.ensures.from (search rules) c.map_or.result (search rules) in
    record { begins = first.here }

pub returns-clause-first : goal.returns-clause-first
returns-clause-first c =
    (first_run _ _ (spaced_in c.args.self.now) c.sides.result.from c.filter-first.result c.sides.ensures.from (search rules) c.map_or.result (search rules)).passes
