-- The sector 0 begins a run, or the run begins behind a free extent that reaches the sector or follows it.
use Rattle.std.proofs.Common.{rules, arith}
use Rattle.table.specs.Table.{pairs as starts}
use Rattle.space.specs.Tables.{RightEdge}
use Rattle.space.proofs.Edges.{right_is}
use Rattle.space.proofs.InUse.{at_zero, free_to_is}
use Rattle.space.proofs.Spaces.{spaced_in}
use Rattle.space.proofs.space.Space.free_end.Goals as goal

pub returns-then-sector-eq0 : goal.returns-then-sector-eq0
returns-then-sector-eq0 c =
    let now = c.args.self.now in
    let sides = c.sides-below.result in
    let from = rw (c.if-sector-eq0.true) at c.sides-below.ensures.from in
    let edge : RightEdge (starts now.by_start) 0 c.map_or.result = right_is _ _ (spaced_in now) 0 sides.from c.filter-first.result from (search rules) c.map_or.result (search rules) in
    rw (c.if-sector-eq0.true) (at_zero _ _ (spaced_in now) c.map_or.result edge)

pub returns : goal.returns
returns c =
    let sides = c.sides-below.result in
    free_to_is _ _ (spaced_in c.args.self.now) c.args.sector (omega (arith, c.if-sector-eq0.false)) sides.below c.filter.result sides.from c.or.result c.map.result
    c.sides-below.ensures.below c.sides-below.ensures.from (search rules) (search rules) (search rules)
