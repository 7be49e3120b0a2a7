-- The free extents on the two sides of the run's start say what lies around it.
use Rattle.std.proofs.Common.{◌+◌, sym, ◌∙◌, rules}
use Rattle.space.proofs.Edges.{left_is, right_is}
use Rattle.space.proofs.Joining.{met_is, behind_is}
use Rattle.space.proofs.Spaces.{spaced_in}
use Rattle.space.proofs.space.Space.edges.Goals as goal

pub returns-then-met : goal.returns-then-met
returns-then-met c =
    let run = c.args.run in
    let sides = c.sides-below.result in
    let is =
    met_is _ _ (spaced_in c.args.self.now) run.start run.len run.some sides.below sides.from c.sides-below.ensures.below c.sides-below.ensures.from c.is_some_and.result
    c.is_some_and-2.result (search rules) (search rules) in
    sym is ∙ c.if-met.true

pub returns : goal.returns
returns c =
    let run = c.args.run in
    let h = spaced_in c.args.self.now in
    let sides = c.sides-below.result in
    let before = c.sides-below.ensures.below in
    let from = c.sides-below.ensures.from in
    let is =
    met_is _ _ h run.start run.len run.some sides.below sides.from before from c.is_some_and.result c.is_some_and-2.result (search rules) (search rules) in
    let unmet = sym is ∙ c.if-met.false in
    let behind =
    behind_is _ _ h run.start run.len run.some sides.below sides.from before from c.is_some_and.result c.is_some_and-2.result (search rules) (search rules) unmet in
    record {
      unmet = unmet;
      left = left_is _ _ h run.start sides.below c.filter.result before (search rules) c.map_or.result (search rules);
      right = right_is _ _ h (run.start + run.len) sides.from c.filter-2.result behind (search rules) c.map_or-2.result (search rules);
    }
