-- The last free extent that begins at or before the run holds it, or none does.
use Rattle.std.proofs.Common.{rules}
use Rattle.space.proofs.Cutting.{holds_is}
use Rattle.space.proofs.Spaces.{spaced_in}
use Rattle.space.proofs.space.Space.holder.Goals as goal

pub returns : goal.returns
returns c =
    let run = c.args.run in
    let held = holds_is _ _ (spaced_in c.args.self.now) run.start run.len run.some c.requires c.sides.result.below c.filter.result c.sides.ensures.below (search rules) in
    search rules
