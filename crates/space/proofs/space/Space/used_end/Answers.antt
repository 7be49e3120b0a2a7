-- The used sectors go on to the next free extent, or to the end of the slab.
use Rattle.std.proofs.Common.{rules}
use Rattle.space.proofs.InUse.{to_is}
use Rattle.space.proofs.Spaces.{spaced_in}
use Rattle.space.proofs.space.Space.used_end.Goals as goal

pub returns : goal.returns
returns c =
    to_is _ _ (spaced_in c.args.self.now) c.args.start c.requires.within c.requires.off c.sides.result.from c.sides.ensures.from c.map_or.result (search rules)
