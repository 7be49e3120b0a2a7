-- The last key of the table of lengths is the longest.
use Rattle.std.proofs.Common.{rules}
use Rattle.space.proofs.Asked.{longest_is}
use Rattle.space.proofs.space.Space.longest.Goals as goal

pub returns : goal.returns
returns c = longest_is c.args.self.now c.last.result c.last.ensures c.map_or.result (search rules)
