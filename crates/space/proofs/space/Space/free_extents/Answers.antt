-- Each free extent is a pair of the table of starts.
use Rattle.std.proofs.Common.{sym, ◌∙◌}
use Rattle.space.proofs.Spaces.{runs_in}
use Rattle.space.proofs.space.Space.free_extents.Goals as goal

pub returns : goal.returns
returns c = c.len.ensures.counts ∙ sym (runs_in c.args.self.now)
