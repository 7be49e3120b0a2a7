-- The number is kept beside the tables.
use Rattle.std.proofs.Common.{sym, ◌∙◌}
use Rattle.space.proofs.Counted.{count_free}
use Rattle.space.proofs.Spaces.{spaced_in}
use Rattle.space.proofs.space.Space.free_sectors.Goals as goal

pub returns : goal.returns
returns c =
    let now = c.args.self.now in
    now.counted ∙ sym (count_free 0 _ _ (spaced_in now))
