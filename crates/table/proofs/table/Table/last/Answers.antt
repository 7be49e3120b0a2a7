-- `last` answers the last pair.
use Rattle.std.proofs.Common.{ap, ◌∙◌}
use Rattle.table.specs.Sound.{entry_at}
use Rattle.table.proofs.Calls.{last_is}
use Rattle.table.proofs.table.Table.last.Goals as goal

pub returns : goal.returns
returns g c =
    let s = c.args.self.now.sound in
    c.entry_at.ensures ∙ ap (entry_at c.args.self.now.nodes) (c.right_end.ensures _ s.whole) ∙ last_is s
