-- `highest_before` answers the last of the pairs whose keys come before a key.
use Rattle.std.proofs.Common.{◌∙◌}
use Rattle.table.proofs.Calls.{highest_is}
use Rattle.table.proofs.table.Table.highest_before.Goals as goal

pub returns : goal.returns
returns g c =
    let s = c.args.self.now.sound in
    c.entry_at.ensures ∙ highest_is s _ _ _ (c.around.ensures _ s.whole)
