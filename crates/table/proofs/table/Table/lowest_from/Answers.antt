-- `lowest_from` answers the first of the pairs whose keys do not come before a key.
use Rattle.std.proofs.Common.{◌∙◌}
use Rattle.table.proofs.Calls.{lowest_is}
use Rattle.table.proofs.table.Table.lowest_from.Goals as goal

pub returns : goal.returns
returns g c =
    let s = c.args.self.now.sound in
    c.entry_at.ensures ∙ lowest_is s _ _ _ (c.around.ensures _ s.whole)
