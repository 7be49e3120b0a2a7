-- `beside` answers the pairs on the two sides of the place of a key.
use Rattle.std.proofs.Common.{◌∙◌}
use Rattle.table.proofs.Calls.{lowest_is, highest_is}
use Rattle.table.proofs.table.Table.beside.Goals as goal

pub returns : goal.returns
returns g c =
    let s = c.args.self.now.sound in
    let sides = c.around-sides.ensures _ s.whole in
    record { below = c.entry_at.ensures ∙ highest_is s _ _ _ sides; from = c.entry_at-2.ensures ∙ lowest_is s _ _ _ sides }
