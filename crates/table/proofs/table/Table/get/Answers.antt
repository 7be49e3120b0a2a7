-- The first pair whose key does not come before a key has that key, unless the key comes before its own.
use Rattle.std.proofs.Common.{sym, ◌∙◌}
use Rattle.std.proofs.lemmas.Bool.{cond-true, cond-false}
use Rattle.table.proofs.Soundness.{known}
use Rattle.table.proofs.Pairs.{found_at}
use Rattle.table.proofs.table.Table.get.Goals as goal

pub returns-in_err-found : goal.returns-in_err-found
returns-in_err-found g c =
    let k = known _ _ _ c.args.self.now.sound in
    c.from_residual.ensures ∙ sym (found_at _ _ g.met.K.Key.ordered _ k.ordered _ _ c.lowest_from.ensures c.in_err-found.was)

pub returns-then-precedes : goal.returns-then-precedes
returns-then-precedes g c =
    let k = known _ _ _ c.args.self.now.sound in
    sym (found_at _ _ g.met.K.Key.ordered _ k.ordered _ _ c.lowest_from.ensures c.in_ok-found.was ∙ cond-true _ _ _ (sym c.precedes.ensures ∙ c.if-precedes.true))

pub returns-else-precedes : goal.returns-else-precedes
returns-else-precedes g c =
    let k = known _ _ _ c.args.self.now.sound in
    sym (found_at _ _ g.met.K.Key.ordered _ k.ordered _ _ c.lowest_from.ensures c.in_ok-found.was ∙ cond-false _ _ _ (sym c.precedes.ensures ∙ c.if-precedes.false))
