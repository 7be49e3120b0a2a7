-- `replaceable` finds the node of the key beside the place of the new one, or there is none.
use Rattle.std.proofs.Common.{sym, ◌∙◌}
use Rattle.table.proofs.Replaceable.{found_behind, found_ahead}
use Rattle.table.proofs.tree.replace.replaceable.Goals as goal

pub returns-then-precedes : goal.returns-then-precedes
returns-then-precedes g c = λ t w.
    let sides = c.around-sides.result in
    rw (c.then_some.ensures) (found_behind g.K.Key.before g.met.K.Key.ordered c.args.nodes.now c.requires.short c.args.key c.args.new c.args.root t w sides.below sides.from (c.around-sides.ensures t w)
    (sym c.precedes.ensures ∙ c.if-precedes.true) c.has_key.result c.comes_before.result c.has_key.ensures c.comes_before.ensures)

pub returns-else-precedes : goal.returns-else-precedes
returns-else-precedes g c = λ t w.
    let sides = c.around-sides.result in
    rw (c.then_some-else-precedes.ensures) (found_ahead g.K.Key.before g.met.K.Key.ordered c.args.nodes.now c.requires.short c.args.key c.args.new c.args.root t w sides.below sides.from (c.around-sides.ensures t w)
    (sym c.precedes.ensures ∙ c.if-precedes.false) c.has_key-else-precedes.result c.has_key-else-precedes.ensures)
