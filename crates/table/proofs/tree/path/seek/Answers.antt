-- `seek` goes left where the key comes before the node's, and right where the node's comes before the key.
use Rattle.std.proofs.Common.{sym, ◌∙◌}
use Rattle.table.proofs.Model.{link_within}
use Rattle.table.proofs.Descending.{went_left, went_right, starts, noted}
use Rattle.table.proofs.tree.path.seek.Goals as goal

pub loop-link-init : goal.loop-link-init
loop-link-init g c = λ t w space. starts _ _ _ _ _ _ t c.requires.empty w space

pub read-n-requires : goal.read-n-requires
read-n-requires g c =
    let d = c.loop-link.invariant c.requires.tree.0 c.requires.tree.1 c.requires.tree.2 in
    link_within _ _ d.sub d.walk.way.stands c.loop-link-test.true

pub loop-link-preserved-then-precedes : goal.loop-link-preserved-then-precedes
loop-link-preserved-then-precedes g c = λ t w space.
    let e = sym c.precedes.ensures ∙ c.if-precedes.true in
    noted _ _ _ _ _ _ _ t c.push.ensures.items (went_left _ _ _ _ _ _ _ _ c.read-n.ensures c.loop-link-test.true (c.loop-link.invariant t w space) e (λ y h. g.met.K.Key.ordered.transitive _ _ y e h))

pub loop-link-preserved : goal.loop-link-preserved
loop-link-preserved g c = λ t w space.
    let e = sym c.precedes-else-precedes.ensures ∙ c.if-precedes-2.true in
    noted _ _ _ _ _ _ _ t c.push-then-precedes-2.ensures.items (went_right _ _ _ _ _ _ _ _ c.read-n.ensures c.loop-link-test.true (c.loop-link.invariant t w space) e (λ y h. g.met.K.Key.ordered.transitive y _ _ h e))
