-- `around` answers the two sides of a key, since each turn passes one node and one side of it.
use Rattle.std.proofs.Common.{sym, ◌∙◌}
use Rattle.table.proofs.Model.{link_within}
use Rattle.table.proofs.Searching.{not_under, parting_starts, parting_ends, part_right, part_left, shorter}
use Rattle.table.proofs.tree.find.around.Goals as goal

pub loop-link-init : goal.loop-link-init
loop-link-init g c = λ t w. parting_starts _ _ _ _ _ t w

pub read-n-requires : goal.read-n-requires
read-n-requires g c =
    let d = c.loop-link.invariant c.requires.0 c.requires.1 in
    link_within _ _ d.sub d.stands c.loop-link-test.true

pub loop-link-smaller-then-precedes : goal.loop-link-smaller-then-precedes
loop-link-smaller-then-precedes g c = (shorter _ _ _ _ _ _ _ _ _ c.read-n.ensures c.loop-link-test.true (c.loop-link.invariant c.requires.0 c.requires.1)).1

pub loop-link-preserved-then-precedes : goal.loop-link-preserved-then-precedes
loop-link-preserved-then-precedes g c = λ t w.
    let e = sym c.precedes.ensures ∙ c.if-precedes.true in
    part_right _ _ _ _ _ _ _ _ _ c.read-n.ensures c.loop-link-test.true (c.loop-link.invariant t w) e (λ y h. g.met.K.Key.ordered.transitive y _ _ h e)

pub loop-link-smaller : goal.loop-link-smaller
loop-link-smaller g c = (shorter _ _ _ _ _ _ _ _ _ c.read-n.ensures c.loop-link-test.true (c.loop-link.invariant c.requires.0 c.requires.1)).0

pub loop-link-preserved : goal.loop-link-preserved
loop-link-preserved g c = λ t w.
    let e = sym c.precedes.ensures ∙ c.if-precedes.false in
    part_left _ _ _ _ _ _ _ _ _ c.read-n.ensures c.loop-link-test.true (c.loop-link.invariant t w) e (λ y h. not_under _ g.met.K.Key.ordered _ _ y e h)

pub returns : goal.returns
returns g c = λ t w. parting_ends _ _ _ _ _ _ _ c.loop-link-test.false (c.loop-link.invariant t w)
