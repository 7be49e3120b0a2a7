-- `right_end` answers the last node, since it passes a node and its left side at each turn.
use Rattle.table.proofs.Model.{link_within}
use Rattle.table.proofs.Searching.{parting_starts, part_right, shorter, right_ends}
use Rattle.table.proofs.tree.find.right_end.Goals as goal

pub loop-link-init : goal.loop-link-init
loop-link-init g c = λ t w. parting_starts _ _ _ _ _ t w

pub read-requires : goal.read-requires
read-requires g c =
    let d = c.loop-link.invariant c.requires.0 c.requires.1 in
    link_within _ _ d.sub d.stands c.loop-link-test.true

pub loop-link-smaller : goal.loop-link-smaller
loop-link-smaller g c = (shorter _ _ _ _ _ _ _ _ _ c.read.ensures c.loop-link-test.true (c.loop-link.invariant c.requires.0 c.requires.1)).1

pub loop-link-preserved : goal.loop-link-preserved
loop-link-preserved g c = λ t w. part_right _ _ _ _ _ _ _ _ _ c.read.ensures c.loop-link-test.true (c.loop-link.invariant t w) tt (λ y h. tt)

pub returns : goal.returns
returns g c = λ t w. right_ends _ _ _ _ _ _ c.loop-link-test.false (c.loop-link.invariant t w)
