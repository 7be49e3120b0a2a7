-- `lift` puts the first node of the right side over both sides, or answers the left side where there is no right one.
use Rattle.std.proofs.lemmas.Option.{slice_get_within}
use Rattle.table.proofs.Removing.{lift_leaf, lift_ready}
use Rattle.table.proofs.tree.edit.lift.Goals as goal

pub take_min-min-requires : goal.take_min-min-requires
take_min-min-requires g c =
    let k = lift_ready _ _ c.requires.0 _ c.requires.1 c.read.ensures c.if-links.false in
    (k.1, k.2.stem_right)

pub read-requires-else-links : goal.read-requires-else-links
read-requires-else-links g c =
    let k = lift_ready _ _ c.requires.0 _ c.requires.1 c.read.ensures c.if-links.false in
    let m = c.take_min-min.ensures k.1 k.2.stem_right in
    slice_get_within _ _ _ m.held

pub balance-requires : goal.balance-requires
balance-requires g c =
    let k = lift_ready _ _ c.requires.0 _ c.requires.1 c.read.ensures c.if-links.false in
    let m = c.take_min-min.ensures k.1 k.2.stem_right in
    (k.0, m.tree, rw c.item-item.ensures (k.2.room _ _ _ _ m c.read-else-links.ensures), k.2.uneven _ _ _ m)

pub returns-then-links : goal.returns-then-links
returns-then-links g c = λ t s. lift_leaf _ _ t _ s c.read.ensures c.if-links.true

pub returns-else-links : goal.returns-else-links
returns-else-links g c = λ t s.
    let k = lift_ready _ _ t _ s c.read.ensures c.if-links.false in
    let m = c.take_min-min.ensures k.1 k.2.stem_right in
    k.2.next _ _ _ _ _ _ m c.read-else-links.ensures (rw c.item-item.ensures at (c.balance.ensures k.0 m.tree (rw c.item-item.ensures (k.2.room _ _ _ _ m c.read-else-links.ensures)) (k.2.uneven _ _ _ m)))
