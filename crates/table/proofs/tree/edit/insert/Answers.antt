-- `insert` hangs a new node where the way of its key ends, and the way back up balances the tree.
use Rattle.std.proofs.Common.{refl}
use Rattle.table.specs.Tree.{leaf, none}
use Rattle.table.proofs.Bound.{held_tall}
use Rattle.table.proofs.Model.{link_node}
use Rattle.table.proofs.Descending.{at_link}
use Rattle.table.proofs.Inserting.{lone, hung, finished}
use Rattle.table.proofs.Removing.{there}
use Rattle.table.proofs.tree.edit.insert.Goals as goal

pub seek-link-requires : goal.seek-link-requires
seek-link-requires g c =
    let p = c.requires.tree in
    let w = p.1 in
    record { tree = (p.0, w, held_tall _ p.0 w.stands.held w.once w.avl c.requires.short); empty = c.new-path.ensures }

pub returns-then-link : goal.returns-then-link
returns-then-link g c = λ t w f.
    let low = held_tall _ t w.stands.held w.once w.avl c.requires.short in
    let s = c.seek-link.ensures t w low in
    let n = link_node _ _ s.0.sub s.0.walk.way.stands c.if-link.true in
    ((_, there _ _ _ _ _ _ t w low s.0 n.0 c.if-link.true n.1 (s.1 c.if-link.true n.0 n.1)), refl)

pub climb-requires : goal.climb-requires
climb-requires g c =
    let p = c.requires.tree in
    let w = p.1 in
    let low = held_tall _ p.0 w.stands.held w.once w.avl c.requires.short in
    let d = at_link _ _ _ _ _ _ none p.0 c.if-link.false (c.seek-link.ensures p.0 w low).0 in
    let j = c.join-new.ensures leaf leaf (lone _ _ p.0 p.2) in
    (d.fs, _, _, hung _ _ _ _ _ _ _ p.0 w p.2 low j d)

pub returns : goal.returns
returns g c = λ t w f.
    let low = held_tall _ t w.stands.held w.once w.avl c.requires.short in
    let d = at_link _ _ _ _ _ _ none t c.if-link.false (c.seek-link.ensures t w low).0 in
    let j = c.join-new.ensures leaf leaf (lone _ _ t f) in
    let k = c.climb.ensures d.fs _ _ (hung _ _ _ _ _ _ _ t w f low j d) in
    finished _ _ _ _ _ _ _ t w f low j d _ _ k
