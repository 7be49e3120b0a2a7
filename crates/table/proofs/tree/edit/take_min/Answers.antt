-- `take_min` puts the right side of the first node in its place, and the way back up balances the tree.
use Rattle.table.proofs.Removing.{min_ready}
use Rattle.table.proofs.tree.edit.take_min.Goals as goal

pub climb-rest-requires : goal.climb-rest-requires
climb-rest-requires g c =
    let p = c.requires in
    let e = c.left_end-at.ensures p.0 p.1 in
    let k = min_ready _ _ _ _ p.0 _ p.1 c.read.ensures e.0 (e.1 _ c.read.ensures) in
    (e.0.fs, k.rest, _, k.climb)

pub returns : goal.returns
returns g c = λ t s.
    let e = c.left_end-at.ensures t s in
    let k = min_ready _ _ _ _ t _ s c.read.ensures e.0 (e.1 _ c.read.ensures) in
    k.next _ _ (c.climb-rest.ensures e.0.fs k.rest _ k.climb)
