-- `remove` lifts the node of a key out of its subtree, and the way back up balances the tree.
use Rattle.std.proofs.Common.{refl}
use Rattle.table.proofs.Bound.{held_tall}
use Rattle.table.proofs.Removing.{absent, sub_stem, lifted_climb, lifted_done}
use Rattle.table.proofs.tree.edit.remove.Goals as goal

pub seek-at-requires : goal.seek-at-requires
seek-at-requires g c =
    let p = c.requires.tree in
    let w = p.1 in
    record { tree = (p.0, w, held_tall _ p.0 w.stands.held w.once w.avl c.requires.short); empty = c.new-path.ensures }

pub returns-then-at : goal.returns-then-at
returns-then-at g c = λ t w.
    let low = held_tall _ t w.stands.held w.once w.avl c.requires.short in
    let s = c.seek-at.ensures t w low in
    (absent _ _ _ _ _ _ t w low s.0 c.if-at.true, refl)

pub lift-sub-requires : goal.lift-sub-requires
lift-sub-requires g c =
    let p = c.requires.tree in
    let w = p.1 in
    let low = held_tall _ p.0 w.stands.held w.once w.avl c.requires.short in
    let s = c.seek-at.ensures p.0 w low in
    (s.0.sub, sub_stem _ _ _ _ _ _ p.0 w low s.0 c.if-at.false)

pub climb-rest-requires : goal.climb-rest-requires
climb-rest-requires g c =
    let p = c.requires.tree in
    let w = p.1 in
    let low = held_tall _ p.0 w.stands.held w.once w.avl c.requires.short in
    let s = c.seek-at.ensures p.0 w low in
    let f = c.lift-sub.ensures s.0.sub (sub_stem _ _ _ _ _ _ p.0 w low s.0 c.if-at.false) in
    (s.0.fs, f.tree, _, lifted_climb _ _ _ _ _ _ p.0 w low s.0 _ _ f)

pub returns : goal.returns
returns g c = λ t w.
    let low = held_tall _ t w.stands.held w.once w.avl c.requires.short in
    let s = c.seek-at.ensures t w low in
    let f = c.lift-sub.ensures s.0.sub (sub_stem _ _ _ _ _ _ t w low s.0 c.if-at.false) in
    let k = c.climb-rest.ensures s.0.fs f.tree _ (lifted_climb _ _ _ _ _ _ t w low s.0 _ _ f) in
    lifted_done _ _ _ _ _ _ t w low s.0 _ _ f (s.1 c.if-at.false f.n f.held) _ _ k
