-- `left_end` goes left until a node has no left side.
use Rattle.table.proofs.Model.{link_within}
use Rattle.table.proofs.Removing.{left_starts, left_step, left_noted}
use Rattle.table.proofs.tree.path.left_end.Goals as goal

pub loop-n-init : goal.loop-n-init
loop-n-init g c = λ t s. left_starts _ _ _ t c.requires.empty s

pub read-n-requires : goal.read-n-requires
read-n-requires g c =
    let d = c.loop-n.invariant c.requires.tree.0 c.requires.tree.1 in
    link_within _ _ d.sub d.way.stands d.some

pub loop-n-preserved : goal.loop-n-preserved
loop-n-preserved g c = λ t s. left_noted _ _ _ _ t c.push.ensures.items (left_step _ _ _ _ _ (c.loop-n.invariant t s) c.read-n.ensures c.if-n.false)
