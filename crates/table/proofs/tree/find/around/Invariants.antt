-- What `around` keeps at each turn: the items that it has passed on both sides. Each turn goes to a lower tree.
use Rattle.table.specs.Tree.{Tree, inorder}
use Rattle.table.specs.Search.{Whole, Under}
use Rattle.table.specs.Parts.{Parting, NotUnder, stored}
use Rattle.table.proofs.tree.find.around.Given as goal

abbrev pub invariant-loop-link : goal.invariant-loop-link
invariant-loop-link g l = (t : Tree g.row.K.Denot g.row.V.Denot) → Whole g.K.Key.before l.nodes l.root t → Parting g.K.Key.before (Under g.K.Key.before l.key) (NotUnder g.K.Key.before l.key) l.nodes l.link l.below l.from (inorder t)

abbrev pub decreases-loop-link : goal.decreases-loop-link
decreases-loop-link g l = stored l.nodes l.link
