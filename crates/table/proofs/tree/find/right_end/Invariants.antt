-- What `right_end` keeps at each turn: it has passed items on the left only. Each turn goes to a lower tree.
use Rattle.table.specs.Tree.{Tree, inorder, none}
use Rattle.table.specs.Search.{Whole}
use Rattle.table.specs.Parts.{Parting, stored}
use Rattle.table.proofs.tree.find.right_end.Given as goal

abbrev pub invariant-loop-link : goal.invariant-loop-link
invariant-loop-link g l = (t : Tree g.row.K.Denot g.row.V.Denot) → Whole g.K.Key.before l.nodes l.root t → Parting g.K.Key.before (λ _. Unit {0}) (λ _. ⊥) l.nodes l.link l.end none (inorder t)

abbrev pub decreases-loop-link : goal.decreases-loop-link
decreases-loop-link g l = stored l.nodes l.link
