-- What `seek` keeps at each turn: the way that it has noted, with the keys that it leaves on both sides.
use Rattle.std.proofs.Common.{◌-◌, ◌≤◌, length}
use Rattle.table.specs.Tree.{Tree, tall}
use Rattle.table.specs.Search.{Whole, Descent, Under, Over}
use Rattle.table.proofs.tree.path.seek.Given as goal

abbrev pub invariant-loop-link : goal.invariant-loop-link
invariant-loop-link g l = (t : Tree g.row.K.Denot g.row.V.Denot) → Whole g.K.Key.before l.nodes l.root t → tall t ≤ 14 → Descent g.K.Key.before (Under g.K.Key.before l.key) (Over g.K.Key.before l.key) l.nodes l.path.items l.link t

abbrev pub decreases-loop-link : goal.decreases-loop-link
decreases-loop-link g l = 14 - length l.path.items
