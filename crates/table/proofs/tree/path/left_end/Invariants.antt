-- What `left_end` keeps at each turn: the way that it has noted goes left only.
use Rattle.std.proofs.Common.{◌-◌, length}
use Rattle.table.specs.Tree.{Tree}
use Rattle.table.specs.Remove.{Stem, Leftward}
use Rattle.table.proofs.tree.path.left_end.Given as goal

abbrev pub invariant-loop-n : goal.invariant-loop-n
invariant-loop-n g l = (t : Tree g.row.K.Denot g.row.V.Denot) → Stem l.nodes l.root t → Leftward l.nodes l.path.items l.link t

abbrev pub decreases-loop-n : goal.decreases-loop-n
decreases-loop-n g l = 14 - length l.path.items
