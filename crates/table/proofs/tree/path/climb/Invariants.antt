-- What `climb` keeps at each turn: the tree that is new below stands at the end of the rest of the way, and where the root stood.
use Rattle.std.proofs.Common.{ℕ, List, ◌++◌, length}
use Rattle.table.specs.Tree.{Tree, inorder}
use Rattle.table.specs.Path.{Frame, Climb, Progress, front, back, top}
use Rattle.table.proofs.tree.path.climb.Given as goal

abbrev pub invariant-loop-step : goal.invariant-loop-step
invariant-loop-step g l = (fs : List (Frame g.row.K.Denot g.row.V.Denot)) (t : Tree g.row.K.Denot g.row.V.Denot) (h : ℕ) → Climb l.initial.nodes l.initial.path.items l.link fs t h → Progress l.initial.nodes l.nodes l.path.items l.sub l.root (front fs ++ (inorder t ++ back fs)) (top fs h)

abbrev pub decreases-loop-step : goal.decreases-loop-step
decreases-loop-step g l = length l.path.items
