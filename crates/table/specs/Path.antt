-- A way down a tree, and the tree around its end.
use Rattle.std.specs.Prelude.{◌≡◌, ℕ, ◌+◌, ◌<◌, ◌≤◌, max, List, [], ◌∷◌, ◌++◌, length, Some}
use Rattle.std.specs.List.{slice_get}
use Rattle.table.specs.declared.node.Node.{Node}
use Rattle.table.specs.declared.tree.path.Step.{Step}
use Rattle.table.specs.Tree.{Item, Tree, none, ptr, tall, inorder, uses, Rep, Near, Avl, Stands}
use Rattle.table.specs.Side.{Side, Left, Right, links_of}
use Rattle.table.specs.Edit.{Once, cell_of}

-- A node that the way leaves, to a side, with its other side. The deepest comes first.
pub data Frame (K V : Type 0) : Type 0 where
  on : Side → Item K V → Tree K V → Frame K V

-- the items before the end of the way, and those after it
abbrev pub front : {K V : Type 0} → List (Frame K V) → List (Item K V)
front [] = []
front (on Left x o ∷ fs) = front fs
front (on Right x o ∷ fs) = front fs ++ (inorder o ++ x ∷ [])

abbrev pub back : {K V : Type 0} → List (Frame K V) → List (Item K V)
back [] = []
back (on Left x o ∷ fs) = x ∷ (inorder o ++ back fs)
back (on Right x o ∷ fs) = back fs

-- how tall the whole tree is, with one of height h at the end of the way
abbrev pub top : {K V : Type 0} → List (Frame K V) → ℕ → ℕ
top [] h = h
top (on s x o ∷ fs) h = top fs (max h (tall o) + 1)

-- at each node of the way, from the end up, the two sides are about as tall, with a tree of height h at the end
abbrev pub Lvl : {K V : Type 0} → List (Frame K V) → ℕ → Type 0
Lvl [] h = Unit {0}
Lvl (on s x o ∷ fs) h = Near h (tall o) × Avl o × Lvl fs (max h (tall o) + 1)

-- The slice holds the nodes of the way with their other sides. Their records fit a tree of height h at a link at the end of the way.
abbrev pub Along : {K V : Type 0} → List (Node K V) → ℕ → ℕ → List (Frame K V) → Type 0
Along xs link h [] = Unit {0}
Along xs link h (on s x o ∷ fs) = (x.at < none) × (slice_get xs x.at ≡ Some (cell_of x (links_of s link (ptr o)) (max h (tall o) + 1))) × Rep xs o × Along xs x.at (max h (tall o) + 1) fs

-- where the whole tree stands, with one at a link at the end of the way
abbrev pub root_of : {K V : Type 0} → ℕ → List (Frame K V) → ℕ
root_of link [] = link
root_of link (on s x o ∷ fs) = root_of x.at fs

-- the steps of the way, from the root down
abbrev pub steps : {K V : Type 0} → List (Frame K V) → List Step
steps [] = []
steps (on s x o ∷ fs) = steps fs ++ record { at = x.at; side = s } ∷ []

-- A tree t stands at the end of a way that fitted one of height h at the link old, and is about as tall. That the whole is no taller than
-- 90 leaves room for the nodes that are turned.
pub record Climb {K V : Type 0} (xs : List (Node K V)) (path : List Step) (link : ℕ) (fs : List (Frame K V)) (t : Tree K V) (h : ℕ) : Type 0 where
  pub stands : Stands xs link t
  pub old : ℕ
  pub along : Along xs old h fs
  pub noted : path ≡ steps fs
  pub once : Once (front fs ++ (inorder t ++ back fs))
  pub avl : Avl t
  pub lvl : Lvl fs h
  pub near : Near h (tall t)
  pub low : top fs h ≤ 90

-- the slice now holds a balanced tree with these items, about as tall as high, and no record of another place has changed
pub record Climbed {K V : Type 0} (xs ys : List (Node K V)) (link : ℕ) (items : List (Item K V)) (high : ℕ) : Type 0 where
  pub tree : Tree K V
  pub stands : Stands ys link tree
  pub order : inorder tree ≡ items
  pub avl : Avl tree
  pub near : Near high (tall tree)
  pub long : length ys ≡ length xs
  pub same : (j : ℕ) → uses j items ≡ 0 → slice_get ys j ≡ slice_get xs j

-- how far the climb has come: the root, the items and the height are those it began with
pub record Progress {K V : Type 0} (xs ys : List (Node K V)) (path : List Step) (link root : ℕ) (items : List (Item K V)) (high : ℕ) : Type 0 where
  pub fs : List (Frame K V)
  pub tree : Tree K V
  pub h : ℕ
  pub climb : Climb ys path link fs tree h
  pub root_is : root ≡ root_of root fs
  pub order : front fs ++ (inorder tree ++ back fs) ≡ items
  pub high_is : top fs h ≡ high
  pub long : length ys ≡ length xs
  pub same : (j : ℕ) → uses j items ≡ 0 → slice_get ys j ≡ slice_get xs j
