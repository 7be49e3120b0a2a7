-- What taking a node out asks and gives.
use Rattle.std.specs.Prelude.{◌≡◌, ℕ, ◌<◌, ◌≤◌, ◌≢◌, List, [], ◌∷◌, ◌++◌, length, Some}
use Rattle.std.specs.List.{slice_get}
use Rattle.table.specs.declared.node.Node.{Node}
use Rattle.table.specs.declared.tree.path.Step.{Step}
use Rattle.table.specs.Tree.{Item, Tree, none, tall, inorder, uses, Near, Avl, Stands}
use Rattle.table.specs.Edit.{item, Once}
use Rattle.table.specs.Path.{Frame, front}
use Rattle.table.specs.Search.{Way}

-- a tree with a node
pub record Stem {K V : Type 0} (xs : List (Node K V)) (link : ℕ) (t : Tree K V) : Type 0 where
  pub stands : Stands xs link t
  pub some : link ≢ none
  pub avl : Avl t
  pub once : Once (inorder t)
  pub low : tall t ≤ 14

-- a way down that goes left only
pub record Leftward {K V : Type 0} (xs : List (Node K V)) (path : List Step) (link : ℕ) (t : Tree K V) : Type 0 where
  pub fs : List (Frame K V)
  pub sub : Tree K V
  pub way : Way xs path link t fs sub
  pub some : link ≢ none
  pub first : front fs ≡ []

abbrev pub LeftEnd : {K V : Type 0} → List (Node K V) → ℕ → Type 0
LeftEnd {K} {V} xs link = (n : Node K V) → slice_get xs link ≡ Some n → n.links.left ≡ none

pub record MinTaken {K V : Type 0} (xs ys : List (Node K V)) (at rest : ℕ) (t : Tree K V) : Type 0 where
  pub n : Node K V
  pub held : slice_get ys at ≡ Some n
  pub linkable : at < none
  pub tree : Tree K V
  pub stands : Stands ys rest tree
  pub order : inorder t ≡ item at n.key n.value ∷ inorder tree
  pub avl : Avl tree
  pub near : Near (tall t) (tall tree)
  pub long : length ys ≡ length xs
  pub same : (j : ℕ) → uses j (inorder t) ≡ 0 → slice_get ys j ≡ slice_get xs j

pub record Lifted {K V : Type 0} (xs ys : List (Node K V)) (at link : ℕ) (t : Tree K V) : Type 0 where
  pub n : Node K V
  pub held : slice_get xs at ≡ Some n
  pub a : List (Item K V)
  pub b : List (Item K V)
  pub cut : inorder t ≡ a ++ item at n.key n.value ∷ b
  pub tree : Tree K V
  pub stands : Stands ys link tree
  pub order : inorder tree ≡ a ++ b
  pub avl : Avl tree
  pub near : Near (tall t) (tall tree)
  pub long : length ys ≡ length xs
  pub same : (j : ℕ) → uses j (a ++ b) ≡ 0 → slice_get ys j ≡ slice_get xs j
