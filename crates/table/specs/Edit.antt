-- What the edits of a tree ask and give.
use Rattle.std.specs.Prelude.{◌≡◌, ℕ, ◌+◌, ◌<◌, ◌≤◌, max, ◌≢◌, List, ◌∷◌, ◌++◌, length, Some, None, Option}
use Rattle.std.specs.List.{slice_get}
use Rattle.table.specs.declared.node.Node.{Node}
use Rattle.table.specs.Side.{Side, Left, Right, Links, across, links_of, link_on}
use Rattle.table.specs.Tree.{Item, Tree, node, none, tall, inorder, uses, Near, Avl, Stands}

abbrev pub item : {K V : Type 0} → ℕ → K → V → Item K V
item at key value = record { at = at; key = key; value = value }

-- the record of a node by its links and its height
abbrev pub cell_of : {K V : Type 0} → Item K V → Links → ℕ → Node K V
cell_of x links high = record { key = x.key; value = x.value; links = links; height = high }

-- no place is used twice
abbrev pub Once : {K V : Type 0} → List (Item K V) → Type 0
Once items = (j : ℕ) → uses j items ≤ 1

-- x can be put over the trees l and r, at two links. That they are no taller than 100 is more than any tree here is, and enough for a
-- height of eight bits.
pub record Room {K V : Type 0} (xs : List (Node K V)) (x : Item K V) (links : Links) (l r : Tree K V) : Type 0 where
  pub on_left : Stands xs links.left l
  pub on_right : Stands xs links.right r
  pub within : x.at < length xs
  pub linkable : x.at < none
  pub once : Once (inorder l ++ x ∷ inorder r)
  pub low_left : tall l ≤ 100
  pub low_right : tall r ≤ 100

-- only the record at a place has changed
pub record Changed {K V : Type 0} (xs ys : List (Node K V)) (at : ℕ) : Type 0 where
  pub long : length ys ≡ length xs
  pub same : (j : ℕ) → j ≢ at → slice_get ys j ≡ slice_get xs j

-- x stands over the trees l and r, and no record of another place has changed
pub record Joined {K V : Type 0} (xs ys : List (Node K V)) (link : ℕ) (x : Item K V) (l r : Tree K V) : Type 0 where
  pub stands : Stands ys link (node x l r)
  pub kept : Changed xs ys x.at

-- the slice now holds some balanced tree with these items, as tall as high or one more, and no record of another place has changed
pub record Mended {K V : Type 0} (xs ys : List (Node K V)) (link : ℕ) (items : List (Item K V)) (high : ℕ) : Type 0 where
  pub tree : Tree K V
  pub stands : Stands ys link tree
  pub order : inorder tree ≡ items
  pub avl : Avl tree
  pub least : high ≤ tall tree
  pub most : tall tree ≤ high + 1
  pub long : length ys ≡ length xs
  pub same : (j : ℕ) → uses j items ≡ 0 → slice_get ys j ≡ slice_get xs j

-- of two trees the one on a side
abbrev pub tree_on : {K V : Type 0} → Side → Tree K V → Tree K V → Tree K V
tree_on Left l r = l
tree_on Right l r = r

-- both trees are balanced, and the first is two taller
pub record Heavy {K V : Type 0} (h l : Tree K V) : Type 0 where
  pub avl_heavy : Avl h
  pub avl_light : Avl l
  pub gap : tall h ≡ tall l + 2

-- both trees are balanced, and neither is more than two taller
pub record Uneven {K V : Type 0} (l r : Tree K V) : Type 0 where
  pub avl_left : Avl l
  pub avl_right : Avl r
  pub gap_left : tall l ≤ tall r + 2
  pub gap_right : tall r ≤ tall l + 2

-- the slice now holds a balanced tree with x between the items of l and of r, and where l and r are about as tall, one taller than they
pub record Balanced {K V : Type 0} (xs ys : List (Node K V)) (link : ℕ) (x : Item K V) (l r : Tree K V) : Type 0 where
  pub mended : Mended xs ys link (inorder l ++ x ∷ inorder r) (max (tall l) (tall r))
  pub level : Near (tall l) (tall r) → tall mended.tree ≡ max (tall l) (tall r) + 1

-- a tree at a link can be put on a side of the node n, which stands at a place: l and r are then its two sides
pub record Refit {K V : Type 0} (xs : List (Node K V)) (at : ℕ) (side : Side) (link : ℕ) (n : Node K V) (l r : Tree K V) : Type 0 where
  pub held : slice_get xs at ≡ Some n
  pub room : Room xs (item at n.key n.value) (links_of side link (link_on (across side) n.links)) l r
  pub uneven : Uneven l r

-- It was put there, and the answer is the link of the whole. Nothing is answered where the node still stands at its place, as tall
-- as its record said.
abbrev pub Refitted : {K V : Type 0} → List (Node K V) → List (Node K V) → ℕ → Node K V → Tree K V → Tree K V → Option ℕ → Type 0
Refitted xs ys at n l r (Some link) = Balanced xs ys link (item at n.key n.value) l r
Refitted xs ys at n l r None = (b : Balanced xs ys at (item at n.key n.value) l r) × (tall b.mended.tree ≡ n.height)

-- a record with another key and value
abbrev pub refilled : {K V : Type 0} → K → V → Node K V → Node K V
refilled key value n = record { key = key; value = value; links = n.links; height = n.height }
