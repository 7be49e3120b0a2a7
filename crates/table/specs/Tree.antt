-- The tree that a slice of records stands for.
use Rattle.std.specs.Prelude.{◌≡◌, ℕ, ◌+◌, ◌<◌, ◌≤◌, max, cond, List, [], ◌∷◌, ◌++◌, Some, ◌==◌}
use Rattle.std.specs.List.{slice_get}
use Rattle.table.specs.declared.node.Node.{Node}
pub use Rattle.table.specs.declared.node.Item.{Item}

pub data Tree (K V : Type 0) : Type 0 where
  leaf : Tree K V
  node : Item K V → Tree K V → Tree K V → Tree K V

-- the link that stands for no node
abbrev pub none : ℕ
none = 65535

-- the link to a tree
abbrev pub ptr : {K V : Type 0} → Tree K V → ℕ
ptr leaf = none
ptr (node x l r) = x.at

abbrev pub tall : {K V : Type 0} → Tree K V → ℕ
tall leaf = 0
tall (node x l r) = max (tall l) (tall r) + 1

abbrev pub inorder : {K V : Type 0} → Tree K V → List (Item K V)
inorder leaf = []
inorder (node x l r) = inorder l ++ x ∷ inorder r

abbrev pub one : ℕ → ℕ → ℕ
one j i = cond (j == i) 1 0

-- how many of the items stand at j
abbrev pub uses : {K V : Type 0} → ℕ → List (Item K V) → ℕ
uses j [] = 0
uses j (x ∷ xs) = one j x.at + uses j xs

-- the record of a node
abbrev pub cell : {K V : Type 0} → Item K V → Tree K V → Tree K V → Node K V
cell x l r = record { key = x.key; value = x.value; links = record { left = ptr l; right = ptr r }; height = max (tall l) (tall r) + 1 }

-- the slice holds the records of a tree
abbrev pub Rep : {K V : Type 0} → List (Node K V) → Tree K V → Type 0
Rep xs leaf = Unit {0}
Rep xs (node x l r) = (x.at < none) × (slice_get xs x.at ≡ Some (cell x l r)) × Rep xs l × Rep xs r

abbrev pub Near : ℕ → ℕ → Type 0
Near a b = (a ≤ b + 1) × (b ≤ a + 1)

-- the two sides of each node are about as tall
abbrev pub Avl : {K V : Type 0} → Tree K V → Type 0
Avl leaf = Unit {0}
Avl (node x l r) = Near (tall l) (tall r) × Avl l × Avl r

-- the slice holds the tree t at a link
pub record Stands {K V : Type 0} (xs : List (Node K V)) (link : ℕ) (t : Tree K V) : Type 0 where
  pub held : Rep xs t
  pub root : link ≡ ptr t
