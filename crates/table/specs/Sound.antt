-- What the records of a table hold: the tree, its pairs, and the chain of unused records.
use Rattle.std.specs.Prelude.{◌≡◌, ℕ, zero, suc, ◌<◌, Bool, List, [], ◌∷◌, ◌++◌, map, length, Some, None, Option}
use Rattle.std.specs.List.{slice_get}
use Rattle.table.specs.declared.node.Node.{Node}
use Rattle.table.specs.declared.node.Heads.{Heads}
use Rattle.table.specs.declared.node.Entry.{Entry}
use Rattle.table.specs.Pairs.{pair}
use Rattle.table.specs.Tree.{Item, Tree, leaf, node, none, inorder, uses}
use Rattle.table.specs.Edit.{item}
use Rattle.table.specs.Search.{Whole}
use Rattle.table.specs.Parts.{front_at}

abbrev pub given : {A B : Type 0} → B → (A → B) → Option A → B
given d f None = d
given d f (Some x) = f x

-- the tree at a link, at most so many nodes deep
unfoldable pub walk : {K V : Type 0} → ℕ → List (Node K V) → ℕ → Tree K V
walk zero xs link = leaf
walk (suc n) xs link = given leaf (λ c. node (item link c.key c.value) (walk n xs c.links.left) (walk n xs c.links.right)) (slice_get xs link)

-- the records of the chain from a link on, at most so many
unfoldable pub follow : {K V : Type 0} → ℕ → List (Node K V) → ℕ → List (Item K V)
follow zero xs link = []
follow (suc n) xs link = given [] (λ c. item link c.key c.value ∷ follow n xs c.links.left) (slice_get xs link)

-- No way down a balanced tree of 1,024 nodes has more than 14.
unfoldable pub held : {K V : Type 0} → List (Node K V) → ℕ → Tree K V
held xs root = walk 14 xs root

unfoldable pub idle : {K V : Type 0} → List (Node K V) → ℕ → List (Item K V)
idle xs link = follow 1024 xs link

abbrev pub entry : {K V : Type 0} → Item K V → Entry K V
entry x = pair x.key x.value

-- the pairs of a table, by rising key
abbrev pub entries : {K V : Type 0} → List (Node K V) → Heads → List (Entry K V)
entries xs heads = map entry (inorder (held xs heads.root))

-- an unused record, which links the next one
abbrev pub spare : {K V : Type 0} → K → V → ℕ → Node K V
spare key value next = record { key = key; value = value; links = record { left = next; right = none }; height = 0 }

-- the records of these items are a chain
abbrev pub Chain : {K V : Type 0} → List (Node K V) → List (Item K V) → Type 0
Chain xs [] = Unit {0}
Chain xs (x ∷ us) = (x.at < none) × (slice_get xs x.at ≡ Some (spare x.key x.value (front_at us))) × Chain xs us

-- the records hold the search tree t and the chain us, and each record is in one of the two, once
pub record Holds {K V : Type 0} (before : K → K → Bool) (xs : List (Node K V)) (heads : Heads) (t : Tree K V) (us : List (Item K V)) : Type 0 where
  pub size : length xs ≡ 1024
  pub whole : Whole before xs heads.root t
  pub chained : Chain xs us
  pub begins : heads.unused ≡ front_at us
  pub shared : (j : ℕ) → j < 1024 → uses j (inorder t ++ us) ≡ 1
  pub count : heads.len ≡ length (inorder t)

-- the same of the tree and the chain that stand in the records
abbrev pub Sound : {K V : Type 0} → (K → K → Bool) → List (Node K V) → Heads → Type 0
Sound before xs heads = Holds before xs heads (held xs heads.root) (idle xs heads.unused)

-- the pair at a link
abbrev pub entry_at : {K V : Type 0} → List (Node K V) → ℕ → Option (Entry K V)
entry_at xs link = given None (λ n. Some (pair n.key n.value)) (slice_get xs link)
