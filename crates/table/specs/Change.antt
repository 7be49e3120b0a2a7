-- What an insertion and a removal leave of a tree.
use Rattle.std.specs.Prelude.{◌≡◌, ℕ, Bool, List, ◌∷◌, ◌++◌, Some, None, Option}
use Rattle.table.specs.declared.node.Node.{Node}
use Rattle.table.specs.declared.tree.edit.Taken.{Taken}
use Rattle.table.specs.Pairs.{Each}
use Rattle.table.specs.Tree.{Item, Tree, inorder}
use Rattle.table.specs.Search.{Became, Under, Over}

-- no item has the key: those of a come before it, and those of b after it
pub record Absent {K V : Type 0} (before : K → K → Bool) (key : K) (items : List (Item K V)) : Type 0 where
  pub a : List (Item K V)
  pub b : List (Item K V)
  pub parts : items ≡ a ++ b
  pub early : Each (λ (x : Item K V). Under before key x.key) a
  pub late : Each (λ (x : Item K V). Over before key x.key) b

-- the item at a place has the key
pub record Present {K V : Type 0} (before : K → K → Bool) (key : K) (at : ℕ) (items : List (Item K V)) : Type 0 where
  pub a : List (Item K V)
  pub x : Item K V
  pub b : List (Item K V)
  pub parts : items ≡ a ++ x ∷ b
  pub early : Each (λ (y : Item K V). Under before key y.key) a
  pub late : Each (λ (y : Item K V). Over before key y.key) b
  pub keyed : x.key ≡ key
  pub place : at ≡ x.at

abbrev pub Inserts : {K V : Type 0} → (K → K → Bool) → List (Node K V) → List (Node K V) → Item K V → Tree K V → Option ℕ → Type 0
Inserts before xs ys x t None = ((at : ℕ) × Present before x.key at (inorder t)) × (ys ≡ xs)
Inserts before xs ys x t (Some root) = (s : Absent before x.key (inorder t)) × Became before xs ys root (s.a ++ x ∷ s.b)

abbrev pub Removes : {K V : Type 0} → (K → K → Bool) → List (Node K V) → List (Node K V) → K → Tree K V → Option Taken → Type 0
Removes before xs ys key t None = Absent before key (inorder t) × (ys ≡ xs)
Removes before xs ys key t (Some r) = (p : Present before key r.at (inorder t)) × Became before xs ys r.rest (p.a ++ p.b)

-- the item at a place has the key, and each other item lies on the same side of that key and of another
pub record Replaceable {K V : Type 0} (before : K → K → Bool) (key new : K) (at : ℕ) (items : List (Item K V)) : Type 0 where
  pub present : Present before key at items
  pub early : Each (λ (y : Item K V). Under before new y.key) present.a
  pub late : Each (λ (y : Item K V). Over before new y.key) present.b

-- the same, or nothing where no item does
abbrev pub FindsReplaceable : {K V : Type 0} → (K → K → Bool) → K → K → List (Item K V) → Option ℕ → Type 0
FindsReplaceable before key new items (Some at) = Replaceable before key new at items
FindsReplaceable before key new items None = (at : ℕ) → Replaceable before key new at items → ⊥
