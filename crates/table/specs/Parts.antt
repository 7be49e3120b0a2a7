-- The items of a tree on the two sides of a key, and how far a search for them has come.
use Rattle.std.specs.Prelude.{◌≡◌, ℕ, Bool, false, cond, List, [], ◌∷◌, ◌++◌, Some, None, Option, ◌==◌}
use Rattle.std.specs.List.{slice_get}
use Rattle.table.specs.declared.node.Node.{Node}
use Rattle.table.specs.Pairs.{Each}
use Rattle.table.specs.Tree.{Item, Tree, none, inorder, Stands}
use Rattle.table.specs.Search.{Sorted, Under}

-- the place of the first item, and of the last
abbrev pub front_at : {K V : Type 0} → List (Item K V) → ℕ
front_at [] = none
front_at (x ∷ xs) = x.at

abbrev pub final : {K V : Type 0} → List (Item K V) → ℕ
final [] = none
final (x ∷ []) = x.at
final (x ∷ y ∷ ys) = final (y ∷ ys)

-- the keys that do not come before key
abbrev pub NotUnder : {K : Type 0} → (K → K → Bool) → K → K → Type 0
NotUnder before key a = before a key ≡ false

-- below is the place of the last item whose key comes before key, and past that of the first whose key does not
pub record Parted {K V : Type 0} (before : K → K → Bool) (key : K) (below past : ℕ) (items : List (Item K V)) : Type 0 where
  pub a : List (Item K V)
  pub b : List (Item K V)
  pub parts : items ≡ a ++ b
  pub early : Each (λ (x : Item K V). Under before key x.key) a
  pub late : Each (λ (x : Item K V). NotUnder before key x.key) b
  pub below_is : below ≡ final a
  pub past_is : past ≡ front_at b

-- a search has come to a tree: it has passed items with keys of E on the left, and of L on the right
pub record Parting {K V : Type 0} (before : K → K → Bool) (E L : K → Type 0) (xs : List (Node K V)) (link below past : ℕ) (items : List (Item K V)) : Type 0 where
  pub a : List (Item K V)
  pub sub : Tree K V
  pub b : List (Item K V)
  pub stands : Stands xs link sub
  pub sorted : Sorted before (inorder sub)
  pub parts : a ++ (inorder sub ++ b) ≡ items
  pub early : Each (λ (x : Item K V). E x.key) a
  pub late : Each (λ (x : Item K V). L x.key) b
  pub below_is : below ≡ final a
  pub past_is : past ≡ front_at b

-- the height that stands at a link
abbrev pub written : {K V : Type 0} → Option (Node K V) → ℕ
written (Some n) = n.height
written None = 0

abbrev pub stored : {K V : Type 0} → List (Node K V) → ℕ → ℕ
stored xs link = cond (link == none) 0 (written (slice_get xs link))
