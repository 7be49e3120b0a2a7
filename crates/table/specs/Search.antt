-- Trees in the order of their keys.
use Rattle.std.specs.Prelude.{◌≡◌, ℕ, ◌+◌, ◌<◌, ◌≤◌, Bool, true, ◌≢◌, List, [], ◌∷◌, ◌++◌, length, Some}
use Rattle.std.specs.List.{slice_get}
use Rattle.table.specs.declared.node.Node.{Node}
use Rattle.table.specs.declared.tree.path.Step.{Step}
use Rattle.table.specs.Tree.{Item, Tree, none, tall, inorder, uses, Avl, Stands}
use Rattle.table.specs.Edit.{Once}
use Rattle.table.specs.Pairs.{Each}
use Rattle.table.specs.Path.{Frame, front, back, top, Lvl, Along, steps}

-- each comes before all that follow it
abbrev pub Sorted : {K V : Type 0} → (K → K → Bool) → List (Item K V) → Type 0
Sorted before [] = Unit {0}
Sorted before (x ∷ xs) = Each (λ y. before x.key y.key ≡ true) xs × Sorted before xs

-- the slice holds a search tree at a link
pub record Whole {K V : Type 0} (before : K → K → Bool) (xs : List (Node K V)) (link : ℕ) (t : Tree K V) : Type 0 where
  pub stands : Stands xs link t
  pub avl : Avl t
  pub once : Once (inorder t)
  pub sorted : Sorted before (inorder t)

-- a place that the tree does not use
pub record Free {K V : Type 0} (xs : List (Node K V)) (at : ℕ) (t : Tree K V) : Type 0 where
  pub within : at < length xs
  pub linkable : at < none
  pub unused : uses at (inorder t) ≡ 0

-- The slice now holds a search tree with these items. No record has changed but at their places.
pub record Became {K V : Type 0} (before : K → K → Bool) (xs ys : List (Node K V)) (link : ℕ) (items : List (Item K V)) : Type 0 where
  pub tree : Tree K V
  pub whole : Whole before ys link tree
  pub order : inorder tree ≡ items
  pub long : length ys ≡ length xs
  pub same : (j : ℕ) → uses j items ≡ 0 → slice_get ys j ≡ slice_get xs j

-- a way down the tree t has come to the tree sub at a link
pub record Way {K V : Type 0} (xs : List (Node K V)) (path : List Step) (link : ℕ) (t : Tree K V) (fs : List (Frame K V)) (sub : Tree K V) : Type 0 where
  pub stands : Stands xs link sub
  pub along : Along xs link (tall sub) fs
  pub noted : path ≡ steps fs
  pub order : front fs ++ (inorder sub ++ back fs) ≡ inorder t
  pub avl : Avl sub
  pub lvl : Lvl fs (tall sub)
  pub high : top fs (tall sub) ≡ tall t
  pub space : length path + tall sub ≤ 14

-- and it leaves on its left only keys of E, and on its right only keys of L
pub record Walk {K V : Type 0} (before : K → K → Bool) (E L : K → Type 0) (xs : List (Node K V)) (path : List Step) (link : ℕ) (t : Tree K V) (fs : List (Frame K V)) (sub : Tree K V) : Type 0 where
  pub way : Way xs path link t fs sub
  pub sorted : Sorted before (inorder sub)
  pub early : Each (λ (a : Item K V). E a.key) (front fs)
  pub late : Each (λ (a : Item K V). L a.key) (back fs)

pub record Descent {K V : Type 0} (before : K → K → Bool) (E L : K → Type 0) (xs : List (Node K V)) (path : List Step) (link : ℕ) (t : Tree K V) : Type 0 where
  pub fs : List (Frame K V)
  pub sub : Tree K V
  pub walk : Walk before E L xs path link t fs sub

-- the keys that come before key, and those that it comes before
abbrev pub Under : {K : Type 0} → (K → K → Bool) → K → K → Type 0
Under before key a = before a key ≡ true

abbrev pub Over : {K : Type 0} → (K → K → Bool) → K → K → Type 0
Over before key a = before key a ≡ true

-- a node at a link has the key
abbrev pub Keyed : {K V : Type 0} → List (Node K V) → ℕ → K → Type 0
Keyed {K} {V} xs link key = link ≢ none → (n : Node K V) → slice_get xs link ≡ Some n → n.key ≡ key
