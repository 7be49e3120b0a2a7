-- The fewest nodes of a balanced tree of each height up to 15: a list, and its rule.
use Rattle.std.specs.Prelude.{◌≡◌, ℕ, ◌+◌, ◌<◌, ◌≤◌, List, [], ◌∷◌, length, Some, None, Option, slice_index}
use Rattle.table.specs.Tree.{Tree}

abbrev pub counts : List ℕ
counts = 0 ∷ 1 ∷ 2 ∷ 4 ∷ 7 ∷ 12 ∷ 20 ∷ 33 ∷ 54 ∷ 88 ∷ 143 ∷ 232 ∷ 376 ∷ 609 ∷ 986 ∷ 1596 ∷ []

-- from the third on, each is one more than the two before it together
abbrev pub Rising : List ℕ → Type 0
Rising xs = (k : ℕ) → k + 2 < length xs → slice_index xs (k + 2) ≡ slice_index xs (k + 1) + slice_index xs k + 1

-- a tree with nothing in its nodes
abbrev pub Shape : Type 0
Shape = Tree (Unit {0}) (Unit {0})

-- n is no less than the fewest, where that is given
abbrev pub Fewest : Option ℕ → ℕ → Type 0
Fewest None n = Unit {0}
Fewest (Some m) n = m ≤ n
