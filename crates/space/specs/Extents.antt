-- The free sectors of a slab as a list of extents by rising start, each a pair of a start and a length.
use Rattle.std.specs.Prelude.{◌≡◌, ℕ, ◌+◌, ◌≤◌, Bool, false, ◌&&◌, ◌||◌, List, [], ◌∷◌, ◌==◌}
use Rattle.slab_log.specs.Sectors.{Sectors, covers}
use Rattle.table.specs.declared.node.Entry.{Entry}
use Rattle.table.specs.declared.key.LengthKey.{LengthKey}
use Rattle.table.specs.Order.{shorter}
use Rattle.table.specs.Pairs.{has}

-- extents by start, and by length and then start
abbrev pub Starts : Type 0
Starts = List (Entry ℕ ℕ)

abbrev pub Lengths : Type 0
Lengths = List (Entry LengthKey Unit)

-- the sectors of the extents
abbrev pub free_of : Starts → Sectors
free_of [] s = false
free_of (e ∷ es) s = covers e.key e.value s || free_of es s

-- how many sectors they have
abbrev pub total : Starts → ℕ
total [] = 0
total (e ∷ es) = e.value + total es

-- the extents have sectors, lie at or after low and within the size, by rising start, with a gap between any two
abbrev pub Spaced : ℕ → ℕ → Starts → Type 0
Spaced low size [] = Unit {0}
Spaced low size (e ∷ es) = (low ≤ e.key) × (1 ≤ e.value) × (e.key + e.value ≤ size) × Spaced (e.key + e.value + 1) size es

-- whether an extent is in the list
abbrev pub in_list : ℕ → ℕ → Starts → Bool
in_list start len [] = false
in_list start len (e ∷ es) = (start == e.key && len == e.value) || in_list start len es

abbrev pub span : ℕ → ℕ → LengthKey
span start len = record { len = len; start = start }

-- both lists have the same extents
abbrev pub Twins : Starts → Lengths → Type 0
Twins es ls = (start len : ℕ) → in_list start len es ≡ has shorter (span start len) ls
