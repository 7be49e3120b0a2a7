-- What the answers of a store's calls say, for every store.
use Rattle.std.specs.Prelude.{◌≡◌, ℕ, ◌+◌, ◌-◌, ◌<◌, ◌≤◌, List, [], ◌∷◌, ◌++◌, length, Ok, Err, Result, slice_index}
use Rattle.slab_log.specs.declared.refusal.Refusal.{Refusal}
use Rattle.slab_log.specs.declared.refusal.Refusal.TheVariants.{NoWord, StoreFull, LogFull}

-- the answer to a request for the word i of the list ws: that word, or the refusal NoWord where the list has none
abbrev pub Reads : List ℕ → ℕ → Result ℕ Refusal → Type 0
Reads ws i (Ok w) = (i < length ws) × (w ≡ slice_index ws i)
Reads ws i (Err e) = (length ws ≤ i) × (e ≡ NoWord)

-- the answer to a request to add the word w: it stands at the end of the list, or, where the list has as many words
-- as the capacity, the refusal StoreFull and the list as before
abbrev pub Adds : {U : Type 0} → ℕ → List ℕ → List ℕ → ℕ → Result U Refusal → Type 0
Adds capacity before after w (Ok u) = (length before < capacity) × (after ≡ before ++ w ∷ [])
Adds capacity before after w (Err e) = (length before ≡ capacity) × (e ≡ StoreFull) × (after ≡ before)

-- the answer to the question whether so many more words have places: they have, or, where there are not so many places left,
-- the refusal LogFull with the places left and the words needed
abbrev pub HasRoom : {U : Type 0} → ℕ → List ℕ → ℕ → Result U Refusal → Type 0
HasRoom capacity words needed (Ok u) = length words + needed ≤ capacity
HasRoom capacity words needed (Err e) = (capacity < length words + needed) × (e ≡ LogFull (capacity - length words) needed)

-- the answer to a request to add several words: they stand at the end of the list, or, where there are not so many places
-- left, the refusal LogFull with the places left and the words to be added, and the list as before
abbrev pub AddsAll : {U : Type 0} → ℕ → List ℕ → List ℕ → List ℕ → Result U Refusal → Type 0
AddsAll capacity before after new (Ok u) = (length before + length new ≤ capacity) × (after ≡ before ++ new)
AddsAll capacity before after new (Err e) =
    (capacity < length before + length new) × (e ≡ LogFull (capacity - length before) (length new)) × (after ≡ before)
