-- The condensed log of a set of free sectors.
use Rattle.std.specs.Prelude.{◌≡◌, ℕ, ◌+◌, ◌<◌, ◌≤◌, T, List, [], ◌∷◌, ◌++◌}
use Rattle.slab_log.specs.Sectors.{Sectors, Run, used}
use Rattle.slab_log.specs.Words.{words_of}
use Rattle.slab_log.specs.declared.entry.Effect.TheVariants.{Allocates}

-- the longest runs of the set that stand at or after a place, by rising start
pub data RunsFrom (set : Sectors) : ℕ → List (ℕ × ℕ) → Type 0 where
  none : {at : ℕ} → ((s : ℕ) → at ≤ s → ¬ T (set s)) → RunsFrom set at []
  next : {at start len : ℕ} {rest : List (ℕ × ℕ)} →
      at ≤ start → ((s : ℕ) → at ≤ s → s < start → ¬ T (set s)) → Run set start len → RunsFrom set (start + len) rest →
      RunsFrom set at ((start, len) ∷ rest)

-- the allocating entries of each of them
abbrev pub all_words : List (ℕ × ℕ) → List ℕ
all_words [] = []
all_words (r ∷ rs) = words_of Allocates r.0 r.1 ++ all_words rs

-- the allocating entries of each longest run of used sectors, by rising start
pub record Condensed (size : ℕ) (free : Sectors) (log : List ℕ) : Type 0 where
  pub ranges : List (ℕ × ℕ)
  pub all : RunsFrom (used size free) 0 ranges
  pub written : log ≡ all_words ranges
