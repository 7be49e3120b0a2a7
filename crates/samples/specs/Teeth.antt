-- The log of a comb: each second sector is in use, from the sector 1 on.
use Rattle.std.specs.Prelude.{ℕ, zero, suc, ◌+◌, ◌*◌, List, [], ◌++◌}
use Rattle.slab_log.specs.declared.entry.Effect.TheVariants.{Allocates}
use Rattle.slab_log.specs.Words.{words_of}

-- the words that take the sectors 1, 3, .., so many of them, each by itself
abbrev pub comb : ℕ → List ℕ
comb zero = []
comb (suc n) = comb n ++ words_of Allocates (2 * n + 1) 1
