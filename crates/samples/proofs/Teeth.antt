-- A comb has a word for each sector in use.
use Rattle.std.proofs.Common.{◌≡◌, ℕ, zero, suc, ◌+◌, ◌*◌, length, refl, arith}
use Rattle.std.proofs.lemmas.List.{length-append}
use Rattle.slab_log.specs.declared.entry.Effect.TheVariants.{Allocates}
use Rattle.slab_log.specs.Words.{words_of}
use Rattle.samples.specs.Teeth.{comb}

pub comb_length : (n : ℕ) → length (comb n) ≡ n
comb_length zero = refl
comb_length (suc n) =
    let both = length-append (comb n) (words_of Allocates (2 * n + 1) 1) in
    let before = comb_length n in
    omega (arith, both, before)
