-- What the invariants of a space say of its two lists of extents.
use mathlib.Core.Logic.{∥∥₁_elim}
use Rattle.std.proofs.Common.{◌≡◌, ℕ, ◌+◌, ◌≤◌, true, ltb, [], ◌∷◌, length, sym, refl, ap, ◌∙◌, arith}
use native.Mathlib.Bridge.{le_prop}
use Rattle.table.specs.Order.{shorter}
use Rattle.slab_log.specs.Limits.{most_extents}
use Rattle.slab_log.specs.Sectors.{Sectors, runs}
use Rattle.table.specs.Pairs.{Ordered}
use Rattle.table.specs.Table.{pairs as starts}
use Rattle.table.specs.Table.{pairs as lengths}
use Rattle.table.proofs.Soundness.{known}
use Rattle.space.specs.Extents.{Starts, Spaced, in_list}
use Rattle.space.specs.Free.{sectors_of, free_in}
use Rattle.space.specs.Tables.{Moved}
use Rattle.space.specs.declared.space.Space.{Space}
use Rattle.space.proofs.Spaced.{Lies, lies}
use Rattle.space.proofs.Counted.{runs_free}
use Rattle.space.proofs.Moves.{Held}

spaced_once : (low size : ℕ) (es : Starts) (p q : Spaced low size es) → p ≡ q
spaced_once low size [] p q = refl
spaced_once low size (e ∷ es) p q =
    λ i. (le_prop p.0 q.0 i, le_prop p.1 q.1 i, le_prop p.2 q.2 i, spaced_once (e.key + e.value + 1) size es p.3 q.3 i)

pub spaced_in : (space : Space) → Spaced 0 (sectors_of space) (starts space.by_start)
spaced_in space = ∥∥₁_elim space.spaced (spaced_once 0 (sectors_of space) (starts space.by_start)) (λ s. s)

pub held_in : (space : Space) → Held (sectors_of space) space.free (starts space.by_start) (lengths space.by_length)
held_in space = record { spaced = spaced_in space; twins = space.twins; level = space.level; counted = space.counted }

pub lengths_ordered : (space : Space) → Ordered shorter (lengths space.by_length)
lengths_ordered space = (known shorter space.by_length.nodes space.by_length.heads space.by_length.sound).ordered

pub few_in : (space : Space) → length (starts space.by_start) ≤ 1024
few_in space =
    let k = known ltb space.by_start.nodes space.by_start.heads space.by_start.sound in
    omega (arith, k.counts, k.most)

pub lies_in : (space : Space) (start len : ℕ) → in_list start len (starts space.by_start) ≡ true → Lies 0 (sectors_of space) start len
lies_in space start len i = lies 0 (sectors_of space) _ (spaced_in space) start len i

-- as many free extents as the table of starts has pairs
pub runs_in : (space : Space) → runs (free_in space) (sectors_of space) ≡ length (starts space.by_start)
runs_in space = runs_free 0 (sectors_of space) _ (spaced_in space)

-- what a space comes to has few enough free extents
pub runs_moved : (before after : Space) (free : Sectors) → Moved before after free → runs free (sectors_of before) ≤ most_extents
runs_moved before after free m =
    let same : runs free (sectors_of before) ≡ length (starts after.by_start) =
    ap (λ f. runs f (sectors_of before)) (sym m.sectors) ∙ (ap (λ z. runs (free_in after) z.sectors) (sym m.size) ∙ runs_in after) in
    omega (arith, few_in after)
