-- The parts of an audit, put together.
use Rattle.std.proofs.Common.{◌≡◌, ℕ, List, length, Ok, ap, subst}
use Rattle.slab_log.specs.Replay.{replay}
use Rattle.slab_log.specs.Condensed.{Condensed}
use Rattle.slab_log.specs.declared.size.Size.{Size}
use Rattle.slab_log.proofs.Unique.{condensed_exists}
use Rattle.space.specs.Free.{sectors_of, free_in}
use Rattle.space.specs.declared.space.Space.{Space}
use Rattle.disk_slab.specs.Answers.{Sums}
use Rattle.disk_slab.specs.Audits.{Tallies, Audits}
use Rattle.disk_slab.specs.Audits.Audits.{sound}
use Rattle.disk_slab.specs.declared.figures.Figures.{Figures}
use Rattle.disk_slab.specs.declared.figures.Tally.{Tally}

pub audited : (size : Size) (space : Space) (words : List ℕ) (n : ℕ) (t : Tally) (f : Figures) (condensed : ℕ) →
    (replay size.sectors words ≡ Ok (free_in space)) × (space.size ≡ size) → Tallies words t →
    Sums (sectors_of space) (free_in space) n f → n ≡ length words →
    ((log : List ℕ) → Condensed (sectors_of space) (free_in space) log → condensed ≡ length log) →
    Audits size.sectors words (Ok (record { tally = t; figures = f; condensed = condensed }))
audited size space words n t f condensed (replays, same) tallies sums count counts =
    let all = condensed_exists (sectors_of space) (free_in space) in
    let sectors = ap (λ (z : Size). z.sectors) same in
    sound replays tallies
    (subst (λ (m : ℕ). Sums m (free_in space) (length words) f) sectors (subst (λ (m : ℕ). Sums (sectors_of space) (free_in space) m f) count sums))
    (subst (λ (m : ℕ). Condensed m (free_in space) all.0) sectors all.1) (counts all.0 all.1)
