-- What making a size or an extent answers. Sums do not wrap.
use Rattle.std.specs.Prelude.{◌≡◌, ℕ, ◌+◌, ◌<◌, ◌⊎◌, Ok, Err, Result}
use Rattle.slab_log.specs.Limits.{most_sectors}
use Rattle.slab_log.specs.declared.refusal.Refusal.{Refusal}
use Rattle.slab_log.specs.declared.refusal.Refusal.TheVariants.{BadSize, BadExtent}
use Rattle.slab_log.specs.declared.size.Size.{Size}
use Rattle.slab_log.specs.declared.extent.Extent.{Extent}

-- the size of n sectors, or refusal 1, exactly where n is 0 or above the limit (no size can exist there)
abbrev pub MakesSize : ℕ → Result Size Refusal → Type 0
MakesSize n (Ok size) = size.sectors ≡ n
MakesSize n (Err e) = (e ≡ BadSize) × ((n ≡ 0) ⊎ (most_sectors < n))

-- the extent, or refusal 2, exactly where it is empty or ends past the limit (no extent can exist there)
abbrev pub MakesExtent : ℕ → ℕ → Result Extent Refusal → Type 0
MakesExtent start len (Ok extent) = (extent.start ≡ start) × (extent.length ≡ len)
MakesExtent start len (Err e) = (e ≡ BadExtent) × ((len ≡ 0) ⊎ (most_sectors < start + len))
