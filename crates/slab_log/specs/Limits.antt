-- The limits of the product, each named once.
use Rattle.std.specs.Prelude.{ℕ}

-- the most sectors of a slab
abbrev pub most_sectors : ℕ
most_sectors = 67108864

-- the most sectors of one entry
abbrev pub longest_run : ℕ
longest_run = 32768

-- the most free extents of a slab
abbrev pub most_extents : ℕ
most_extents = 1024
