-- What a space means: its size and its free sectors; and what its calls answer and leave.
use Rattle.std.specs.Prelude.{◌≡◌, ℕ, ◌+◌, ◌-◌, ◌<◌, ◌≤◌, true, false, ◌⊎◌, List, ◌++◌, length, Some, None, Ok, Err, Option, Result}
use Rattle.slab_log.specs.Sectors.{Sectors, Run, meets, runs}
use Rattle.slab_log.specs.Replay.{give_back, replay}
use Rattle.slab_log.specs.Condensed.{Condensed}
use Rattle.slab_log.specs.Fit.{BestFit}
use Rattle.slab_log.specs.declared.refusal.Refusal.{Refusal}
use Rattle.slab_log.specs.declared.refusal.Refusal.TheVariants.{LogFull}
use Rattle.slab_log.specs.declared.fault.Fault.{Fault}
use Rattle.slab_log.specs.declared.fault.Stop.{Stop}
use Rattle.slab_log.specs.declared.extent.Extent.{Extent}
use Rattle.slab_log.specs.declared.size.Size.{Size}
use Rattle.table.specs.Table.{pairs}
use Rattle.space.specs.Extents.{free_of}
use Rattle.space.specs.declared.space.Space.{Space}

abbrev pub sectors_of : Space → ℕ
sectors_of space = space.size.sectors

-- the free sectors of a space
abbrev pub free_in : Space → Sectors
free_in space = free_of (pairs space.by_start)

-- the shortest free extent with at least so many sectors, and of equally short ones the lowest; nothing if there is none
abbrev pub Fits : Sectors → ℕ → Option Extent → Type 0
Fits free want None = (s l : ℕ) → Run free s l → l < want
Fits free want (Some e) = BestFit free want e.start e.length

-- the lowest longest run of the set that begins at or after a sector; nothing if there is none
abbrev pub Follows : Sectors → ℕ → Option Extent → Type 0
Follows set sector None = (s l : ℕ) → Run set s l → s < sector
Follows set sector (Some e) =
    Run set e.start e.length × (sector ≤ e.start) × ((s l : ℕ) → Run set s l → sector ≤ s → e.start ≤ s)

-- the greatest length of a free extent, 0 if there is none
pub record Longest (free : Sectors) (len : ℕ) : Type 0 where
  pub most : (s l : ℕ) → Run free s l → l ≤ len
  pub there : (len ≡ 0) ⊎ ((start : ℕ) × Run free start len)

-- what a change leaves: the new free sectors, or, with its fault, the space as it was
abbrev pub Changes : Space → Result Sectors Fault → Space → Result (Unit {0}) Fault → Type 0
Changes before meant after (Ok _) = (meant ≡ Ok (free_in after)) × (after.size ≡ before.size)
Changes before meant after (Err f) = (meant ≡ Err f) × (after ≡ before)

-- how many free extents there are once an extent is given back; nothing where it ends beyond the slab or has a free sector
abbrev pub Standing : ℕ → Sectors → Extent → Option ℕ → Type 0
Standing size free e (Some n) =
    (e.start + e.length ≤ size) × (meets free e.start e.length ≡ false) × (n ≡ runs (give_back free e.start e.length) size)
Standing size free e None = (size < e.start + e.length) ⊎ (meets free e.start e.length ≡ true)

-- the free sectors that a log leaves at a size, or its first fault with its place
abbrev pub Replays : Size → List ℕ → Result Space Stop → Type 0
Replays size words (Ok space) = (replay size.sectors words ≡ Ok (free_in space)) × (space.size ≡ size)
Replays size words (Err stop) = replay size.sectors words ≡ Err stop

-- the condensed log stands behind the list, or, where there are not so many places left, the refusal LogFull with the
-- places left and the words to be written, and the list as before
abbrev pub WritesCondensed : Space → ℕ → List ℕ → List ℕ → Result ℕ Refusal → Type 0
WritesCondensed space capacity before after (Ok n) =
    (log : List ℕ) × Condensed (sectors_of space) (free_in space) log × (n ≡ length log) × (length before + n ≤ capacity) × (after ≡ before ++ log)
WritesCondensed space capacity before after (Err e) =
    (log : List ℕ) × Condensed (sectors_of space) (free_in space) log × (capacity < length before + length log) × (e ≡ LogFull (capacity - length before) (length log)) × (after ≡ before)
