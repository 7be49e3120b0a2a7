-- What the changes of a space's tables ask and leave.
use Rattle.std.specs.Prelude.{◌≡◌, ℕ, ◌+◌, ◌-◌, ◌<◌, ◌≤◌, true, false, length, Some, None, Option, MatchOption, IsSomeAnd}
use Rattle.slab_log.specs.Sectors.{Sectors, used, meets, begins}
use Rattle.table.specs.declared.node.Entry.{Entry}
use Rattle.table.specs.Table.{pairs}
use Rattle.space.specs.Extents.{Starts, free_of, in_list}
use Rattle.space.specs.Free.{sectors_of, free_in}
use Rattle.space.specs.declared.run.SectorRun.{SectorRun}
use Rattle.space.specs.declared.search.Edges.{Edges}
use Rattle.space.specs.declared.space.Space.{Space}

-- One free extent more has a place. No type holds it: a space may have as many as there can be.
abbrev pub HasPlace : Space → Type 0
HasPlace space = length (pairs space.by_start) < 1024

-- no sector of an extent is free, nor one beside it
abbrev pub Clear : Sectors → ℕ → ℕ → Type 0
Clear free start len = (s : ℕ) → start ≤ s + 1 → s ≤ start + len → free s ≡ false

-- the free sectors are now these, and the size is as before
pub record Moved (before after : Space) (free : Sectors) : Type 0 where
  pub sectors : free_in after ≡ free
  pub size : after.size ≡ before.size

-- the extent of a pair of the table of starts, where there is one
abbrev pub RunOf : Option (Entry ℕ ℕ) → Option SectorRun → Type 0
RunOf pair run = MatchOption pair (run ≡ None) (λ p. IsSomeAnd run (λ r. (r.start ≡ p.key) × (r.len ≡ p.value)))

-- of the extents that begin before a sector the last one
pub record Previous (es : Starts) (sector start len : ℕ) : Type 0 where
  pub listed : in_list start len es ≡ true
  pub before : start < sector
  pub highest : (s l : ℕ) → in_list s l es ≡ true → s < sector → s ≤ start

-- the same, or nothing where no extent does
abbrev pub LastBefore : Starts → ℕ → Option SectorRun → Type 0
LastBefore es sector (Some e) = Previous es sector e.start e.len
LastBefore es sector None = (s l : ℕ) → in_list s l es ≡ true → sector ≤ s

-- of the extents that begin at or after a sector the first one
pub record Next (es : Starts) (sector start len : ℕ) : Type 0 where
  pub listed : in_list start len es ≡ true
  pub from : sector ≤ start
  pub lowest : (s l : ℕ) → in_list s l es ≡ true → sector ≤ s → start ≤ s

-- the same, or nothing where no extent does
abbrev pub FirstFrom : Starts → ℕ → Option SectorRun → Type 0
FirstFrom es sector (Some e) = Next es sector e.start e.len
FirstFrom es sector None = (s l : ℕ) → in_list s l es ≡ true → s < sector

-- the free extent with all sectors of a run; nothing where one of them is in use
abbrev pub Holds : Space → ℕ → ℕ → Option SectorRun → Type 0
Holds space start len (Some h) = (in_list h.start h.len (pairs space.by_start) ≡ true) × (h.start ≤ start) × (start + len ≤ h.start + h.len)
Holds space start len None = meets (used (sectors_of space) (free_in space)) start len ≡ true

-- where the free extent that ends at a used sector begins; that sector, if there is none
pub record LeftEdge (es : Starts) (start first : ℕ) : Type 0 where
  pub low : first ≤ start
  pub listed : first < start → in_list first (start - first) es ≡ true
  pub alone : free_of es start ≡ false → first ≡ start → (s : ℕ) → s + 1 ≡ start → free_of es s ≡ false

-- where the free extent ends that begins at the first sector or behind a used one; where it would begin, if there is none
pub record RightEdge (es : Starts) (end last : ℕ) : Type 0 where
  pub high : end ≤ last
  pub listed : end < last → in_list end (last - end) es ≡ true
  pub alone : (s : ℕ) → s + 1 ≡ end → free_of es s ≡ false → last ≡ end → free_of es end ≡ false
  pub alone_first : last ≡ end → end ≡ 0 → free_of es end ≡ false

-- no sector of a run is free, and these are the edges of the free extents beside it
pub record Apart (es : Starts) (start len : ℕ) (edges : Edges) : Type 0 where
  pub unmet : meets (free_of es) start len ≡ false
  pub left : LeftEdge es start edges.first
  pub right : RightEdge es (start + len) edges.last

-- the same, or nothing where a sector of the run is free
abbrev pub Surrounds : Starts → ℕ → ℕ → Option Edges → Type 0
Surrounds es start len (Some edges) = Apart es start len edges
Surrounds es start len None = meets (free_of es) start len ≡ true

-- where the first longest run of a set of sectors begins that begins at or after a sector, or a place at or past the size, up to which
-- none begins
pub record UsedFrom (set : Sectors) (size sector start : ℕ) : Type 0 where
  pub from : sector ≤ start
  pub quiet : (s : ℕ) → sector ≤ s → s < start → begins set s ≡ false
  pub here : start < size → begins set start ≡ true

-- the same, or nothing where no run of the set begins at or after the sector
abbrev pub FreeTo : Sectors → ℕ → ℕ → Option ℕ → Type 0
FreeTo set size sector (Some end) = UsedFrom set size sector end
FreeTo set size sector None = (s : ℕ) → sector ≤ s → begins set s ≡ false

-- where the sectors end that are used from a used one on
pub record UsedTo (size : ℕ) (free : Sectors) (start end : ℕ) : Type 0 where
  pub some : start < end
  pub within : end ≤ size
  pub filled : (s : ℕ) → start ≤ s → s < end → free s ≡ false
  pub after : used size free end ≡ false

-- no run of used sectors begins from one place up to another, which is not past the end of the slab
pub record Passes (size : ℕ) (free : Sectors) (from to : ℕ) : Type 0 where
  pub low : from ≤ to
  pub high : to ≤ size
  pub quiet : (s : ℕ) → from ≤ s → s < to → begins (used size free) s ≡ false
