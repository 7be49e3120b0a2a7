-- The runs of sectors in use, one after the other: what a call of their iterator gives.
use Rattle.std.specs.Prelude.{◌≡◌, ◌+◌, ◌-◌, Some, None, Option}
use Rattle.std.specs.Iterator.{Count, at_most}
use Rattle.slab_log.specs.Sectors.{used}
use Rattle.slab_log.specs.declared.extent.Extent.{Extent}
use Rattle.space.specs.Free.{sectors_of, free_in, Follows}
use Rattle.space.specs.Tables.{Passes}
use Rattle.space.specs.declared.used_runs.UsedRuns.{UsedRuns}

-- where the iterator stands after it has given this
abbrev pub Goes : UsedRuns → Option Extent → UsedRuns → Type 0
Goes before (Some e) after = Passes (sectors_of before.space.now) (free_in before.space.now) (e.start + e.length) after.at
Goes before None after = after.at ≡ before.at

-- the lowest run at or after the sector where it stands, and then it stands where the next one begins
pub record GivesNext (before : UsedRuns) (given : Option Extent) (after : UsedRuns) : Type 0 where
  pub follows : Follows (used (sectors_of before.space.now) (free_in before.space.now)) before.at given
  pub goes : Goes before given after
  pub same : after.space.now ≡ before.space.now

-- no more runs are left than sectors
abbrev pub sectors_left : UsedRuns → Count
sectors_left runs = at_most (sectors_of runs.space.now - runs.at)
