-- The number of each refusal.
use Rattle.std.specs.Prelude.{ℕ}
use Rattle.slab_log.specs.declared.refusal.Refusal.{Refusal}
use Rattle.slab_log.specs.declared.refusal.Refusal.TheVariants.{BadSize, BadExtent, Stopped, NoWant, BeyondSlab, NoSpace, AlreadyFree, TooManyExtents, LogFull, StoreFull, AreaShort, NoWord, BadHeader, BadLine}

abbrev pub number_of : Refusal → ℕ
number_of BadSize = 1
number_of BadExtent = 2
number_of (Stopped _) = 3
number_of NoWant = 4
number_of BeyondSlab = 5
number_of NoSpace = 6
number_of AlreadyFree = 7
number_of TooManyExtents = 8
number_of (LogFull _ _) = 9
number_of StoreFull = 9
number_of AreaShort = 10
number_of NoWord = 10
number_of BadHeader = 11
number_of BadLine = 12
