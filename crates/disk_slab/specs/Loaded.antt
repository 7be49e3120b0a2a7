-- What a log leaves where it is replayed: the free sectors of a slab, or its first fault.
use Rattle.std.specs.Prelude.{◌≡◌, ℕ, List, Ok, Result}
use Rattle.slab_log.specs.Replay.{replay}
use Rattle.slab_log.specs.declared.fault.Stop.{Stop}
use Rattle.slab_log.specs.declared.size.Size.{Size}
use Rattle.space.specs.Free.{sectors_of, free_in}
use Rattle.space.specs.declared.space.Space.{Space}

-- the space has the size
abbrev pub Sized : Size → Result Space Stop → Type 0
Sized size loaded = (space : Space) → loaded ≡ Ok space → sectors_of space ≡ size.sectors

-- the log replays to the free sectors of the space
abbrev pub Replayed : Size → Result Space Stop → List ℕ → Type 0
Replayed size loaded words = (space : Space) → loaded ≡ Ok space → replay size.sectors words ≡ Ok (free_in space)
