-- Replay of a log at a size.
use Rattle.std.specs.Prelude.{ℕ, ◌+◌, cond, not, ◌&&◌, ◌||◌, List, [], ◌∷◌, Ok, Err, Result, nat_le, nat_lt}
use Rattle.slab_log.specs.Limits.{most_extents}
use Rattle.slab_log.specs.Sectors.{Sectors, covers, whole, used, meets, runs}
use Rattle.slab_log.specs.Words.{read}
use Rattle.slab_log.specs.declared.fault.Fault.{Fault}
use Rattle.slab_log.specs.declared.fault.Fault.TheVariants.{Bounds, Taken, Again, Crowded}
use Rattle.slab_log.specs.declared.fault.Stop.{Stop}
use Rattle.slab_log.specs.declared.entry.Entry.{Entry}
use Rattle.slab_log.specs.declared.entry.Entry.TheVariants.{Allocate, Free, Debug}

-- the free sectors without those of an extent
abbrev pub grant : Sectors → ℕ → ℕ → Sectors
grant free start len s = free s && not (covers start len s)

-- the free sectors with those of an extent
abbrev pub give_back : Sectors → ℕ → ℕ → Sectors
give_back free start len s = free s || covers start len s

-- the free sectors, unless they are in too many extents
abbrev pub uncrowded : ℕ → Sectors → Result Sectors Fault
uncrowded size free = cond (nat_le (runs free size) most_extents) (Ok free) (Err Crowded)

-- the free sectors once an extent is granted, or the fault that forbids it
abbrev pub granting : ℕ → Sectors → ℕ → ℕ → Result Sectors Fault
granting size free start len =
    cond (nat_lt size (start + len)) (Err Bounds)
    (cond (meets (used size free) start len) (Err Taken) (uncrowded size (grant free start len)))

-- the free sectors once an extent is given back, or the fault that forbids it
abbrev pub returning : ℕ → Sectors → ℕ → ℕ → Result Sectors Fault
returning size free start len =
    cond (nat_lt size (start + len)) (Err Bounds)
    (cond (meets free start len) (Err Again) (uncrowded size (give_back free start len)))

-- what one entry makes of the free sectors, or its fault
abbrev pub apply : ℕ → Sectors → Entry → Result Sectors Fault
apply size free (Debug _) = Ok free
apply size free (Allocate e) = granting size free e.offset e.run
apply size free (Free e) = returning size free e.offset e.run

-- the same of a word as it reads
abbrev pub take_word : ℕ → Sectors → Result Entry Fault → Result Sectors Fault
take_word size free (Ok e) = apply size free e
take_word size free (Err f) = Err f

-- the words from a place on, over the sectors that are free before them: the first fault ends it
abbrev pub replay_from : ℕ → ℕ → Sectors → List ℕ → Result Sectors Stop
replay_from size place free [] = Ok free
replay_from size place free (w ∷ ws) =
    elim (take_word size free (read w)) [ Ok after ↦ replay_from size (place + 1) after ws | Err f ↦ Err (record { fault = f; place = place }) ]

-- a whole log, from all sectors free
abbrev pub replay : ℕ → List ℕ → Result Sectors Stop
replay size words = replay_from size 0 (whole size) words
