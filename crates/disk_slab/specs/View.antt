-- What can be seen of a live slab.
use Rattle.std.specs.Prelude.{◌≡◌, ℕ, ◌-◌, false, List, length, Some, None, Ok, Err, Option, Result}
use Rattle.slab_log.specs.Sectors.{Sectors}
use Rattle.slab_log.specs.Replay.{replay}
use Rattle.slab_log.specs.declared.fault.Stop.{Stop}
use Rattle.slab_log.specs.declared.size.Size.{Size}
use Rattle.store.specs.declared.log_store.LogStore.{Ghosts}
use Rattle.space.specs.Free.{sectors_of, free_in}
use Rattle.space.specs.declared.space.Space.{Space}
use Rattle.disk_slab.specs.declared.state.Live.{Live}

-- its size, its store's capacity and list, its free sectors, and the fault that stopped it
pub record View : Type 0 where
  pub size : ℕ
  pub capacity : ℕ
  pub words : List ℕ
  pub free : Sectors
  pub fault : Option Stop

-- no fault has stopped the slab
abbrev pub Running : View → Type 0
Running v = v.fault ≡ None

-- the places left in the log
abbrev pub places : View → ℕ
places v = v.capacity - length v.words

-- while the slab runs, its log replays to its free sectors
abbrev pub Sound : View → Type 0
Sound v = Running v → replay v.size v.words ≡ Ok v.free

abbrev pub running_view : ℕ → ℕ → List ℕ → Sectors → View
running_view size capacity words free = record { size = size; capacity = capacity; words = words; free = free; fault = None }

-- a stopped slab has no free sector
abbrev pub stopped_view : ℕ → ℕ → List ℕ → Stop → View
stopped_view size capacity words stop = record { size = size; capacity = capacity; words = words; free = λ _. false; fault = Some stop }

-- the live slab that load gives
abbrev pub loaded : ℕ → ℕ → List ℕ → View
loaded size capacity words =
    elim (replay size words) [ Ok free ↦ running_view size capacity words free | Err stop ↦ stopped_view size capacity words stop ]

module _ {S : Type 0} (G : Ghosts S) where
  -- a slab that runs with this space and this store
  abbrev pub running : Space → S → View
  running space store = running_view (sectors_of space) (G.capacity store) (G.words store) (free_in space)

  abbrev pub seen : Size → Result Space Stop → S → View
  seen size (Ok space) store = running_view size.sectors (G.capacity store) (G.words store) (free_in space)
  seen size (Err stop) store = stopped_view size.sectors (G.capacity store) (G.words store) stop

  abbrev pub view : Live S G → View
  view slab = seen slab.size slab.space slab.store
