-- How far the run of a script has come, and what can be seen of it.
use Rattle.std.specs.Prelude.{ℕ, Bool, true, false, List, [], Some, None, Ok, Err, Option, Result}
use Rattle.slab_log.specs.declared.refusal.Refusal.{Refusal}
use Rattle.store.specs.declared.log_store.LogStore.{Ghosts}
use Rattle.disk_slab.specs.View.{View, view}
use Rattle.script.specs.declared.command.Command.{Command}
use Rattle.script.specs.declared.command.Command.TheVariants.{Size, Allocate, Free, Condense, Figures, Reload}
use Rattle.script.specs.declared.stage.Stage.{Stage}
use Rattle.script.specs.declared.stage.Stage.TheVariants.{Fresh, Refused, Serving}

-- what can be seen: before the first line, or after one that was refused, the store's capacity and list; else the slab
pub data Seen : Type 0 where
  fresh : (capacity : ℕ) (words : List ℕ) → Seen
  refused : (capacity : ℕ) (words : List ℕ) → Seen
  serving : View → Seen

abbrev pub capacity_of : Seen → ℕ
capacity_of (fresh capacity words) = capacity
capacity_of (refused capacity words) = capacity
capacity_of (serving v) = v.capacity

abbrev pub words_of : Seen → List ℕ
words_of (fresh capacity words) = words
words_of (refused capacity words) = words
words_of (serving v) = v.words

abbrev pub asks_reload : Command → Bool
asks_reload (Size _) = false
asks_reload (Allocate _) = false
asks_reload (Free _ _) = false
asks_reload Condense = false
asks_reload Figures = false
asks_reload Reload = true

abbrev pub is_reload : Result Command Refusal → Bool
is_reload (Ok command) = asks_reload command
is_reload (Err _) = false

module _ {S : Type 0} (G : Ghosts S) where
  -- of a console's stage; none stands only while a call changes it
  abbrev pub seen : Option (Stage S G) → Seen
  seen (Some (Fresh store)) = fresh (G.capacity store) (G.words store)
  seen (Some (Refused store)) = refused (G.capacity store) (G.words store)
  seen (Some (Serving live)) = serving (view G live)
  seen None = refused 0 []
