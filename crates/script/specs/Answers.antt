-- What each line of a script is answered with, and what it leaves.
use Rattle.std.specs.Prelude.{◌≡◌, ℕ, List, Ok, Err, Result}
use Rattle.slab_log.specs.Make.{MakesSize, MakesExtent}
use Rattle.slab_log.specs.declared.extent.Extent.{Extent}
use Rattle.slab_log.specs.declared.size.Size.{Size as Slab-size}
use Rattle.slab_log.specs.declared.refusal.Refusal.{Refusal}
use Rattle.slab_log.specs.declared.refusal.Refusal.TheVariants.{BadLine}
use Rattle.disk_slab.specs.View.{View, loaded}
use Rattle.disk_slab.specs.Answers.{Allocates, after_allocate, Frees, after_free, Condenses, with_words, Shows}
use Rattle.disk_slab.specs.declared.figures.Figures.{Figures as Slab-figures}
use Rattle.script.specs.Stages.{Seen, fresh, refused, serving}
use Rattle.script.specs.declared.command.Command.{Command}
use Rattle.script.specs.declared.command.Command.TheVariants.{Size, Allocate, Free, Condense, Figures, Reload}
use Rattle.script.specs.declared.reply.Reply.{Reply}
use Rattle.script.specs.declared.reply.Reply.TheVariants.{Done, At, Words, Figures as Shown, No}

-- the size that a first line asks for: refusal 12 where it asks for something else
abbrev pub command_sizes : Command → Result Slab-size Refusal → Type 0
command_sizes (Size n) r = MakesSize n r
command_sizes (Allocate _) r = r ≡ Err BadLine
command_sizes (Free _ _) r = r ≡ Err BadLine
command_sizes Condense r = r ≡ Err BadLine
command_sizes Figures r = r ≡ Err BadLine
command_sizes Reload r = r ≡ Err BadLine

abbrev pub Sizes : Result Command Refusal → Result Slab-size Refusal → Type 0
Sizes (Ok command) r = command_sizes command r
Sizes (Err _) r = r ≡ Err BadLine

-- a refusal is a reply as well
abbrev pub replied : Result Reply Refusal → Reply
replied (Ok reply) = reply
replied (Err e) = No e

-- the replies to what the slab's calls answer
abbrev pub at : Result Extent Refusal → Reply
at (Ok e) = At e.start
at (Err e) = No e

abbrev pub done : Result (Unit {0}) Refusal → Reply
done (Ok _) = Done
done (Err e) = No e

abbrev pub words : Result ℕ Refusal → Reply
words (Ok n) = Words n
words (Err e) = No e

-- a line that asks for this, or is refused, gets this reply and leaves this
pub data Answers : Seen → Result Command Refusal → Reply → Seen → Type 0 where
  -- the first line makes the slab, or is refused
  sized : {capacity : ℕ} {log : List ℕ} {command : Result Command Refusal} (size : Slab-size) → Sizes command (Ok size) →
      Answers (fresh capacity log) command Done (serving (loaded size.sectors capacity log))
  not_sized : {capacity : ℕ} {log : List ℕ} {command : Result Command Refusal} {e : Refusal} → Sizes command (Err e) →
      Answers (fresh capacity log) command (No e) (refused capacity log)
  -- if it was refused, so is every later line
  after_refusal : {capacity : ℕ} {log : List ℕ} {command : Result Command Refusal} →
      Answers (refused capacity log) command (No BadLine) (refused capacity log)
  -- later lines
  against_form : {v : View} {e : Refusal} → Answers (serving v) (Err e) (No e) (serving v)
  second_size : {v : View} {n : ℕ} → Answers (serving v) (Ok (Size n)) (No BadLine) (serving v)
  allocates : {v : View} {want : ℕ} {r : Result Extent Refusal} → Allocates v want r →
      Answers (serving v) (Ok (Allocate want)) (at r) (serving (after_allocate v r))
  no_extent : {v : View} {start len : ℕ} {e : Refusal} → MakesExtent start len (Err e) →
      Answers (serving v) (Ok (Free start len)) (No e) (serving v)
  frees : {v : View} {start len : ℕ} (extent : Extent) {r : Result (Unit {0}) Refusal} → MakesExtent start len (Ok extent) →
      Frees v extent r → Answers (serving v) (Ok (Free start len)) (done r) (serving (after_free v extent r))
  condenses : {v : View} {log : List ℕ} {r : Result ℕ Refusal} → Condenses v log r →
      Answers (serving v) (Ok Condense) (words r) (serving (with_words v log))
  shows : {v : View} {f : Slab-figures} → Shows v f → Answers (serving v) (Ok Figures) (Shown f) (serving v)
  reloads : {v : View} → Answers (serving v) (Ok Reload) Done (serving (loaded v.size v.capacity v.words))
