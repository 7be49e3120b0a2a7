-- What leads a script from one stage to another: a slab of some size is opened and loaded, or every later line is refused.
use Rattle.std.specs.Prelude.{◌≡◌, true, false, Some, None, Ok, Err, Option, Result}
use Rattle.slab_log.specs.declared.refusal.Refusal.{Refusal}
use Rattle.slab_log.specs.declared.size.Size.{Size}
use Rattle.disk_slab.specs.View.{loaded}
use Rattle.script.specs.Stages.{Seen, fresh, refused, serving, capacity_of, words_of, is_reload}
use Rattle.script.specs.Answers.{Sizes}
use Rattle.script.specs.declared.command.Command.{Command}
use Rattle.script.specs.declared.reply.Reply.{Reply}
use Rattle.script.specs.declared.reply.Reply.TheVariants.{Done, No}

-- the first line makes a slab of the size that it asks for, or is refused; a reload serves a slab of the same size
abbrev pub Again : Seen → Result Command Refusal → Result Size Refusal → Type 0
Again (fresh capacity log) command next = Sizes command next
Again (refused capacity log) command next = ⊥
Again (serving v) command (Ok size) = (is_reload command ≡ true) × (size.sectors ≡ v.size)
Again (serving v) command (Err e) = ⊥

-- other lines leave the stage
abbrev pub Stays : Seen → Result Command Refusal → Type 0
Stays (fresh capacity log) command = ⊥
Stays (refused capacity log) command = Unit {0}
Stays (serving v) command = is_reload command ≡ false

abbrev pub Turns : Seen → Result Command Refusal → Option (Result Size Refusal) → Type 0
Turns s command (Some next) = Again s command next
Turns s command None = Stays s command

abbrev pub turn_reply : Result Size Refusal → Reply
turn_reply (Ok size) = Done
turn_reply (Err e) = No e

abbrev pub after_turn : Seen → Result Size Refusal → Seen
after_turn s (Ok size) = serving (loaded size.sectors (capacity_of s) (words_of s))
after_turn s (Err e) = refused (capacity_of s) (words_of s)
