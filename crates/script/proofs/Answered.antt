-- What a line is answered with, from what the slab's call answered and left.
use Rattle.std.proofs.Common.{◌≡◌, ℕ, true, List, Some, Ok, Err, Option, Result, refl, arith}
use Rattle.std.proofs.lemmas.Result.{err_from_is_err_and}
use Rattle.std.specs.Result.{IsErrAnd}
use Rattle.slab_log.specs.Make.{MakesExtent}
use Rattle.slab_log.specs.declared.extent.Extent.{Extent}
use Rattle.slab_log.specs.declared.refusal.Refusal.{Refusal}
use Rattle.slab_log.specs.declared.size.Size.{Size as Slab-size}
use Rattle.slab_log.specs.declared.refusal.Refusal.TheVariants.{BadLine}
use Rattle.store.specs.declared.log_store.LogStore.{Ghosts}
use Rattle.disk_slab.specs.View.{View}
use Rattle.script.specs.Turns.{Again, turn_reply, after_turn}
use Rattle.script.specs.declared.stage.Stage.{Stage}
use Rattle.script.specs.declared.stage.Stage.TheVariants.{Refused}
use Rattle.disk_slab.specs.Answers.{Allocates, after_allocate, Frees, after_free, Condenses, with_words, Shows}
use Rattle.disk_slab.specs.declared.figures.Figures.{Figures as Slab-figures}
use Rattle.script.specs.Stages.{Seen, fresh, refused, serving, is_reload, seen}
use Rattle.script.specs.Answers.{Answers, replied, at, done, words, sized, not_sized, after_refusal, against_form, second_size, allocates, no_extent, frees, condenses, shows, reloads}
use Rattle.script.specs.declared.command.Command.{Command}
use Rattle.script.specs.declared.command.Command.TheVariants.{Size, Allocate, Free, Condense, Figures, Reload}
use Rattle.script.specs.declared.reply.Reply.{Reply}
use Rattle.script.specs.declared.reply.Reply.TheVariants.{Figures as Shown, No}

-- the command is what the line reads as
pub read_as : {before after : Seen} {reply : Reply} {command line : Result Command Refusal} → command ≡ line → Answers before command reply after →
    Answers before line reply after
read_as is answer = rw is at answer

-- a call's refusal, passed on by `?`, is the reply
pub refusal_replied : (r : Result Reply Refusal) (e : Refusal) → IsErrAnd r (λ x. x ≡ e) → replied r ≡ No e
refusal_replied r e h = let p = err_from_is_err_and r h in rw (p.1, p.2) refl

module _ (v : View) (line : Result Command Refusal) (reply : Reply) where
  pub refused_line : (e : Refusal) → line ≡ Err e → reply ≡ No e → Answers (serving v) line reply (serving v)
  refused_line e is shows-it = rw (is, shows-it) against_form

  module _ (command : Command) (reads : line ≡ Ok command) where
    pub sized_again : (n : ℕ) → command ≡ Size n → reply ≡ No BadLine → Answers (serving v) line reply (serving v)
    sized_again n is shows-it = rw (reads, is, shows-it) second_size

    pub no_such_extent : (start len : ℕ) (e : Refusal) → command ≡ Free start len → MakesExtent start len (Err e) → reply ≡ No e →
        Answers (serving v) line reply (serving v)
    no_such_extent start len e is made shows-it = rw (reads, is, shows-it) (no_extent made)

    pub shown : (f : Slab-figures) → command ≡ Figures → Shows v f → reply ≡ Shown f → Answers (serving v) line reply (serving v)
    shown f is answer shows-it = rw (reads, is, shows-it) (shows answer)

    module _ (w : View) where
      pub allocated : (want : ℕ) (r : Result Extent Refusal) → command ≡ Allocate want → Allocates v want r → w ≡ after_allocate v r →
          reply ≡ at r → Answers (serving v) line reply (serving w)
      allocated want r is answer left shows-it = rw (reads, is, left, shows-it) (allocates answer)

      pub freed : (start len : ℕ) (e : Extent) (r : Result (Unit {0}) Refusal) → command ≡ Free start len → MakesExtent start len (Ok e) →
          Frees v e r → w ≡ after_free v e r → reply ≡ done r → Answers (serving v) line reply (serving w)
      freed start len e r is made answer left shows-it = rw (reads, is, left, shows-it) (frees e made answer)

      pub condensed : (log : List ℕ) (r : Result ℕ Refusal) → command ≡ Condense → Condenses v log r → w ≡ with_words v log → reply ≡ words r →
          Answers (serving v) line reply (serving w)
      condensed log r is answer left shows-it = rw (reads, is, left, shows-it) (condenses answer)

-- only one command reloads
reload_only : (line : Result Command Refusal) → is_reload line ≡ true → line ≡ Ok Reload
reload_only line asks = grind arith

-- a line that leads to another stage
pub turned : (s : Seen) (command : Result Command Refusal) (next : Result Slab-size Refusal) → Again s command next → Answers s command (turn_reply next) (after_turn s next)
turned (fresh capacity log) command (Ok size) asks = sized size asks
turned (fresh capacity log) command (Err e) asks = not_sized asks
turned (refused capacity log) command next none = absurd none
turned (serving v) command (Err e) none = absurd none
turned (serving v) command (Ok size) (asks, same) = rw (reload_only command asks, same) reloads

module _ {S : Type 0} (G : Ghosts S) where
  -- a line after one that was refused
  pub still_refused : {line : Result Command Refusal} (stage : Option (Stage S G)) (stands : Stage S G) (store : S) → stage ≡ Some stands →
      stands ≡ Refused store → Answers (seen G stage) line (No BadLine) (seen G (Some stands))
  still_refused stage stands store is was = rw (is, was) after_refusal
