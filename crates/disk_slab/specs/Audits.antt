-- What an audit of a log answers.
use Rattle.std.specs.Prelude.{◌≡◌, ℕ, ◌+◌, Bool, true, false, cond, List, [], ◌∷◌, length, Ok, Err, Result}
use Rattle.slab_log.specs.Sectors.{Sectors}
use Rattle.slab_log.specs.Words.{read}
use Rattle.slab_log.specs.Replay.{replay}
use Rattle.slab_log.specs.Condensed.{Condensed}
use Rattle.slab_log.specs.declared.entry.Entry.{Entry}
use Rattle.slab_log.specs.declared.entry.Entry.TheVariants.{Allocate, Free, Debug}
use Rattle.slab_log.specs.declared.fault.Fault.{Fault}
use Rattle.slab_log.specs.declared.fault.Stop.{Stop}
use Rattle.disk_slab.specs.Answers.{Sums}
use Rattle.disk_slab.specs.declared.figures.Tally.{Tally}
use Rattle.disk_slab.specs.declared.figures.Audit.{Audit}

-- the kinds of words that an audit counts
pub data Kind : Type 0 where
  allocating : Kind
  freeing : Kind
  debugging : Kind

abbrev pub is_entry : Kind → Entry → Bool
is_entry allocating (Allocate _) = true
is_entry allocating (Free _) = false
is_entry allocating (Debug _) = false
is_entry freeing (Allocate _) = false
is_entry freeing (Free _) = true
is_entry freeing (Debug _) = false
is_entry debugging (Allocate _) = false
is_entry debugging (Free _) = false
is_entry debugging (Debug _) = true

-- 1 where a word that reads so is of the kind, else 0
abbrev pub one : Kind → Result Entry Fault → ℕ
one kind (Ok e) = cond (is_entry kind e) 1 0
one kind (Err _) = 0

-- how many words of a list are of the kind
abbrev pub tally : Kind → List ℕ → ℕ
tally kind [] = 0
tally kind (w ∷ ws) = one kind (read w) + tally kind ws

pub record Tallies (words : List ℕ) (t : Tally) : Type 0 where
  pub allocating_words : t.allocating ≡ tally allocating words
  pub freeing_words : t.freeing ≡ tally freeing words
  pub debug_words : t.debug ≡ tally debugging words

-- one word more is counted
pub record Tallied (before : Tally) (word : ℕ) (after : Tally) : Type 0 where
  pub allocates : after.allocating ≡ before.allocating + one allocating (read word)
  pub frees : after.freeing ≡ before.freeing + one freeing (read word)
  pub debugs : after.debug ≡ before.debug + one debugging (read word)

-- the first fault of the log with its place; or how many words of each kind it has, the figures after replay, and how many
-- words the condensed log has
pub data Audits (size : ℕ) (words : List ℕ) : Result Audit Stop → Type 0 where
  faulty : {stop : Stop} → replay size words ≡ Err stop → Audits size words (Err stop)
  sound : {a : Audit} {free : Sectors} {log : List ℕ} → replay size words ≡ Ok free → Tallies words a.tally →
      Sums size free (length words) a.figures → Condensed size free log → a.condensed ≡ length log → Audits size words (Ok a)
