-- The words of a log: what a word says, and how entries and extents are written.
use Rattle.std.specs.Prelude.{ℕ, zero, suc, ◌+◌, ◌-◌, ◌*◌, ◌/◌, ◌^◌, cond, List, [], ◌∷◌, drop, Ok, Err, Result, ◌==◌, nat_le}
use Rattle.slab_log.specs.Limits.{longest_run}
use Rattle.slab_log.specs.Fields.{bits, offset_low, run_some, run_most}
use Rattle.slab_log.specs.declared.fault.Fault.{Fault}
use Rattle.slab_log.specs.declared.fault.Fault.TheVariants.{Kind}
use Rattle.slab_log.specs.declared.entry.Effect.{Effect}
use Rattle.slab_log.specs.declared.entry.Effect.TheVariants.{Allocates, Frees}
use Rattle.slab_log.specs.declared.entry.Span.{Span}
use Rattle.slab_log.specs.declared.entry.DebugWord.{DebugWord}
use Rattle.slab_log.specs.declared.entry.Entry.{Entry}
use Rattle.slab_log.specs.declared.entry.Entry.TheVariants.{Allocate, Free, Debug}
use Rattle.slab_log.specs.declared.words.EntryWords.{EntryWords}

abbrev pub span_of : ℕ → Span
span_of w = record { offset = bits 62 16 w; run = bits 14 0 w + 1; low = offset_low w; some = run_some w; most = run_most w }

abbrev pub entry_of : ℕ → Entry
entry_of w = cond (bits 15 15 w == 0) (Allocate (span_of w)) (Free (span_of w))

abbrev pub note_of : ℕ → DebugWord
note_of w = record { action = bits 61 60 w; pass = bits 59 50 w; group = bits 49 0 w }

-- what a word says
abbrev pub read : ℕ → Result Entry Fault
read w =
    cond (bits 63 63 w == 0) (Ok (entry_of w))
    (cond (bits 62 62 w == 0) (Ok (Debug (note_of w))) (Err Kind))

-- the entry that does this with its sectors
abbrev pub says : Effect → Span → Entry
says Allocates span = Allocate span
says Frees span = Free span

abbrev pub effect_bit : Effect → ℕ
effect_bit Allocates = 0
effect_bit Frees = 1

-- the one word of an entry of at most the longest run
abbrev pub word_of : Effect → ℕ → ℕ → ℕ
word_of effect offset run = offset * 2 ^ 16 + effect_bit effect * 2 ^ 15 + (run - 1)

-- how many entries an extent of len sectors has
abbrev pub entries : ℕ → ℕ
entries len = (len + (longest_run - 1)) / longest_run

-- so many words: entries of the longest run, one behind the other, and then one of the rest
abbrev pub cut : ℕ → Effect → ℕ → ℕ → List ℕ
cut zero effect start len = []
cut (suc n) effect start len =
    cond (nat_le len longest_run) (word_of effect start len ∷ [])
    (word_of effect start longest_run ∷ cut n effect (start + longest_run) (len - longest_run))

-- the words of an extent
abbrev pub words_of : Effect → ℕ → ℕ → List ℕ
words_of effect start len = cut (entries len) effect start len

-- those that an iterator over them has not given yet
abbrev pub left : EntryWords → List ℕ
left it = drop it.given (words_of it.effect it.extent.start it.extent.length)
