-- The laws of logs, each the contract of a function of src/laws.rt.
use Rattle.std.specs.Prelude.{◌≡◌, ℕ, ◌+◌, ◌<◌, ◌≤◌, false, List, ◌++◌, length, Ok}
use Rattle.slab_log.specs.Limits.{most_sectors, most_extents}
use Rattle.slab_log.specs.Sectors.{Sectors, Within, Run, meets, runs}
use Rattle.slab_log.specs.Words.{read, says, word_of, words_of}
use Rattle.slab_log.specs.Replay.{grant, give_back, replay}
use Rattle.slab_log.specs.Condensed.{Condensed}
use Rattle.slab_log.specs.declared.entry.Effect.{Effect}
use Rattle.slab_log.specs.declared.entry.Effect.TheVariants.{Allocates, Frees}
use Rattle.slab_log.specs.declared.entry.Span.{Span}

-- the word of an entry reads as that entry
abbrev pub ReadingUndoesWriting : Type 0
ReadingUndoesWriting = (effect : Effect) (span : Span) → read (word_of effect span.offset span.run) ≡ Ok (says effect span)

-- no log that replays to a set of free sectors has fewer words than their condensed log
abbrev pub CondensedIsShortest : Type 0
CondensedIsShortest =
    (size : ℕ) (free : Sectors) (condensed other : List ℕ) →
    Condensed size free condensed → replay size other ≡ Ok free → length condensed ≤ length other

-- where a free extent may still be added, the condensed log replays to the free sectors that it was made from
abbrev pub CondensedReplays : Type 0
CondensedReplays =
    (size : ℕ) (free : Sectors) (condensed : List ℕ) → size ≤ most_sectors → Within size free → runs free size < most_extents →
    Condensed size free condensed → replay size condensed ≡ Ok free

-- a set of free sectors has at most one condensed log
abbrev pub CondensedIsUnique : Type 0
CondensedIsUnique = (size : ℕ) (free : Sectors) (a b : List ℕ) → Condensed size free a → Condensed size free b → a ≡ b

-- and it has one
abbrev pub CondensedExists : Type 0
CondensedExists = (size : ℕ) (free : Sectors) → (log : List ℕ) × Condensed size free log

-- where two condensed logs are equal, the same sectors are free
abbrev pub EqualCondensedEqualSectors : Type 0
EqualCondensedEqualSectors =
    (size : ℕ) (free other : Sectors) (log : List ℕ) → Condensed size free log → Condensed size other log →
    (s : ℕ) → s < size → free s ≡ other s

-- where the log replays to the free sectors, and the front of a free extent is granted, the log with the grant's entries replays
-- to what is left
abbrev pub GrantReplays : Type 0
GrantReplays =
    (size : ℕ) (free : Sectors) (words : List ℕ) (start len want : ℕ) → size ≤ most_sectors → replay size words ≡ Ok free →
    Run free start len → 0 < want → want ≤ len →
    replay size (words ++ words_of Allocates start want) ≡ Ok (grant free start want)

-- where it replays to them, and an extent in use is given back that leaves fewer than the most free extents, the log with the
-- return's entries replays to the free sectors and the extent's
abbrev pub ReturnReplays : Type 0
ReturnReplays =
    (size : ℕ) (free : Sectors) (words : List ℕ) (start len : ℕ) → size ≤ most_sectors → replay size words ≡ Ok free →
    0 < len → start + len ≤ size → meets free start len ≡ false → runs (give_back free start len) size < most_extents →
    replay size (words ++ words_of Frees start len) ≡ Ok (give_back free start len)
