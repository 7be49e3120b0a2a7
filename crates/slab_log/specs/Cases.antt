-- Ten worked cases of the definitions, as the rows of one table.
use Rattle.std.specs.Prelude.{◌≡◌, ℕ, List, [], ◌∷◌, Ok, Err}
use Rattle.slab_log.specs.Sectors.{listed}
use Rattle.slab_log.specs.Words.{words_of}
use Rattle.slab_log.specs.Replay.{replay}
use Rattle.slab_log.specs.Condensed.{Condensed}
use Rattle.slab_log.specs.Fit.{BestFit}
use Rattle.slab_log.specs.declared.fault.Fault.{Fault}
use Rattle.slab_log.specs.declared.fault.Fault.TheVariants.{Kind, Again}
use Rattle.slab_log.specs.declared.entry.Effect.{Effect}
use Rattle.slab_log.specs.declared.entry.Effect.TheVariants.{Allocates, Frees}

-- A row: what is done, and what follows. Sets of free sectors are lists of extents, each a start and a length.
pub data Case : Type 0 where
  -- the extent is written as the words
  writes : (effect : Effect) (start len : ℕ) (words : List ℕ) → Case
  -- the words, replayed at the size, leave these sectors free
  leaves : (size : ℕ) (words : List ℕ) (free : List (ℕ × ℕ)) → Case
  -- the words, replayed at the size, have this first fault, at this place
  faults : (size : ℕ) (words : List ℕ) (fault : Fault) (place : ℕ) → Case
  -- with these sectors free, the words are the condensed log
  condenses : (size : ℕ) (free : List (ℕ × ℕ)) (words : List ℕ) → Case
  -- with these sectors free, a grant of so many begins there
  grants : (free : List (ℕ × ℕ)) (want start : ℕ) → Case

-- what a row says
abbrev pub Holds : Case → Type 0
Holds (writes effect start len words) = words_of effect start len ≡ words
Holds (leaves size words free) = replay size words ≡ Ok (listed free)
Holds (faults size words fault place) = replay size words ≡ Err (record { fault = fault; place = place })
Holds (condenses size free words) = Condensed size (listed free) words
Holds (grants free want start) = (len : ℕ) × BestFit (listed free) want start len

abbrev pub table : List Case
table =
    writes Allocates 0 1 (0x0000000000000000 ∷ [])
    ∷ writes Allocates 0 35 (0x0000000000000022 ∷ [])
    ∷ writes Allocates 50 10 (0x0000000000320009 ∷ [])
    ∷ writes Frees 30 20 (0x00000000001E8013 ∷ [])
    ∷ leaves 100 (0x8000000000000000 ∷ []) ((0, 100) ∷ [])
    ∷ faults 100 (0xC000000000000000 ∷ []) Kind 0
    ∷ leaves 100 (0x0000000000000022 ∷ 0x0000000000320009 ∷ []) ((35, 15) ∷ (60, 40) ∷ [])
    ∷ faults 100 (0x00000000001E8013 ∷ []) Again 0
    ∷ condenses 50000 ((40000, 10000) ∷ []) (0x0000000000007FFF ∷ 0x0000000080001C3F ∷ [])
    ∷ grants ((10, 20) ∷ (40, 20) ∷ []) 5 10
    ∷ []

abbrev pub AllHold : List Case → Type 0
AllHold [] = Unit {0}
AllHold (c ∷ cs) = Holds c × AllHold cs
