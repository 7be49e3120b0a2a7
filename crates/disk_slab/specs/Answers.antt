-- What each call on a live slab answers, in checking order, and what it leaves.
use Rattle.std.specs.Prelude.{◌≡◌, ℕ, ◌+◌, ◌<◌, ◌≤◌, true, false, List, ◌++◌, length, Some, None, Ok, Err, Option, Result}
use Rattle.slab_log.specs.Limits.{most_extents}
use Rattle.slab_log.specs.Sectors.{Sectors, Run, meets, count, runs}
use Rattle.slab_log.specs.Words.{words_of, entries}
use Rattle.slab_log.specs.Replay.{grant, give_back}
use Rattle.slab_log.specs.Condensed.{Condensed}
use Rattle.slab_log.specs.Fit.{BestFit}
use Rattle.slab_log.specs.declared.entry.Effect.TheVariants.{Allocates as Allocating, Frees as Freeing}
use Rattle.slab_log.specs.declared.fault.Stop.{Stop}
use Rattle.slab_log.specs.declared.extent.Extent.{Extent}
use Rattle.slab_log.specs.declared.refusal.Refusal.{Refusal}
use Rattle.slab_log.specs.declared.refusal.Refusal.TheVariants.{Stopped, NoWant, BeyondSlab, NoSpace, AlreadyFree, TooManyExtents, LogFull}
use Rattle.space.specs.Free.{Longest}
use Rattle.disk_slab.specs.View.{View, Running, places}
use Rattle.disk_slab.specs.declared.figures.Figures.{Figures}

-- some free extent has at least so many sectors
abbrev pub Fits : Sectors → ℕ → Type 0
Fits free want = (start : ℕ) × (len : ℕ) × Run free start len × (want ≤ len)

-- allocate grants the first sectors of the best fit
pub data Allocates (v : View) (want : ℕ) : Result Extent Refusal → Type 0 where
  stopped : {stop : Stop} → v.fault ≡ Some stop → Allocates v want (Err (Stopped stop))
  no_want : Running v → want ≡ 0 → Allocates v want (Err NoWant)
  no_space : Running v → 0 < want → ¬ Fits v.free want → Allocates v want (Err NoSpace)
  log_full : Running v → 0 < want → Fits v.free want → places v < entries want →
      Allocates v want (Err (LogFull (places v) (entries want)))
  granted : {e : Extent} {len : ℕ} → Running v → 0 < want → BestFit v.free want e.start len → e.length ≡ want →
      entries want ≤ places v → Allocates v want (Ok e)

abbrev pub after_allocate : View → Result Extent Refusal → View
after_allocate v (Err _) = v
after_allocate v (Ok e) =
    record {
      size = v.size;
      capacity = v.capacity;
      words = v.words ++ words_of Allocating e.start e.length;
      free = grant v.free e.start e.length;
      fault = v.fault;
    }

-- how many free extents there are once the extent is free
abbrev pub standing : View → Extent → ℕ
standing v e = runs (give_back v.free e.start e.length) v.size

-- the extent lies within the slab, and all its sectors are in hand
abbrev pub InHand : View → Extent → Type 0
InHand v e = (e.start + e.length ≤ v.size) × (meets v.free e.start e.length ≡ false)

-- free takes an extent back
pub data Frees (v : View) (e : Extent) : Result (Unit {0}) Refusal → Type 0 where
  stopped : {stop : Stop} → v.fault ≡ Some stop → Frees v e (Err (Stopped stop))
  beyond : Running v → v.size < e.start + e.length → Frees v e (Err BeyondSlab)
  already : Running v → e.start + e.length ≤ v.size → meets v.free e.start e.length ≡ true →
      Frees v e (Err AlreadyFree)
  too_many : Running v → InHand v e → most_extents ≤ standing v e → Frees v e (Err TooManyExtents)
  log_full : Running v → InHand v e → standing v e < most_extents → places v < entries e.length →
      Frees v e (Err (LogFull (places v) (entries e.length)))
  freed : {u : Unit {0}} → Running v → InHand v e → standing v e < most_extents → entries e.length ≤ places v →
      Frees v e (Ok u)

abbrev pub after_free : View → Extent → Result (Unit {0}) Refusal → View
after_free v e (Err _) = v
after_free v e (Ok _) =
    record {
      size = v.size;
      capacity = v.capacity;
      words = v.words ++ words_of Freeing e.start e.length;
      free = give_back v.free e.start e.length;
      fault = v.fault;
    }

-- condense makes the condensed log the slab's log, and answers how many words it has; `words` is the log after it
pub data Condenses (v : View) (words : List ℕ) : Result ℕ Refusal → Type 0 where
  stopped : {stop : Stop} → v.fault ≡ Some stop → words ≡ v.words → Condenses v words (Err (Stopped stop))
  too_many : Running v → most_extents ≤ runs v.free v.size → words ≡ v.words → Condenses v words (Err TooManyExtents)
  log_full : {log : List ℕ} → Running v → runs v.free v.size < most_extents → Condensed v.size v.free log →
      v.capacity < length log → words ≡ v.words → Condenses v words (Err (LogFull v.capacity (length log)))
  condensed : {n : ℕ} → Running v → runs v.free v.size < most_extents → Condensed v.size v.free words →
      length words ≤ v.capacity → n ≡ length words → Condenses v words (Ok n)

-- the answer is not that the log lacks places
abbrev pub NeverFull : Result ℕ Refusal → Type 0
NeverFull r = (places needed : ℕ) → ¬ (r ≡ Err (LogFull places needed))

abbrev pub with_words : View → List ℕ → View
with_words v words = record { size = v.size; capacity = v.capacity; words = words; free = v.free; fault = v.fault }

-- the figures of free sectors and a log of so many words
pub record Sums (size : ℕ) (free : Sectors) (words : ℕ) (f : Figures) : Type 0 where
  pub free_sectors : f.free ≡ count free size
  pub free_extents : f.extents ≡ runs free size
  pub longest_length : Longest free f.longest
  pub log_words : f.words ≡ words

-- the figures; those of a stopped slab are 0, but for the log's count
pub data Shows (v : View) : Figures → Type 0 where
  stopped : {stop : Stop} → v.fault ≡ Some stop →
      Shows v (record { free = 0; extents = 0; longest = 0; words = length v.words })
  running : {f : Figures} → Running v → Sums v.size v.free (length v.words) f → Shows v f

-- the lowest free extent that begins at or after a sector, or nothing
pub data Follows (v : View) (sector : ℕ) : Option Extent → Type 0 where
  stopped : {stop : Stop} → v.fault ≡ Some stop → Follows v sector None
  nothing : Running v → ((s l : ℕ) → Run v.free s l → s < sector) → Follows v sector None
  lowest : {e : Extent} → Running v → Run v.free e.start e.length → sector ≤ e.start →
      ((s l : ℕ) → Run v.free s l → sector ≤ s → e.start ≤ s) → Follows v sector (Some e)
