-- The words of a call find their places, or the refusal says how many it lacks.
use Rattle.std.proofs.Common.{◌≡◌, ℕ, ◌+◌, ◌<◌, ◌≤◌, List, [], length, Ok, Err, Result, refl, ap, arith}
use Rattle.slab_log.specs.Limits.{most_extents}
use Rattle.slab_log.specs.Sectors.{runs}
use Rattle.slab_log.specs.Words.{words_of}
use Rattle.slab_log.specs.Condensed.{Condensed}
use Rattle.slab_log.specs.declared.entry.Effect.TheVariants.{Allocates as Allocating, Frees as Freeing}
use Rattle.slab_log.specs.declared.extent.Extent.{Extent}
use Rattle.slab_log.specs.declared.refusal.Refusal.{Refusal}
use Rattle.slab_log.specs.declared.refusal.Refusal.TheVariants.{LogFull}
use Rattle.slab_log.proofs.Written.{words_length}
use Rattle.space.specs.Free.{sectors_of, free_in, WritesCondensed}
use Rattle.space.specs.declared.space.Space.{Space}
use Rattle.disk_slab.specs.View.{View, Running, places, running_view}
use Rattle.disk_slab.specs.Answers.{Allocates, Fits, Frees, InHand, standing, Condenses}
use Rattle.disk_slab.specs.Answers.Condenses.{condensed}

module _ (v : View) (on : Running v) where
  pub grant_lacks : (want start : ℕ) (e : Refusal) → 0 < want → Fits v.free want →
      v.capacity < length v.words + length (words_of Allocating start want) →
      e ≡ LogFull (places v) (length (words_of Allocating start want)) → Allocates v want (Err e)
  grant_lacks want start e some fits short is =
      let n = words_length Allocating start want some in
      rw (is, n) (Allocates.log_full on some fits (omega arith))

  pub return_lacks : (e : Extent) (f : Refusal) → InHand v e → standing v e < most_extents →
      v.capacity < length v.words + length (words_of Freeing e.start e.length) →
      f ≡ LogFull (places v) (length (words_of Freeing e.start e.length)) → Frees v e (Err f)
  return_lacks e f hand few short is =
      let n = words_length Freeing e.start e.length (omega (arith, e.some)) in
      rw (is, n) (Frees.log_full on hand few (omega arith))

-- the condensed log in a store that was emptied for it
pub condensed_written : (space : Space) (capacity room : ℕ) (words emptied after : List ℕ) (r : Result ℕ Refusal) →
    runs (free_in space) (sectors_of space) < most_extents → emptied ≡ [] → room ≡ capacity →
    ((log : List ℕ) → Condensed (sectors_of space) (free_in space) log → length log ≤ capacity) →
    WritesCondensed space room emptied after r → Condenses (running_view (sectors_of space) capacity words (free_in space)) after r
condensed_written space capacity room words emptied after (Ok n) few empty same fits (log, all, is, room_left, behind) =
    let whole : after ≡ log = rw empty at behind in
    rw whole (condensed refl few all (fits log all) is)
condensed_written space capacity room words emptied after (Err e) few empty same fits (log, all, lacks, is, behind) =
    absurd (omega (arith, fits log all, ap length empty))
