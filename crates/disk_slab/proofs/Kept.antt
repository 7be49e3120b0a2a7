-- Each call keeps the log of a running slab replaying to its free sectors.
use Rattle.std.proofs.Common.{◌≡◌, ℕ, ◌≤◌, List, length, Ok, Err, Result, refl, arith}
use Rattle.slab_log.specs.Limits.{most_sectors}
use Rattle.slab_log.specs.Sectors.{Within}
use Rattle.slab_log.specs.declared.extent.Extent.{Extent}
use Rattle.slab_log.specs.declared.refusal.Refusal.{Refusal}
use Rattle.slab_log.proofs.Logged.{grant_replays, return_replays}
use Rattle.slab_log.proofs.Replays.{condensed_replays}
use Rattle.slab_log.proofs.Shortest.{condensed_is_shortest}
use Rattle.disk_slab.specs.View.{View, Sound}
use Rattle.disk_slab.specs.Answers.{Allocates, after_allocate, Frees, after_free, Condenses, with_words, NeverFull}
use Rattle.disk_slab.specs.Answers.Allocates.{granted}
use Rattle.disk_slab.specs.Answers.Frees.{freed}
use Rattle.disk_slab.specs.Answers.Condenses.{stopped, too_many, log_full, condensed}

module _ (v : View) (small : v.size ≤ most_sectors) where
  pub allocate_keeps : (want : ℕ) (r : Result Extent Refusal) → Allocates v want r → Sound v → Sound (after_allocate v r)
  allocate_keeps want (Err e) a sound = sound
  allocate_keeps want (Ok e) (granted run some fit is room) sound = λ on.
      let enough = fit.enough in
      grant_replays v.size v.free v.words e.start _ e.length small (sound on) fit.extent (omega arith) (omega arith)

  pub free_keeps : (e : Extent) (r : Result (Unit {0}) Refusal) → Frees v e r → Sound v → Sound (after_free v e r)
  free_keeps e (Err _) f sound = sound
  free_keeps e (Ok _) (freed run hand few room) sound = λ on.
      return_replays v.size v.free v.words e.start e.length small (sound on) (omega (arith, e.some)) hand.0 hand.1 few

  -- an accepted condense makes it so, and a refused one leaves it
  pub condense_keeps : (words : List ℕ) (r : Result ℕ Refusal) → Within v.size v.free → Condenses v words r → Sound v → Sound (with_words v words)
  condense_keeps words r within (stopped is same) sound = λ on. rw same (sound on)
  condense_keeps words r within (too_many run many same) sound = λ on. rw same (sound on)
  condense_keeps words r within (log_full run few all short same) sound = λ on. rw same (sound on)
  condense_keeps words r within (condensed run few all fits is) sound = λ on.
      condensed_replays v.size v.free words small within few all

-- the condensed log has no more words than a log that replays, and that one has its places
pub condense_fits : (v : View) (words : List ℕ) (r : Result ℕ Refusal) → length v.words ≤ v.capacity → Condenses v words r → Sound v → NeverFull r
condense_fits v words r bound (stopped is same) sound places needed e = let z : ◌≡◌ {A = ℕ} 0 1 = cc in omega arith
condense_fits v words r bound (too_many run many same) sound places needed e = let z : ◌≡◌ {A = ℕ} 0 1 = cc in omega arith
condense_fits v words r bound (log_full {log = log} run few all short same) sound places needed e =
    omega (arith, condensed_is_shortest v.size v.free log v.words all (sound run))
condense_fits v words r bound (condensed run few all fits is) sound places needed e = let z : ◌≡◌ {A = ℕ} 0 1 = cc in omega arith

-- no call changes the size
pub allocate_size : (v : View) (r : Result Extent Refusal) → (after_allocate v r).size ≡ v.size
allocate_size v (Ok e) = refl
allocate_size v (Err e) = refl

pub free_size : (v : View) (e : Extent) (r : Result (Unit {0}) Refusal) → (after_free v e r).size ≡ v.size
free_size v e (Ok u) = refl
free_size v e (Err f) = refl
