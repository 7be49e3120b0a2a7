-- Words added to a list one by one, each taken from the front of those that are left.
use Rattle.std.proofs.Common.{◌≡◌, ℕ, ◌+◌, ◌<◌, ◌≤◌, List, [], ◌∷◌, ◌++◌, length, Result, Ok, Err, sym, refl, ap, ◌∙◌, append_assoc, append-nil, arith, length-append}
use Rattle.std.specs.Prelude.{IsOk}
use Rattle.slab_log.specs.declared.refusal.Refusal.{Refusal}
use Rattle.store.specs.Answers.{Adds, AddsAll}

-- The list with those that are left behind it is the list as it was with all of the new words, and all have places.
pub record Appended (capacity : ℕ) (before new : List ℕ) (now-capacity : ℕ) (now rest : List ℕ) : Type 0 where
  pub kept : now-capacity ≡ capacity
  pub words : now ++ rest ≡ before ++ new
  pub fits : length before + length new ≤ capacity

module _ (capacity : ℕ) (before new : List ℕ) (now-capacity : ℕ) (now : List ℕ) (w : ℕ) (rest left : List ℕ) (next : rest ≡ w ∷ left) (a : Appended capacity before new now-capacity now rest) where
  -- there is a place for the next
  next_fits : length now < now-capacity
  next_fits =
      let long = sym (length-append now rest) ∙ ap length a.words ∙ length-append before new in
      omega (arith, long, ap length next, a.fits, a.kept)

  -- so it is not refused
  pub next_added : (after : List ℕ) (r : Result (Unit {0}) Refusal) → Adds now-capacity now after w r → IsOk r
  next_added after (Ok u) added = refl
  next_added after (Err e) full = let room = next_fits in absurd (omega (arith, full.0))

  pub one_appended : (after-capacity : ℕ) (after : List ℕ) → after-capacity ≡ now-capacity → after ≡ now ++ w ∷ [] → Appended capacity before new after-capacity after left
  one_appended after-capacity after kept is = record {
    kept = kept ∙ a.kept;
    words = ap (λ l. l ++ left) is ∙ append_assoc now (w ∷ []) left ∙ ap (λ l. now ++ l) (sym next) ∙ a.words;
    fits = a.fits;
  }

-- in the end all of them stand behind the list
pub all_appended : (capacity : ℕ) (before new : List ℕ) (now-capacity : ℕ) (now rest : List ℕ) → rest ≡ [] → Appended capacity before new now-capacity now rest → now ≡ before ++ new
all_appended capacity before new now-capacity now rest none a = sym (append-nil now) ∙ ap (λ l. now ++ l) (sym none) ∙ a.words

-- words that have places are not refused
pub all_added : (capacity : ℕ) (before after new : List ℕ) (r : Result (Unit {0}) Refusal) → length before + length new ≤ capacity → AddsAll capacity before after new r → IsOk r
all_added capacity before after new (Ok u) fits added = refl
all_added capacity before after new (Err e) fits full = absurd (omega (arith, full.0))
