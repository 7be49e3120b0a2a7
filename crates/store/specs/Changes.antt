-- What the calls over an area answer, and which of its bytes they change.
use Rattle.std.specs.Prelude.{◌≡◌, ℕ, ◌+◌, ◌*◌, ◌<◌, ◌≤◌, List, length, Ok, Err, Result, slice_index}
use Rattle.slab_log.specs.declared.refusal.Refusal.{Refusal}
use Rattle.slab_log.specs.declared.refusal.Refusal.TheVariants.{BadHeader}
use Rattle.store.specs.declared.header_rule.Header.{Header}
use Rattle.store.specs.Image.{MeetsRule, header_bytes, places_for, count_field, capacity_field, first_field, end_field, words_of, capacity_of}

-- the four figures of the header h are those of the area
pub record IsHeader (area : List ℕ) (h : Header) : Type 0 where
  pub count : h.count ≡ count_field area
  pub capacity : h.capacity ≡ capacity_field area
  pub first : h.first ≡ first_field area
  pub end : h.end ≡ end_field area

-- the answer to a check of the area: its header where it meets the rule, and the refusal BadHeader where it does not
abbrev pub Checks : List ℕ → Result Header Refusal → Type 0
Checks area (Ok h) = MeetsRule area × IsHeader area h
Checks area (Err e) = (MeetsRule area → ⊥) × (e ≡ BadHeader)

-- a formatted area: the header's numbers are those of an image with no words, and only the header was written
pub record Formatted (before after : List ℕ) : Type 0 where
  pub has_header : header_bytes ≤ length before
  pub count : count_field after ≡ 0
  pub capacity : capacity_field after ≡ places_for (length before)
  pub first : first_field after ≡ header_bytes
  pub end : end_field after ≡ header_bytes + 8 * places_for (length before)
  pub rule : MeetsRule after
  pub same_length : length after ≡ length before
  pub behind_header : (k : ℕ) → header_bytes ≤ k → slice_index after k ≡ slice_index before k

-- the answer to a request to format the area: it is formatted, or, where it is shorter than a header, the refusal
-- BadHeader and the area as before
abbrev pub Formats : {U : Type 0} → List ℕ → List ℕ → Result U Refusal → Type 0
Formats before after (Ok u) = Formatted before after
Formats before after (Err e) = (length before < header_bytes) × (e ≡ BadHeader) × (after ≡ before)

-- bytes written behind the last word of an image change neither its words nor its capacity: until the count is written,
-- the image is the one before the addition
abbrev pub NotYetAdded : List ℕ → List ℕ → ℕ → Type 0
NotYetAdded before after place = MeetsRule before → first_field before + 8 * count_field before ≤ place → (words_of after ≡ words_of before) × (capacity_of after ≡ capacity_of before)

-- only the 8 bytes of the place and the 4 bytes of the count may have changed
pub record OnlyPlaceAndCount (before after : List ℕ) (place : ℕ) : Type 0 where
  pub same_length : length after ≡ length before
  pub between : (k : ℕ) → 4 ≤ k → k < place → slice_index after k ≡ slice_index before k
  pub behind : (k : ℕ) → place + 8 ≤ k → slice_index after k ≡ slice_index before k

-- the bytes that the addition of a word changes, by its answer: the count and the place behind the last word, or none
abbrev pub AddChanges : {U : Type 0} → List ℕ → List ℕ → Result U Refusal → Type 0
AddChanges before after (Ok u) = OnlyPlaceAndCount before after (first_field before + 8 * count_field before)
AddChanges before after (Err e) = after ≡ before

-- the bytes that the emptying of the list changes: the count, or none where the area is against the rule
pub record EmptyChanges (before after : List ℕ) : Type 0 where
  pub same_length : length after ≡ length before
  pub behind_count : (k : ℕ) → 4 ≤ k → slice_index after k ≡ slice_index before k
  pub against_rule : (MeetsRule before → ⊥) → after ≡ before
