-- Images of stores: the rule and its test, what an area's words and capacity are, and one word more.
use Rattle.std.proofs.Common.{◌≡◌, ℕ, zero, suc, ◌+◌, ◌*◌, ◌<◌, ◌≤◌, Bool, true, false, List, [], ◌∷◌, ◌++◌, length, get_or, sym, refl, ap, ◌∙◌, add-one, arith}
use Rattle.std.proofs.lemmas.Bool.{and_from, le-leb, lt-ltb, eq-eqb, cond-true, cond-false}
use Rattle.store.specs.Bytes.{le, le64, SameOutside}
use Rattle.store.specs.Image.{MeetsRule, meets_rule, rule_met, words_at, words_of, capacity_of, length_words_at, count_field, capacity_field, first_field, end_field}
use Rattle.store.specs.Changes.{OnlyPlaceAndCount, EmptyChanges, NotYetAdded}
use Rattle.store.proofs.Digits.{le_same}

-- the rule says the test
pub test_met : (area : List ℕ) → MeetsRule area → meets_rule area ≡ true
test_met area m =
    and_from _ _ (le-leb _ _ m.has_header) (and_from _ _ (lt-ltb _ _ m.capacity_in_32_bits) (and_from _ _ (le-leb _ _ m.first_behind_header) (and_from _ _ (eq-eqb _ _ m.end_behind_places) (and_from _ _ (le-leb _ _ m.end_within_area) (le-leb _ _ m.count_within_capacity)))))

pub test_unmet : (area : List ℕ) → (MeetsRule area → ⊥) → meets_rule area ≡ false
test_unmet area against = go (meets_rule area) refl where
  go : (b : Bool) → meets_rule area ≡ b → b ≡ false
  go true e = absurd (against (rule_met area e))
  go false e = refl

-- an area that meets the rule
module _ (area : List ℕ) (m : MeetsRule area) where
  pub words_met : words_of area ≡ words_at area (first_field area) (count_field area)
  words_met = cond-true (meets_rule area) _ _ (test_met area m)

  pub capacity_met : capacity_of area ≡ capacity_field area
  capacity_met = cond-true (meets_rule area) _ _ (test_met area m)

  pub count_met : length (words_of area) ≡ count_field area
  count_met = ap length words_met ∙ length_words_at area (first_field area) (count_field area)

-- an area against the rule
module _ (area : List ℕ) (against : MeetsRule area → ⊥) where
  pub words_unmet : words_of area ≡ []
  words_unmet = cond-false (meets_rule area) _ _ (test_unmet area against)

  pub capacity_unmet : capacity_of area ≡ 0
  capacity_unmet = cond-false (meets_rule area) _ _ (test_unmet area against)

getD_words_at : (area : List ℕ) (at n i : ℕ) → i < n → get_or (words_at area at n) i 0 ≡ le64 area (at + 8 * i)
getD_words_at area at zero i h = absurd (omega arith)
getD_words_at area at (suc n) zero h = ap (le64 area) (omega arith)
getD_words_at area at (suc n) (suc i) h = getD_words_at area (at + 8) n i (omega arith) ∙ ap (le64 area) (omega arith)

-- the word i of an area
pub word_met : (area : List ℕ) → MeetsRule area → (i : ℕ) → i < count_field area → le64 area (first_field area + 8 * i) ≡ get_or (words_of area) i 0
word_met area m i h = sym (ap (λ l. get_or l i 0) (words_met area m) ∙ getD_words_at area (first_field area) (count_field area) i h)

words_at_push : (area : List ℕ) (at n : ℕ) → words_at area at (suc n) ≡ words_at area at n ++ le64 area (at + 8 * n) ∷ []
words_at_push area at zero = ap (λ k. le64 area k ∷ []) (omega arith)
words_at_push area at (suc n) = ap (λ l. le64 area at ∷ l) (words_at_push area (at + 8) n ∙ ap (λ k. words_at area (at + 8) n ++ le64 area k ∷ []) (omega arith))

-- two areas whose bytes from a on and below b are the same
module _ (before after : List ℕ) (a b : ℕ) (same : (k : ℕ) → a ≤ k → k < b → get_or after k 0 ≡ get_or before k 0) where
  pub le_within : (n at : ℕ) → a ≤ at → at + n ≤ b → le n after at ≡ le n before at
  le_within n at low high = le_same n at before after (λ k from to. same k (omega arith) (omega arith))

  words_within : (at n : ℕ) → a ≤ at → at + 8 * n ≤ b → words_at after at n ≡ words_at before at n
  words_within at zero low high = refl
  words_within at (suc n) low high = ap (λ w. w ∷ words_at after (at + 8) n) (le_within 8 at (omega arith) (omega arith)) ∙ ap (λ l. le64 before at ∷ l) (words_within (at + 8) n (omega arith) (omega arith))

-- a changed area, of which the count fits and the three other numbers of the header are as before, meets the rule
pub rule_kept : (before after : List ℕ) → MeetsRule before → length after ≡ length before → count_field after ≤ capacity_field before → ((k : ℕ) → 4 ≤ k → k < 16 → get_or after k 0 ≡ get_or before k 0) → MeetsRule after × (capacity_field after ≡ capacity_field before) × (first_field after ≡ first_field before)
rule_kept before after m long fits same =
    let capacity : capacity_field after ≡ capacity_field before = le_within before after 4 16 same 4 4 (omega arith) (omega arith) in
    let first : first_field after ≡ first_field before = le_within before after 4 16 same 4 8 (omega arith) (omega arith) in
    let ends : end_field after ≡ end_field before = le_within before after 4 16 same 4 12 (omega arith) (omega arith) in (
      record {
        has_header = omega (arith, m.has_header);
        first_behind_header = omega (arith, m.first_behind_header);
        end_behind_places = omega (arith, m.end_behind_places);
        end_within_area = omega (arith, m.end_within_area);
        count_within_capacity = omega arith;
        capacity_in_32_bits = omega (arith, m.capacity_in_32_bits);
      },
      capacity,
      first,
    )

-- bytes behind the last word are not read
pub not_yet_added : (before after : List ℕ) (place : ℕ) → length after ≡ length before → SameOutside before after place 8 → NotYetAdded before after place
not_yet_added before after place long others m behind =
    let from : 16 ≤ place = omega (arith, m.first_behind_header) in
    let same : (k : ℕ) → 0 ≤ k → k < place → get_or after k 0 ≡ get_or before k 0 = λ k l h. others.in_front k h in
    let count : count_field after ≡ count_field before = le_within before after 0 place same 4 0 (omega arith) (omega arith) in
    let kept = rule_kept before after m long (omega (arith, m.count_within_capacity)) (λ k l h. same k (omega arith) (omega arith)) in (
      words_met after kept.0 ∙ ap (λ k. words_at after k (count_field after)) kept.2 ∙ ap (λ n. words_at after (first_field before) n) count ∙ words_within before after 0 place same (first_field before) (count_field before) (omega arith) behind ∙ sym (words_met before m),
      capacity_met after kept.0 ∙ kept.1 ∙ sym (capacity_met before m),
    )

-- what the addition of a word ensures
pub record Added (before after : List ℕ) (w : ℕ) : Type 0 where
  pub kept : capacity_of after ≡ capacity_of before
  pub room : length (words_of before) < capacity_of before
  pub words : words_of after ≡ words_of before ++ w ∷ []
  pub changes : OnlyPlaceAndCount before after (first_field before + 8 * count_field before)

-- the word's bytes behind the last word, and then the count
pub added : (before halfway after : List ℕ) (w place : ℕ) → MeetsRule before → count_field before < capacity_field before → place ≡ first_field before + 8 * count_field before → le64 halfway place ≡ w → SameOutside before halfway place 8 → count_field after ≡ count_field before + 1 → SameOutside halfway after 0 4 → length halfway ≡ length before → length after ≡ length halfway → Added before after w
added before halfway after w place m room is put others count rest long longer =
    let from : 16 ≤ place = omega (arith, m.first_behind_header) in
    let low : (k : ℕ) → 4 ≤ k → k < place → get_or after k 0 ≡ get_or before k 0 = λ k l h. rest.behind k (omega arith) ∙ others.in_front k h in
    let high : (k : ℕ) → 4 ≤ k → k < place + 8 → get_or after k 0 ≡ get_or halfway k 0 = λ k l h. rest.behind k (omega arith) in
    let kept = rule_kept before after m (longer ∙ long) (omega arith) (λ k l h. low k l (omega arith)) in
    let new : le64 after place ≡ w = le_within halfway after 4 (place + 8) high 8 place (omega arith) (omega arith) ∙ put in
    let old : words_at after (first_field before) (count_field before) ≡ words_at before (first_field before) (count_field before) = words_within before after 4 place low (first_field before) (count_field before) (omega (arith, m.first_behind_header)) (omega arith) in
    record {
      kept = capacity_met after kept.0 ∙ kept.1 ∙ sym (capacity_met before m);
      room = omega (arith, count_met before m, capacity_met before m);
      words =
          words_met after kept.0
          ∙ ap (λ k. words_at after k (count_field after)) kept.2
          ∙ ap (λ k. words_at after (first_field before) k) (count ∙ add-one (count_field before))
          ∙ words_at_push after (first_field before) (count_field before)
          ∙ ap (λ l. l ++ le64 after (first_field before + 8 * count_field before) ∷ []) (old ∙ sym (words_met before m))
          ∙ ap (λ v. words_of before ++ v ∷ []) (ap (le64 after) (sym is) ∙ new);
      changes = record {
        same_length = longer ∙ long;
        between = λ k l h. low k l (omega arith);
        behind = λ k h. rest.behind k (omega arith) ∙ others.behind k (omega arith);
      };
    }

-- what the emptying of the list ensures
pub record Emptied (before after : List ℕ) : Type 0 where
  pub kept : capacity_of after ≡ capacity_of before
  pub words : words_of after ≡ []
  pub changes : EmptyChanges before after

pub emptied : (before after : List ℕ) → MeetsRule before → count_field after ≡ 0 → SameOutside before after 0 4 → length after ≡ length before → Emptied before after
emptied before after m count rest long =
    let kept = rule_kept before after m long (omega arith) (λ k l h. rest.behind k (omega arith)) in
    record {
      kept = capacity_met after kept.0 ∙ kept.1 ∙ sym (capacity_met before m);
      words = words_met after kept.0 ∙ ap (λ k. words_at after (first_field after) k) count;
      changes = record {
        same_length = long;
        behind_count = λ k h. rest.behind k (omega arith);
        against_rule = λ against. absurd (against m);
      };
    }
