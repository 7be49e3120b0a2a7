-- The image of a store in an area of bytes: the header, the rule that it meets, the words and the capacity.
use Rattle.std.specs.Prelude.{◌≡◌, ℕ, zero, suc, ◌+◌, ◌-◌, ◌*◌, ◌/◌, ◌^◌, ◌<◌, ◌≤◌, min, Bool, true, false, cond, ◌&&◌, List, [], ◌∷◌, length, ◌==◌, nat_le, nat_lt, refl}
use Rattle.std.proofs.Common.{ap, arith}
use Rattle.std.proofs.lemmas.Bool.{and_parts, leb-true, ltb-true, eqb-true}
use Rattle.store.specs.Bytes.{le32, le64}

-- the bytes of the header
abbrev pub header_bytes : ℕ
header_bytes = 16

-- the most places that formatting gives an area
abbrev pub most_places : ℕ
most_places = 1048576

-- the places that formatting gives an area of n bytes: those that fit behind the header, and at most the limit
abbrev pub places_for : ℕ → ℕ
places_for n = min ((n - header_bytes) / 8) most_places

-- the four numbers of the header
abbrev pub count_field : List ℕ → ℕ
count_field area = le32 area 0

abbrev pub capacity_field : List ℕ → ℕ
capacity_field area = le32 area 4

-- the offset of the first word
abbrev pub first_field : List ℕ → ℕ
first_field area = le32 area 8

-- the offset just behind the last place
abbrev pub end_field : List ℕ → ℕ
end_field area = le32 area 12

-- the header rule
pub record MeetsRule (area : List ℕ) : Type 0 where
  pub has_header : header_bytes ≤ length area
  pub first_behind_header : header_bytes ≤ first_field area
  pub end_behind_places : end_field area ≡ first_field area + 8 * capacity_field area
  pub end_within_area : end_field area ≤ length area
  pub count_within_capacity : count_field area ≤ capacity_field area
  -- So it is of every area of a program, whose bytes are below 256. Here an area is a list of numbers without a bound,
  -- and a store's capacity has to be below 2 ^ 64 for each.
  pub capacity_in_32_bits : capacity_field area < 2 ^ 32

-- the rule of the four numbers as a test, at an area of n bytes
abbrev pub fits_test : ℕ → ℕ → ℕ → ℕ → ℕ → Bool
fits_test count capacity first end n = nat_le header_bytes first && (end == first + 8 * capacity && (nat_le end n && nat_le count capacity))

-- the header rule as a test
abbrev pub meets_rule : List ℕ → Bool
meets_rule area = nat_le header_bytes (length area) && (nat_lt (capacity_field area) (2 ^ 32) && fits_test (count_field area) (capacity_field area) (first_field area) (end_field area) (length area))

-- the n words that lie one behind another from `at` on, 8 bytes each
abbrev pub words_at : List ℕ → ℕ → ℕ → List ℕ
words_at area at zero = []
words_at area at (suc n) = le64 area at ∷ words_at area (at + 8) n

-- the words of any area: an area against the rule has none
abbrev pub words_of : List ℕ → List ℕ
words_of area = cond (meets_rule area) (words_at area (first_field area) (count_field area)) []

-- the capacity of any area: an area against the rule has no place
abbrev pub capacity_of : List ℕ → ℕ
capacity_of area = cond (meets_rule area) (capacity_field area) 0

-- the test says the rule
pub rule_met : (area : List ℕ) → meets_rule area ≡ true → MeetsRule area
rule_met area e =
    let p = and_parts (nat_le header_bytes (length area)) _ e in
    let q = and_parts (nat_lt (capacity_field area) (2 ^ 32)) _ p.1 in
    let r = and_parts (nat_le header_bytes (first_field area)) _ q.1 in
    let s = and_parts (end_field area == first_field area + 8 * capacity_field area) _ r.1 in
    let t = and_parts (nat_le (end_field area) (length area)) _ s.1 in
    record {
      has_header = leb-true _ _ p.0;
      first_behind_header = leb-true _ _ r.0;
      end_behind_places = eqb-true _ _ s.0;
      end_within_area = leb-true _ _ t.0;
      count_within_capacity = leb-true _ _ t.1;
      capacity_in_32_bits = ltb-true _ _ q.0;
    }

pub length_words_at : (area : List ℕ) (at n : ℕ) → length (words_at area at n) ≡ n
length_words_at area at zero = refl
length_words_at area at (suc n) = ap suc (length_words_at area (at + 8) n)

bounded_by : (met : Bool) (area : List ℕ) → (met ≡ true → MeetsRule area) → length (cond met (words_at area (first_field area) (count_field area)) []) ≤ cond met (capacity_field area) 0
bounded_by true area rule = omega (arith, (rule refl).count_within_capacity, length_words_at area (first_field area) (count_field area))
bounded_by false area rule = omega arith

fits_by : (met : Bool) (area : List ℕ) → (met ≡ true → MeetsRule area) → cond met (capacity_field area) 0 < 2 ^ 64
fits_by true area rule = omega (arith, (rule refl).capacity_in_32_bits)
fits_by false area rule = omega arith

-- the words of an area have places
pub image_bounded : (area : List ℕ) → length (words_of area) ≤ capacity_of area
image_bounded area = bounded_by (meets_rule area) area (rule_met area)

pub image_fits : (area : List ℕ) → capacity_of area < 2 ^ 64
image_fits area = fits_by (meets_rule area) area (rule_met area)
