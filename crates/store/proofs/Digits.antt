-- A little-endian number of any width: it is read as it was written, and a write elsewhere leaves it.
use Rattle.std.proofs.Common.{◌≡◌, ℕ, zero, suc, ◌+◌, ◌*◌, ◌/◌, ◌%◌, ◌^◌, ◌<◌, ◌≤◌, List, [], ◌∷◌, length, get_or, take, drop, sym, refl, ap, ◌∙◌, subst, add_assoc, arith, rules}
use native.Mathlib.Nat.{mod-add-div, div-div-eq-div-mul, pow-succ'}
use borrow.Rule.Slice.PartMut.{put_mid}
use Rattle.std.proofs.lemmas.List.{places, get_or-take, get_or-drop}
use Rattle.store.specs.Bytes.{le, SameOutside, Written}

-- the number of the digits, in base 256 and the lowest first
abbrev number : List ℕ → ℕ
number [] = 0
number (d ∷ ds) = d + 256 * number ds

-- the n digits of v / k
abbrev pub digits : ℕ → ℕ → ℕ → List ℕ
digits zero k v = []
digits (suc n) k v = (v / k % 256) ∷ digits n (k * 256) v

length_digits : (n k v : ℕ) → length (digits n k v) ≡ n
length_digits zero k v = refl
length_digits (suc n) k v = ap suc (length_digits n (k * 256) v)

number_digits : (n k v : ℕ) → v / k < 256 ^ n → number (digits n k v) ≡ v / k
number_digits zero k v h = omega arith
number_digits (suc n) k v h =
    let more : 256 ^ suc n ≡ 256 * 256 ^ n = pow-succ' 256 n in
    let next : v / k / 256 ≡ v / (k * 256) = div-div-eq-div-mul v k 256 in
    let rest : number (digits n (k * 256) v) ≡ v / (k * 256) = number_digits n (k * 256) v (omega arith) in
    omega (arith, mod-add-div (v / k) 256)

-- the same place, said by two numbers
moved_to : (xs : List ℕ) {i j : ℕ} → i ≡ j → get_or xs i 0 ≡ get_or xs j 0
moved_to xs e = ap (λ k. get_or xs k 0) e

-- the bytes that lie from `at` on have their number
le_number : (ds area : List ℕ) (at : ℕ) → ((j : ℕ) → j < length ds → get_or area (at + j) 0 ≡ get_or ds j 0) → le (length ds) area at ≡ number ds
unfolding le
le_number [] area at same = refl
le_number (d ∷ ds) area at same =
    let here : get_or area at 0 ≡ d = moved_to area (omega arith) ∙ same 0 (omega arith) in
    let rest : le (length ds) area (at + 1) ≡ number ds = le_number ds area (at + 1) (λ j below. moved_to area (omega arith) ∙ same (suc j) (omega arith)) in
    omega arith

-- the bytes that stand for a number in a program have that number
pub le_bytes : (n v : ℕ) (bytes : List ℕ) → bytes ≡ (v % 256) ∷ digits n 256 v → v < 256 ^ suc n → le (suc n) bytes 0 ≡ v
le_bytes n v bytes is small =
    let more : 256 ^ suc n ≡ 256 * 256 ^ n = pow-succ' 256 n in
    let long : length bytes ≡ suc n = ap length is ∙ ap suc (length_digits n 256 v) in
    let high : number (digits n 256 v) ≡ v / 256 = number_digits n 256 v (omega arith) in
    let all : number bytes ≡ v = ap number is ∙ omega (arith, mod-add-div v 256) in
    ap (λ w. le w bytes 0) (sym long) ∙ le_number bytes bytes 0 (λ j below. moved_to bytes (omega arith)) ∙ all

-- a number whose bytes are the same at two places is the same
pub le_moved : (n at place : ℕ) (before after : List ℕ) → ((j : ℕ) → j < n → get_or after (place + j) 0 ≡ get_or before (at + j) 0) → le n after place ≡ le n before at
unfolding le
le_moved zero at place before after same = refl
le_moved (suc n) at place before after same =
    let here : get_or after place 0 ≡ get_or before at 0 = moved_to after (omega arith) ∙ same 0 (omega arith) ∙ moved_to before (omega arith) in
    let rest : le n after (place + 1) ≡ le n before (at + 1) =
    le_moved n (at + 1) (place + 1) before after (λ j below. moved_to after (omega arith) ∙ same (suc j) (omega arith) ∙ moved_to before (omega arith)) in
    omega arith

pub le_same : (n at : ℕ) (before after : List ℕ) → ((k : ℕ) → at ≤ k → k < at + n → get_or after k 0 ≡ get_or before k 0) → le n after at ≡ le n before at
le_same n at before after same = le_moved n at at before after (λ j below. same (at + j) (omega arith) (omega arith))

-- so is the number of bytes that are taken out of an area
pub le_taken : (n at k : ℕ) (area part : List ℕ) → k ≡ n → part ≡ take k (drop at area) → le n part 0 ≡ le n area at
le_taken n at k area part size is =
    le_moved n at 0 area part (λ j below. moved_to part (omega arith) ∙ ap (λ l. get_or l j 0) is ∙ get_or-take k (drop at area) j 0 (omega arith) ∙ get_or-drop at area j 0)

-- and of bytes that are written
pub le_put : (n at : ℕ) (before after bytes : List ℕ) → length bytes ≡ n → Written before after at bytes → le n after at ≡ le n bytes 0
le_put n at before after bytes long written = le_moved n 0 at bytes after (λ j below. written.there j (omega arith) ∙ moved_to bytes (omega arith))

-- a number whose digits were written is read again
pub le_written : (n v at : ℕ) (before after bytes : List ℕ) → bytes ≡ (v % 256) ∷ digits n 256 v → v < 256 ^ suc n → Written before after at bytes → le (suc n) after at ≡ v
le_written n v at before after bytes is small written =
    let long : length bytes ≡ suc n = ap length is ∙ ap suc (length_digits n 256 v) in
    le_put (suc n) at before after bytes long written ∙ le_bytes n v bytes is small

pub outside : (n at : ℕ) (before after bytes : List ℕ) → length bytes ≡ n → Written before after at bytes → SameOutside before after at n
outside n at before after bytes long written = subst (λ (w : ℕ). SameOutside before after at w) long written.elsewhere

-- the number of 4 bytes, and that of 8, as the sum that a read of them gives
pub le_four : (area : List ℕ) (at : ℕ) → le 4 area at ≡ get_or area at 0 + get_or area (at + 1) 0 * 256 + get_or area (at + 2) 0 * 65536 + get_or area (at + 3) 0 * 16777216
unfolding le
le_four area at = simp add_assoc (omega arith)

pub le_eight : (area : List ℕ) (at : ℕ) → le 8 area at ≡ get_or area at 0 + get_or area (at + 1) 0 * 256 + get_or area (at + 2) 0 * 65536 + get_or area (at + 3) 0 * 16777216 + get_or area (at + 4) 0 * 4294967296 + get_or area (at + 5) 0 * 1099511627776 + get_or area (at + 6) 0 * 281474976710656 + get_or area (at + 7) 0 * 72057594037927936
unfolding le
le_eight area at = simp add_assoc (omega arith)

-- a write to a part of the area
module _ (at k : ℕ) (area bytes part : List ℕ) (size : k ≡ length bytes) (is : part ≡ bytes) (room : at + length bytes ≤ length area) where
  long : length part ≡ k
  long = ap length is ∙ sym size

  there : (j : ℕ) → j < length bytes → get_or (put_mid at k area part) (at + j) 0 ≡ get_or bytes j 0
  there j h = (let l = long in search (rules, places)) ∙ ap (λ l. get_or l j 0) is

  in_front : (j : ℕ) → j < at → get_or (put_mid at k area part) j 0 ≡ get_or area j 0
  in_front j h = let l = long in search (rules, places)

  behind : (j : ℕ) → at + length bytes ≤ j → get_or (put_mid at k area part) j 0 ≡ get_or area j 0
  behind j h = let l = long in search (rules, places)

  pub overwritten : Written area (put_mid at k area part) at bytes
  overwritten = record { there = there; elsewhere = record { in_front = in_front; behind = behind } }

-- a write behind a number leaves it
pub le_apart : (n at : ℕ) (before after : List ℕ) (place size : ℕ) → SameOutside before after place size → at + n ≤ place → le n after at ≡ le n before at
le_apart n at before after place size same apart = le_same n at before after (λ k low high. same.in_front k (omega arith))
