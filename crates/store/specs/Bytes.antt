-- Little-endian numbers in a list of bytes, and what a write to some of the bytes leaves.
use Rattle.std.specs.Prelude.{◌≡◌, ℕ, zero, suc, ◌+◌, ◌*◌, ◌<◌, ◌≤◌, List, length, slice_index}

-- the little-endian number of the n bytes from `at` on
unfoldable pub le : ℕ → List ℕ → ℕ → ℕ
le zero xs at = 0
le (suc n) xs at = slice_index xs at + 256 * le n xs (at + 1)

-- the 32-bit number at `at`
abbrev pub le32 : List ℕ → ℕ → ℕ
le32 xs at = le 4 xs at

-- the 64-bit number at `at`
abbrev pub le64 : List ℕ → ℕ → ℕ
le64 xs at = le 8 xs at

-- every byte outside the n from `at` on is as before
pub record SameOutside (before after : List ℕ) (at n : ℕ) : Type 0 where
  pub in_front : (k : ℕ) → k < at → slice_index after k ≡ slice_index before k
  pub behind : (k : ℕ) → at + n ≤ k → slice_index after k ≡ slice_index before k

-- the bytes stand from `at` on, and every other byte is as before
pub record Written (before after : List ℕ) (at : ℕ) (bytes : List ℕ) : Type 0 where
  pub there : (j : ℕ) → j < length bytes → slice_index after (at + j) ≡ slice_index bytes j
  pub elsewhere : SameOutside before after at (length bytes)
