-- The numbers of a script line.
use Rattle.std.specs.Prelude.{ℕ, ◌+◌, ◌-◌, ◌*◌, Bool, cond, ◌&&◌, List, [], ◌∷◌, length, drop, Ok, Err, Result, nat_le}
use Rattle.slab_log.specs.declared.refusal.Refusal.{Refusal}
use Rattle.slab_log.specs.declared.refusal.Refusal.TheVariants.{BadLine}
use Rattle.script.specs.declared.number.Number.{Number}

-- the most digits of a number
abbrev pub most_digits : ℕ
most_digits = 10

-- the bytes '0' to '9'
abbrev pub is_digit : ℕ → Bool
is_digit b = nat_le 48 b && nat_le b 57

-- the digits at the front of a list: they end at the first byte that is no digit, else at the list's end
abbrev pub front_digits : List ℕ → List ℕ
front_digits [] = []
front_digits (b ∷ bs) = cond (is_digit b) (b ∷ front_digits bs) []

-- what digits write in base ten, behind a number that other digits have written
abbrev pub value_after : ℕ → List ℕ → ℕ
value_after n [] = n
value_after n (d ∷ ds) = value_after (n * 10 + (d - 48)) ds

-- what digits write in base ten
abbrev pub value : List ℕ → ℕ
value ds = value_after 0 ds

-- whether a number may have so many digits
abbrev pub counted : ℕ → Bool
counted n = nat_le 1 n && nat_le n most_digits

-- the number of these digits, from a place on; or refusal 12
abbrev pub number_of : ℕ → List ℕ → Result Number Refusal
number_of from digits =
    cond (counted (length digits)) (Ok (record { value = value digits; end = from + length digits })) (Err BadLine)

-- the number whose digits begin at a place of the line
abbrev pub number_at : List ℕ → ℕ → Result Number Refusal
number_at line from = number_of from (front_digits (drop from line))
