-- Sets of sectors, extents and longest runs.
use Rattle.std.specs.Prelude.{◌≡◌, ℕ, zero, suc, ◌+◌, ◌<◌, ◌≤◌, Bool, false, cond, not, ◌&&◌, ◌||◌, T, List, [], ◌∷◌, nat_le, nat_lt}

-- a set of sectors, by its test
abbrev pub Sectors : Type 0
Sectors = ℕ → Bool

-- the sectors from start to start + len - 1
abbrev pub covers : ℕ → ℕ → Sectors
covers start len s = nat_le start s && nat_lt s (start + len)

-- the sectors of the extents of a list, each a start and a length
abbrev pub listed : List (ℕ × ℕ) → Sectors
listed [] s = false
listed (e ∷ es) s = covers e.0 e.1 s || listed es s

-- every sector of a slab
abbrev pub whole : ℕ → Sectors
whole size s = nat_lt s size

-- the sectors of a slab that are not free
abbrev pub used : ℕ → Sectors → Sectors
used size free s = nat_lt s size && not (free s)

-- no sector at or past the size is in the set
abbrev pub Within : ℕ → Sectors → Type 0
Within size set = (s : ℕ) → size ≤ s → ¬ T (set s)

-- a longest run of the set: it has a sector, and none of the set stands just before or after it
pub record Run (set : Sectors) (start len : ℕ) : Type 0 where
  pub some : 0 < len
  pub filled : (s : ℕ) → start ≤ s → s < start + len → T (set s)
  pub before : (p : ℕ) → p + 1 ≡ start → ¬ T (set p)
  pub after : ¬ T (set (start + len))

-- whether some sector of the extent is in the set
abbrev pub meets : Sectors → ℕ → ℕ → Bool
meets set start zero = false
meets set start (suc n) = set (start + n) || meets set start n

-- how many numbers below n pass the test
abbrev pub count : (ℕ → Bool) → ℕ → ℕ
count test zero = 0
count test (suc n) = cond (test n) (count test n + 1) (count test n)

-- whether a sector is the first of a longest run
abbrev pub begins : Sectors → ℕ → Bool
begins set zero = set zero
begins set (suc s) = set (suc s) && not (set s)

-- how many longest runs of the set begin below n
abbrev pub runs : Sectors → ℕ → ℕ
runs set n = count (begins set) n
