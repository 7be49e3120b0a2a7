-- Sorted lists of pairs of a key and a value: what a table holds, what its calls answer and what they leave.
use Rattle.std.specs.Prelude.{◌≡◌, Bool, true, false, cond, not, ◌&&◌, ◌||◌, List, [], ◌∷◌, length, Some, None, Option, nat_lt}
use Rattle.table.specs.declared.node.Entry.{Entry}

abbrev pub Each : {A : Type 0} → (A → Type 0) → List A → Type 0
Each P [] = Unit {0}
Each P (x ∷ xs) = P x × Each P xs

abbrev pub pair : {K V : Type 0} → K → V → Entry K V
pair key value = record { key = key; value = value }

-- each key comes before all that follow it
abbrev pub Ordered : {K V : Type 0} → (K → K → Bool) → List (Entry K V) → Type 0
Ordered before [] = Unit {0}
Ordered before (x ∷ xs) = Each (λ y. before x.key y.key ≡ true) xs × Ordered before xs

-- neither of two keys comes before the other, so that they are equal
abbrev pub alike : {K : Type 0} → (K → K → Bool) → K → K → Bool
alike before a b = not (before a b) && not (before b a)

-- whether a key is there
abbrev pub has : {K V : Type 0} → (K → K → Bool) → K → List (Entry K V) → Bool
has before key [] = false
has before key (x ∷ xs) = alike before key x.key || has before key xs

-- the value of a key
abbrev pub find : {K V : Type 0} → (K → K → Bool) → K → List (Entry K V) → Option V
find before key [] = None
find before key (x ∷ xs) = cond (alike before key x.key) (Some x.value) (find before key xs)

-- a list with one more pair, in front of the first that its key comes before
abbrev pub put : {K V : Type 0} → (K → K → Bool) → Entry K V → List (Entry K V) → List (Entry K V)
put before x [] = x ∷ []
put before x (y ∷ ys) = cond (before x.key y.key) (x ∷ y ∷ ys) (y ∷ put before x ys)

-- a list without the pair of a key
abbrev pub without : {K V : Type 0} → (K → K → Bool) → K → List (Entry K V) → List (Entry K V)
without before key [] = []
without before key (y ∷ ys) = cond (alike before key y.key) ys (y ∷ without before key ys)

-- the pairs whose keys come before a key, and those whose keys do not
abbrev pub under : {K V : Type 0} → (K → K → Bool) → K → List (Entry K V) → List (Entry K V)
under before key [] = []
under before key (y ∷ ys) = cond (before y.key key) (y ∷ under before key ys) (under before key ys)

abbrev pub from : {K V : Type 0} → (K → K → Bool) → K → List (Entry K V) → List (Entry K V)
from before key [] = []
from before key (y ∷ ys) = cond (before y.key key) (from before key ys) (y ∷ from before key ys)

abbrev pub first : {A : Type 0} → List A → Option A
first [] = None
first (x ∷ xs) = Some x

abbrev pub last : {A : Type 0} → List A → Option A
last [] = None
last (x ∷ []) = Some x
last (x ∷ y ∷ ys) = last (y ∷ ys)

-- A pair goes in where its key is not there and fewer than 1,024 pairs are; otherwise all stays as it was.
pub record Inserts {K V : Type 0} (before : K → K → Bool) (ps qs : List (Entry K V)) (x : Entry K V) (took : Bool) : Type 0 where
  pub takes : took ≡ not (has before x.key ps) && nat_lt (length ps) 1024
  pub leaves : qs ≡ cond took (put before x ps) ps

-- The pair of a key is taken out, and its value answered; nothing where the key is not there.
pub record Removes {K V : Type 0} (before : K → K → Bool) (ps qs : List (Entry K V)) (key : K) (r : Option V) : Type 0 where
  pub answers : r ≡ find before key ps
  pub leaves : qs ≡ without before key ps

-- each other key lies on the same side of both keys
abbrev pub same_side : {K V : Type 0} → (K → K → Bool) → K → K → List (Entry K V) → Bool
same_side before key new [] = true
same_side before key new (y ∷ ys) = (alike before key y.key || cond (before y.key key) (before y.key new) (before new y.key)) && same_side before key new ys

-- The pair of a key gives way to another pair, where each other key lies on the same side of both; otherwise all stays as it was.
pub record Replaces {K V : Type 0} (before : K → K → Bool) (ps qs : List (Entry K V)) (key : K) (x : Entry K V) (took : Bool) : Type 0 where
  pub takes : took ≡ has before key ps && same_side before key x.key ps
  pub leaves : qs ≡ cond took (put before x (without before key ps)) ps
