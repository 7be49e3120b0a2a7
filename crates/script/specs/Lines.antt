-- The lines of a script: a letter, then each number after one space.
use Rattle.std.specs.Prelude.{◌≡◌, ℕ, ◌+◌, ◌≤◌, cond, List, [], ◌∷◌, ◌++◌, length, Ok, Err, Result, ◌==◌, nat_le, slice_index}
use Rattle.slab_log.specs.declared.refusal.Refusal.{Refusal}
use Rattle.slab_log.specs.declared.refusal.Refusal.TheVariants.{BadLine}
use Rattle.script.specs.declared.command.Command.{Command}
use Rattle.script.specs.declared.command.Command.TheVariants.{Size, Allocate, Free, Condense, Figures, Reload}
use Rattle.script.specs.declared.number.Number.{Number}
use Rattle.script.specs.Numbers.{most_digits, front_digits, value, number_at}

-- the most bytes of a line before its line feed
abbrev pub longest_line : ℕ
longest_line = 64

-- the number after one space, at a place of the line
abbrev pub spaced_at : List ℕ → ℕ → Result Number Refusal
spaced_at line at = cond (slice_index line at == 32) (number_at line (at + 1)) (Err BadLine)

-- the command of a line that ends at a place
abbrev pub ended : List ℕ → ℕ → Command → Result Command Refusal
ended line at command = cond (at == length line) (Ok command) (Err BadLine)

abbrev pub one_number : (ℕ → Command) → List ℕ → Result Command Refusal
one_number make line = elim (spaced_at line 1) [ Ok n ↦ ended line n.end (make n.value) | Err e ↦ Err e ]

abbrev pub extent_numbers : List ℕ → Result Command Refusal
extent_numbers line =
    elim (spaced_at line 1) [
      | Ok start ↦
          elim (spaced_at line start.end) [ Ok n ↦ ended line n.end (Free start.value n.value) | Err e ↦ Err e ]
      | Err e ↦ Err e
    ]

-- the rest of the line by its letter
abbrev pub by_letter : ℕ → List ℕ → Result Command Refusal
by_letter letter line =
    cond (letter == 115) (one_number Size line)
    (cond (letter == 97) (one_number Allocate line)
    (cond (letter == 102) (extent_numbers line)
    (cond (letter == 99) (ended line 1 Condense)
    (cond (letter == 113) (ended line 1 Figures)
    (cond (letter == 114) (ended line 1 Reload) (Err BadLine))))))

-- what a line asks for, or refusal 12
abbrev pub command_of : List ℕ → Result Command Refusal
command_of line = cond (nat_le (length line) longest_line) (by_letter (slice_index line 0) line) (Err BadLine)

-- 1 to 10 digits
pub record Digits (ds : List ℕ) : Type 0 where
  pub some : 1 ≤ length ds
  pub most : length ds ≤ most_digits
  pub digits : front_digits ds ≡ ds

-- the text of each command: its letter, then each number after one space
pub data Writes : Command → List ℕ → Type 0 where
  size : {ds : List ℕ} → Digits ds → Writes (Size (value ds)) (115 ∷ 32 ∷ ds)
  allocate : {ds : List ℕ} → Digits ds → Writes (Allocate (value ds)) (97 ∷ 32 ∷ ds)
  free : {ds es : List ℕ} → Digits ds → Digits es → Writes (Free (value ds) (value es)) (102 ∷ 32 ∷ ds ++ (32 ∷ es))
  condense : Writes Condense (99 ∷ [])
  figures : Writes Figures (113 ∷ [])
  reload : Writes Reload (114 ∷ [])

-- a line asks for a command exactly when it is a text of that command
abbrev pub LinesAreTexts : Type 0
LinesAreTexts =
    (line : List ℕ) (command : Command)
    → (command_of line ≡ Ok command → Writes command line) × (Writes command line → command_of line ≡ Ok command)
