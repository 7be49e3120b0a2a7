-- A line asks for a command exactly when it is a text of that command.
use Rattle.std.proofs.Common.{◌≡◌, ℕ, ◌+◌, ◌<◌, ◌≤◌, Bool, true, false, cond, eqb, leb, ◌⊎◌, List, [], ◌∷◌, ◌++◌, length, get_or, drop, Ok, Err, Result, sym, refl, ap, ◌∙◌, inl, inr, arith}
use Rattle.std.proofs.lemmas.List.{append-nil, length-append, drop-drop, drop_more, drop_all, drop_at, get_or_at, get_or_past}
use Rattle.std.proofs.lemmas.Bool.{cases_lt, leb-true, le-leb, eqb-true, eq-eqb, and_parts, and_from, cond-true}
use Rattle.slab_log.specs.declared.refusal.Refusal.{Refusal}
use Rattle.slab_log.specs.declared.refusal.Refusal.TheVariants.{BadLine}
use Rattle.script.specs.declared.command.Command.{Command}
use Rattle.script.specs.declared.command.Command.TheVariants.{Size, Allocate, Free, Condense, Figures, Reload}
use Rattle.script.specs.declared.number.Number.{Number}
use Rattle.script.specs.Numbers.{is_digit, front_digits, value, counted, number_of, number_at}
use Rattle.script.proofs.Digits.{behind, front_again, front_split}
use Rattle.script.specs.Lines.{spaced_at, ended, one_number, extent_numbers, by_letter, command_of}
use Rattle.script.specs.Lines.{Digits, Writes, LinesAreTexts}
use Rattle.script.specs.Lines.Writes.{size, allocate, free, condense, figures, reload}

-- a test that lets a result through
cond_ok : {A E : Type 0} (b : Bool) (r : Result A E) (e : E) (x : A) → cond b r (Err e) ≡ Ok x → (b ≡ true) × (r ≡ Ok x)
cond_ok true r e x h = (refl, h)
cond_ok false r e x h = (cc, cc)

cond_split : {A : Type 0} {P : Type 0} (b : Bool) (x y z : A) → (b ≡ true → x ≡ z → P) → (y ≡ z → P) → cond b x y ≡ z → P
cond_split true x y z f g h = f refl h
cond_split false x y z f g h = g h

-- a result that was gone on with
then_ok : {A B E : Type 0} (r : Result A E) (f : A → Result B E) (y : B)
    → ◌≡◌ {A = Result B E} (elim r [ Ok n ↦ f n | Err e ↦ Err e ]) (Ok y) → (n : A) × (r ≡ Ok n) × (f n ≡ Ok y)
then_ok (Ok n) f y h = (n, refl, h)
then_ok (Err e) f y h = let z : ◌≡◌ {A = ℕ} 0 1 = cc in absurd (omega arith)

-- digits before a byte that is none
front_stops : (ds es : List ℕ) (b : ℕ) → is_digit b ≡ false → front_digits ds ≡ ds → front_digits (ds ++ (b ∷ es)) ≡ ds
front_stops [] es b n h = rw n
front_stops (d ∷ ds) es b n h = go (is_digit d) h (front_stops ds es b n)
  where
    go : (t : Bool) → cond t (d ∷ front_digits ds) [] ≡ d ∷ ds → (front_digits ds ≡ ds → front_digits (ds ++ (b ∷ es)) ≡ ds)
        → cond t (d ∷ front_digits (ds ++ (b ∷ es))) [] ≡ d ∷ ds
    go true k f = let same : front_digits ds ≡ ds = cc in behind d (f same)
    go false k f = k

-- the text of a number that was read, and what stands behind it
record Found (line : List ℕ) (from : ℕ) (n : Number) : Type 0 where
  text : List ℕ
  digits : Digits text
  means : n.value ≡ value text
  rest : drop from line ≡ text ++ drop n.end line

number_found : (line : List ℕ) (from : ℕ) (n : Number) → number_at line from ≡ Ok n → Found line from n
number_found line from n h =
    let ds : List ℕ = front_digits (drop from line) in
    let found : Number = record { value = value ds; end = from + length ds } in
    let p = cond_ok (counted (length ds)) (Ok found) BadLine n h in
    let q = and_parts (leb 1 (length ds)) (leb (length ds) 10) p.0 in
    let known : ◌≡◌ {A = Result Number Refusal} (Ok found) (Ok n) = p.1 in
    let same : found ≡ n = cc in
    record {
      text = ds;
      digits = record {
        some = leb-true 1 (length ds) q.0;
        most = leb-true (length ds) 10 q.1;
        digits = front_again (drop from line);
      };
      means = ap (λ (m : Number). m.value) (sym same);
      rest =
          front_split (drop from line) ∙ ap (λ (bs : List ℕ). ds ++ bs) (drop-drop (length ds) from line)
          ∙ ap (λ (m : Number). ds ++ drop m.end line) same;
    }

-- what stands from a place on, where its byte is not 0
byte_first : (line : List ℕ) (at b : ℕ) → 0 < b → get_or line at 0 ≡ b → drop at line ≡ b ∷ drop (at + 1) line
byte_first line at b h e = go (cases_lt at (length line))
  where
    go : ((at < length line) ⊎ (length line ≤ at)) → drop at line ≡ b ∷ drop (at + 1) line
    go (inl l) = drop_more line at 0 l ∙ ap (λ (x : ℕ). x ∷ drop (at + 1) line) e
    go (inr l) = absurd (omega (arith, get_or_past line at 0 l))

-- the same with the space before it
record Spaced (line : List ℕ) (at : ℕ) (n : Number) : Type 0 where
  text : List ℕ
  digits : Digits text
  means : n.value ≡ value text
  rest : drop at line ≡ 32 ∷ (text ++ drop n.end line)

spaced_found : (line : List ℕ) (at : ℕ) (n : Number) → spaced_at line at ≡ Ok n → Spaced line at n
spaced_found line at n h =
    let p = cond_ok (eqb (get_or line at 0) 32) (number_at line (at + 1)) BadLine n h in
    let f = number_found line (at + 1) n p.1 in
    let first = byte_first line at 32 (omega arith) (eqb-true (get_or line at 0) 32 p.0) in
    record { text = f.text; digits = f.digits; means = f.means; rest = first ∙ behind 32 f.rest }

ended_found : (line : List ℕ) (at : ℕ) (command given : Command) → ended line at command ≡ Ok given
    → (drop at line ≡ []) × (command ≡ given)
ended_found line at command given h =
    let p = cond_ok (eqb at (length line)) (Ok command) BadLine given h in
    let known : ◌≡◌ {A = Result Command Refusal} (Ok command) (Ok given) = p.1 in
    let e = eqb-true at (length line) p.0 in
    (drop_all at line (omega arith), cc)

moved : (c d : Command) (l k : List ℕ) → l ≡ k → d ≡ c → Writes d k → Writes c l
moved c d l k p q w = rw (p, ← q) w

-- a letter and the end
bare_found : (line : List ℕ) (letter : ℕ) (command given : Command) → Writes command (letter ∷ []) → 0 < letter
    → get_or line 0 0 ≡ letter → ended line 1 command ≡ Ok given → Writes given line
bare_found line letter command given w some first h =
    let e = ended_found line 1 command given h in
    moved given command line (letter ∷ []) (byte_first line 0 letter some first ∙ behind letter e.0) e.1 w

-- a letter, one number, and the end
one_found : (line : List ℕ) (letter : ℕ) (make : ℕ → Command) (given : Command)
    → ((ds : List ℕ) → Digits ds → Writes (make (value ds)) (letter ∷ 32 ∷ ds)) → 0 < letter
    → get_or line 0 0 ≡ letter → one_number make line ≡ Ok given → Writes given line
one_found line letter make given w some first h =
    let p = then_ok (spaced_at line 1) (λ n. ended line n.end (make n.value)) given h in
    let s = spaced_found line 1 p.0 p.1 in
    let e = ended_found line p.0.end (make p.0.value) given p.2 in
    let last = ap (λ (bs : List ℕ). s.text ++ bs) e.0 ∙ append-nil s.text in
    let whole = byte_first line 0 letter some first ∙ behind letter (s.rest ∙ behind 32 last) in
    moved given (make (value s.text)) line (letter ∷ 32 ∷ s.text) whole (ap make (sym s.means) ∙ e.1)
    (w s.text s.digits)

-- what follows the first number of an extent
abbrev extent_behind : List ℕ → Number → Result Command Refusal
extent_behind line m = elim (spaced_at line m.end) [ Ok n ↦ ended line n.end (Free m.value n.value) | Err e ↦ Err e ]

-- the letter f, two numbers, and the end
two_found : (line : List ℕ) (given : Command) → get_or line 0 0 ≡ 102 → extent_numbers line ≡ Ok given → Writes given line
two_found line given first h =
    let p = then_ok (spaced_at line 1) (extent_behind line) given h in
    let q = then_ok (spaced_at line p.0.end) (λ n. ended line n.end (Free p.0.value n.value)) given p.2 in
    let s = spaced_found line 1 p.0 p.1 in
    let t = spaced_found line p.0.end q.0 q.1 in
    let e = ended_found line q.0.end (Free p.0.value q.0.value) given q.2 in
    let last = ap (λ (bs : List ℕ). t.text ++ bs) e.0 ∙ append-nil t.text in
    let tail = ap (λ (bs : List ℕ). s.text ++ bs) (t.rest ∙ behind 32 last) in
    let whole = byte_first line 0 102 (omega arith) first ∙ behind 102 (s.rest ∙ behind 32 tail) in
    let start = ap (λ (v : ℕ). Free v (value t.text)) (sym s.means) in
    let count = ap (λ (v : ℕ). Free p.0.value v) (sym t.means) in
    moved given (Free (value s.text) (value t.text)) line (102 ∷ 32 ∷ s.text ++ (32 ∷ t.text)) whole (start ∙ count ∙ e.1)
    (free s.digits t.digits)

letter_found : (line : List ℕ) (given : Command) (b : ℕ) → get_or line 0 0 ≡ b → by_letter b line ≡ Ok given → Writes given line
letter_found line given b first =
    let at : (k : ℕ) → eqb b k ≡ true → get_or line 0 0 ≡ k = λ k t. first ∙ eqb-true b k t in
    cond_split (eqb b 115) _ _ (Ok given) (λ t. one_found line 115 Size given (λ ds g. size g) (omega arith) (at 115 t))
    (cond_split (eqb b 97) _ _ (Ok given) (λ t. one_found line 97 Allocate given (λ ds g. allocate g) (omega arith) (at 97 t))
    (cond_split (eqb b 102) _ _ (Ok given) (λ t. two_found line given (at 102 t))
    (cond_split (eqb b 99) _ _ (Ok given) (λ t. bare_found line 99 Condense given condense (omega arith) (at 99 t))
    (cond_split (eqb b 113) _ _ (Ok given) (λ t. bare_found line 113 Figures given figures (omega arith) (at 113 t))
    (cond_split (eqb b 114) _ _ (Ok given) (λ t. bare_found line 114 Reload given reload (omega arith) (at 114 t))
    (λ e. let z : ◌≡◌ {A = ℕ} 0 1 = cc in absurd (omega arith)))))))

text_found : (line : List ℕ) (given : Command) → command_of line ≡ Ok given → Writes given line
text_found line given h =
    let p = cond_ok (leb (length line) 64) (by_letter (get_or line 0 0) line) BadLine given h in
    letter_found line given (get_or line 0 0) refl p.1

-- the way back: each text is read
number_read : (line ds : List ℕ) (from : ℕ) → front_digits (drop from line) ≡ ds → Digits ds
    → number_at line from ≡ Ok (record { value = value ds; end = from + length ds })
number_read line ds from e g =
    let some = le-leb 1 (length ds) g.some in
    let most = le-leb (length ds) 10 g.most in
    ap (number_of from) e ∙ cond-true (counted (length ds)) _ _ (and_from _ _ some most)

ended_read : (line : List ℕ) (at : ℕ) (command : Command) → at ≡ length line → ended line at command ≡ Ok command
ended_read line at command e = cond-true (eqb at (length line)) (Ok command) (Err BadLine) (eq-eqb at (length line) e)

then_read : {A B E : Type 0} (r : Result A E) (f : A → Result B E) (n : A) → r ≡ Ok n
    → ◌≡◌ {A = Result B E} (elim r [ Ok n ↦ f n | Err e ↦ Err e ]) (f n)
then_read {A} {B} {E} r f n h = ap (λ (r : Result A E). elim r as (λ _. Result B E) [ Ok n ↦ f n | Err e ↦ Err e ]) h

one_read : (letter : ℕ) (make : ℕ → Command) (ds : List ℕ) → Digits ds → one_number make (letter ∷ 32 ∷ ds) ≡ Ok (make (value ds))
one_read letter make ds g =
    let line : List ℕ = letter ∷ 32 ∷ ds in
    then_read (spaced_at line 1) (λ n. ended line n.end (make n.value)) _ (number_read line ds 2 g.digits g)
    ∙ ended_read line (2 + length ds) (make (value ds)) (omega arith)

two_read : (ds es : List ℕ) → Digits ds → Digits es → extent_numbers (102 ∷ 32 ∷ ds ++ (32 ∷ es)) ≡ Ok (Free (value ds) (value es))
two_read ds es g h =
    let line : List ℕ = 102 ∷ 32 ∷ ds ++ (32 ∷ es) in
    let at : ℕ = 2 + length ds in
    let size : length (102 ∷ 32 ∷ ds) ≡ at = omega arith in
    let space : get_or line at 0 ≡ 32 = get_or_at (102 ∷ 32 ∷ ds) 32 es 0 at size in
    let here : drop at line ≡ 32 ∷ es = drop_at (102 ∷ 32 ∷ ds) (32 ∷ es) at size in
    let inside : at < length line = omega (arith, length-append ds (32 ∷ es)) in
    let more : drop at line ≡ get_or line at 0 ∷ drop (at + 1) line = drop_more line at 0 inside in
    let tail : drop (at + 1) line ≡ es = cc in
    let first = number_read line ds 2 (front_stops ds es 32 refl g.digits) g in
    let second : spaced_at line at ≡ Ok (record { value = value es; end = at + 1 + length es }) =
    cond-true (eqb (get_or line at 0) 32) _ _ (eq-eqb (get_or line at 0) 32 space)
    ∙ number_read line es (at + 1) (ap front_digits tail ∙ h.digits) h in
    then_read (spaced_at line 1) (extent_behind line) _ first
    ∙ then_read (spaced_at line at) (λ n. ended line n.end (Free (value ds) n.value)) _ second
    ∙ ended_read line (at + 1 + length es) (Free (value ds) (value es)) (omega (arith, length-append ds (32 ∷ es)))

short_read : (line : List ℕ) → length line ≤ 64 → command_of line ≡ by_letter (get_or line 0 0) line
short_read line h = cond-true (leb (length line) 64) _ _ (le-leb (length line) 64 h)

text_read : {command : Command} {line : List ℕ} → Writes command line → command_of line ≡ Ok command
text_read (size {ds} g) = short_read (115 ∷ 32 ∷ ds) (omega (arith, g.most)) ∙ one_read 115 Size ds g
text_read (allocate {ds} g) = short_read (97 ∷ 32 ∷ ds) (omega (arith, g.most)) ∙ one_read 97 Allocate ds g
text_read (free {ds} {es} g h) =
    short_read (102 ∷ 32 ∷ ds ++ (32 ∷ es)) (omega (arith, length-append ds (32 ∷ es), g.most, h.most)) ∙ two_read ds es g h
text_read condense = refl
text_read figures = refl
text_read reload = refl

pub lines_are_texts : LinesAreTexts
lines_are_texts line command = (text_found line command, text_read)
