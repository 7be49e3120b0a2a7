-- The words of an extent: how many there are, and the word at each place.
use Rattle.std.proofs.Common.{◌≡◌, ℕ, zero, suc, ◌+◌, ◌-◌, ◌*◌, ◌<◌, ◌≤◌, min, Bool, true, false, leb, length, Some, None, refl, ap, ◌∙◌, arith}
use Rattle.std.proofs.lemmas.Option.{slice_get_past}
use Rattle.std.proofs.lemmas.Bool.{leb-true, leb-false}
use Rattle.std.specs.List.{slice_get}
use Rattle.slab_log.specs.Limits.{longest_run}
use Rattle.slab_log.specs.Words.{word_of, cut, entries, words_of}
use Rattle.slab_log.specs.declared.entry.Effect.{Effect}

-- as many words as entries
cut_length : (fuel : ℕ) (effect : Effect) (start len : ℕ) → 0 < len → fuel ≡ entries len → length (cut fuel effect start len) ≡ fuel
cut_length zero effect start len p h = refl
cut_length (suc fuel) effect start len p h = go (cut_length fuel effect (start + longest_run) (len - longest_run)) (leb len longest_run) refl
  where
    go : (0 < len - longest_run → fuel ≡ entries (len - longest_run) → length (cut fuel effect (start + longest_run) (len - longest_run)) ≡ fuel) →
        (b : Bool) → leb len longest_run ≡ b → length (cut (suc fuel) effect start len) ≡ suc fuel
    go rest true e = let l = leb-true len longest_run e in rw e (omega arith)
    go rest false e = let l = leb-false len longest_run e in rw e (ap suc (rest (omega arith) (omega arith)))

pub words_length : (effect : Effect) (start len : ℕ) → 0 < len → length (words_of effect start len) ≡ entries len
words_length effect start len p = cut_length (entries len) effect start len p refl

-- the word at each place below their number
cut_word : (fuel : ℕ) (effect : Effect) (start len n : ℕ) → fuel ≡ entries len → n < fuel →
    slice_get (cut fuel effect start len) n ≡ Some (word_of effect (start + n * longest_run) (min (len - n * longest_run) longest_run))
cut_word zero effect start len n h below = absurd (omega arith)
cut_word (suc fuel) effect start len n h below = go n below (leb len longest_run) refl (cut_word fuel effect (start + longest_run) (len - longest_run))
  where
    go : (n : ℕ) → n < suc fuel → (b : Bool) → leb len longest_run ≡ b →
        ((m : ℕ) → fuel ≡ entries (len - longest_run) → m < fuel →
        slice_get (cut fuel effect (start + longest_run) (len - longest_run)) m
        ≡ Some (word_of effect (start + longest_run + m * longest_run) (min (len - longest_run - m * longest_run) longest_run))) →
        slice_get (cut (suc fuel) effect start len) n ≡ Some (word_of effect (start + n * longest_run) (min (len - n * longest_run) longest_run))
    go zero l true e rest =
        let few = leb-true len longest_run e in
        rw e (ap Some (omega arith))
    go zero l false e rest =
        let many = leb-false len longest_run e in
        rw e (ap Some (omega arith))
    go (suc n) l true e rest = let few = leb-true len longest_run e in absurd (omega arith)
    go (suc n) l false e rest =
        let many = leb-false len longest_run e in
        rw e (rest n (omega arith) (omega arith) ∙ ap Some (omega arith))

pub word_there : (effect : Effect) (start len n : ℕ) → n < entries len →
    slice_get (words_of effect start len) n ≡ Some (word_of effect (start + n * longest_run) (min (len - n * longest_run) longest_run))
word_there effect start len n below = cut_word (entries len) effect start len n refl below

pub no_word_there : (effect : Effect) (start len n : ℕ) → 0 < len → entries len ≤ n → slice_get (words_of effect start len) n ≡ None
no_word_there effect start len n some past = slice_get_past (words_of effect start len) n (omega (arith, words_length effect start len some))
