-- What is kept of a line reads like the whole line, and grows with it; bytes are fed one by one.
use Rattle.std.proofs.Common.{◌≡◌, ℕ, ◌+◌, ◌<◌, ◌≤◌, min, ◌⊎◌, List, [], ◌∷◌, ◌++◌, length, get_or, take, Ok, Err, Result, sym, refl, ap, ◌∙◌, subst, inl, inr, append_assoc, append-nil, arith, length-append, length-take}
use Rattle.std.proofs.lemmas.List.{nil_from_length, take_all, take-append-le, take_more}
use Rattle.std.proofs.lemmas.Bool.{lt-leb, cases_lt}
use Rattle.std.specs.Result.{IsOk, OnOk, OnErr}
use Rattle.arrayvec.specs.ArrayVec.{ArrayVec}
use Rattle.script.specs.Lines.{command_of}
use Rattle.script.specs.Replies.{line_of, AddsReply}
use Rattle.script.specs.Stages.{Seen}
use Rattle.script.specs.Answers.{Answers}
use Rattle.script.specs.Feeds.{kept, Replies, nothing, more, ended, Fed, Taken, Last}
use Rattle.script.specs.declared.reply.Reply.{Reply}

-- a line that is too long stays too long
pub command_kept : (line : List ℕ) → command_of (kept line) ≡ command_of line
command_kept line = go (cases_lt 64 (length line))
  where
    go : (64 < length line) ⊎ (length line ≤ 64) → command_of (kept line) ≡ command_of line
    go (inl long) =
        let whole = lt-leb (length line) 64 long in
        let part = lt-leb (length (kept line)) 64 (omega (arith, length-take 65 line)) in
        rw (whole, part)
    go (inr short) = ap command_of (take_all 65 line (omega arith))

module _ (held : List ℕ) (line : List ℕ) (is : kept line ≡ held) where
  -- as many bytes are kept as there are, but for those that find no room
  lengths : min 65 (length line) ≡ length held
  lengths = sym (length-take 65 line) ∙ ap length is

  kept_more : (b : ℕ) → length held < 65 → kept (line ++ b ∷ []) ≡ held ++ b ∷ []
  kept_more b room =
      let whole : length line ≤ 64 = omega (arith, lengths) in
      take_all 65 (line ++ b ∷ []) (omega (arith, length-append line (b ∷ [])))
      ∙ ap (λ l. l ++ b ∷ []) (sym (take_all 65 line (omega arith)) ∙ is)

  kept_full : (b : ℕ) → length held ≡ 65 → kept (line ++ b ∷ []) ≡ held
  kept_full b full = take-append-le 65 line (b ∷ []) (omega (arith, lengths)) ∙ is

  -- a byte is kept where there is room
  pub kept_pushed : {U E : Type 0} (b : ℕ) (before after : ArrayVec ℕ) (r : Result U E) → before.items ≡ held → (IsOk r → length before.items < 65) →
      OnOk r (after.items ≡ before.items ++ b ∷ []) → OnErr r (after ≡ before) → OnErr r (length before.items ≡ 65) → kept (line ++ b ∷ []) ≡ after.items
  kept_pushed b before after (Ok u) same room pushed stays full =
      kept_more b (omega (arith, ap length same, room refl)) ∙ (ap (λ l. l ++ b ∷ []) (sym same) ∙ sym pushed)
  kept_pushed b before after (Err e) same room pushed stays full =
      kept_full b (omega (arith, ap length same, full)) ∙ (sym same ∙ ap (λ v. v.items) (sym stays))

  pub kept_none : length held ≡ 0 → line ≡ []
  kept_none none = nil_from_length line (omega (arith, lengths))

  pub kept_some : ¬ (length held ≡ 0) → ¬ (line ≡ [])
  kept_some some empty = some (omega (arith, lengths, ap length empty))

  -- what was answered was the whole line
  pub answers_line : {s t : Seen} {reply : Reply} (given : List ℕ) → given ≡ held → Answers s (command_of given) reply t →
      Answers s (command_of line) reply t
  answers_line given same a =
      let whole : command_of given ≡ command_of line = ap command_of same ∙ (ap command_of (sym is) ∙ command_kept line) in
      rw whole at a

-- the last line is answered, and its reply finds memory or not
pub last_answered : {U E : Type 0} {s t : Seen} {line before after : List ℕ} {reply : Reply} (r : Result U E) → ¬ (line ≡ []) →
    Answers s (command_of line) reply t → AddsReply reply r before after → Last s line before t after r
last_answered (Ok u) some answer adds = Last.answered some answer adds
last_answered (Err e) some answer adds = Last.no_memory some answer adds

-- how far a feed has come
pub record Sofar (s : Seen) (line bytes before : List ℕ) (i : ℕ) (t : Seen) (left after : List ℕ) : Type 0 where
  pub replies : List ℕ
  pub rest : List ℕ
  pub run : Replies s line (take i bytes) replies rest t
  pub held : kept rest ≡ left
  pub written : after ≡ before ++ replies

pub sofar_none : (s : Seen) (line bytes before left : List ℕ) → kept line ≡ left → Sofar s line bytes before 0 s left before
sofar_none s line bytes before left is = record { replies = []; rest = line; run = nothing; held = is; written = sym (append-nil before) }

module _ {U E : Type 0} (s : Seen) (line bytes before : List ℕ) (i : ℕ) (t u : Seen) (left after left' after' : List ℕ)
    (so : Sofar s line bytes before i t left after) (inside : i < length bytes) where
  pub sofar_more : {x : U} → Taken {U = U} {E = E} t so.rest (get_or bytes i 0) after u left' after' (Ok x) →
      Sofar s line bytes before (i + 1) u left' after'
  sofar_more (Taken.goes_on other same holds writes) =
      let one_more = take_more bytes i 0 inside in
      record {
        replies = so.replies;
        rest = so.rest ++ get_or bytes i 0 ∷ [];
        run = rw (one_more, same) (more (get_or bytes i 0) other so.run);
        held = holds;
        written = writes ∙ so.written;
      }
  sofar_more (Taken.ends {reply = reply} feed answer holds writes) =
      let one_more = take_more bytes i 0 inside in
      record {
        replies = so.replies ++ line_of reply;
        rest = [];
        run = rw (one_more, feed) (ended so.run answer);
        held = holds;
        written = writes ∙ (ap (λ l. l ++ line_of reply) so.written ∙ append_assoc before so.replies (line_of reply));
      }

  pub sofar_lacks : {e : E} → Taken {U = U} {E = E} t so.rest (get_or bytes i 0) after u left' after' (Err e) →
      Fed {U = U} {E = E} s line bytes before u left' after' (Err e)
  sofar_lacks (Taken.lacks feed answer holds writes) = Fed.no_memory i inside so.run answer holds (writes ∙ so.written)

pub sofar_all : {U E : Type 0} (s : Seen) (line bytes before : List ℕ) (i : ℕ) (t : Seen) (left after : List ℕ) {x : U} → length bytes ≤ i →
    Sofar s line bytes before i t left after → Fed {U = U} {E = E} s line bytes before t left after (Ok x)
sofar_all s line bytes before i t left after h so =
    Fed.all (subst (λ (l : List ℕ). Replies s line l so.replies so.rest t) (take_all i bytes h) so.run) so.held so.written
