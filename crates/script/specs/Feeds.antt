-- A script that is given byte by byte.
use Rattle.std.specs.Prelude.{◌≡◌, ℕ, ◌<◌, List, [], ◌∷◌, ◌++◌, length, take, Ok, Err, Result}
use Rattle.script.specs.Lines.{command_of}
use Rattle.script.specs.Replies.{line_of}
use Rattle.script.specs.Stages.{Seen}
use Rattle.script.specs.Answers.{Answers}
use Rattle.script.specs.declared.reply.Reply.{Reply}

-- what is kept of a line whose end has not come: one byte more than a line may have, so that one that is too long stays so
abbrev pub kept : List ℕ → List ℕ
kept line = take 65 line

-- Where a line has begun, these bytes lead to these replies, and to this line that has begun and this console. A line feed, 10,
-- ends a line, which is answered.
pub data Replies (s : Seen) (line : List ℕ) : List ℕ → List ℕ → List ℕ → Seen → Type 0 where
  nothing : Replies s line [] [] line s
  more : {bytes replies rest : List ℕ} {t : Seen} (b : ℕ) → ¬ (b ≡ 10) → Replies s line bytes replies rest t →
      Replies s line (bytes ++ b ∷ []) replies (rest ++ b ∷ []) t
  ended : {bytes replies rest : List ℕ} {t u : Seen} {reply : Reply} → Replies s line bytes replies rest t →
      Answers t (command_of rest) reply u → Replies s line (bytes ++ 10 ∷ []) (replies ++ line_of reply) [] u

-- What a feed makes of bytes: their replies stand behind what was written before. Where there is no memory for the reply to one of
-- their lines, that line has been answered, and nothing behind it was read.
pub data Fed {U E : Type 0} (s : Seen) (line bytes before : List ℕ) (t : Seen) (left after : List ℕ) : Result U E → Type 0 where
  all : {u : U} {replies rest : List ℕ} → Replies s line bytes replies rest t → kept rest ≡ left → after ≡ before ++ replies →
      Fed s line bytes before t left after (Ok u)
  no_memory : {e : E} (n : ℕ) {replies rest : List ℕ} {m : Seen} {reply : Reply} → n < length bytes →
      Replies s line (take n bytes) replies rest m → Answers m (command_of rest) reply t → kept rest ≡ left → after ≡ before ++ replies →
      Fed s line bytes before t left after (Err e)

-- one byte
pub data Taken {U E : Type 0} (s : Seen) (line : List ℕ) (b : ℕ) (before : List ℕ) (t : Seen) (left after : List ℕ) :
    Result U E → Type 0 where
  goes_on : {u : U} → ¬ (b ≡ 10) → t ≡ s → kept (line ++ b ∷ []) ≡ left → after ≡ before → Taken s line b before t left after (Ok u)
  ends : {u : U} {reply : Reply} → b ≡ 10 → Answers s (command_of line) reply t → [] ≡ left → after ≡ before ++ line_of reply →
      Taken s line b before t left after (Ok u)
  lacks : {e : E} {reply : Reply} → b ≡ 10 → Answers s (command_of line) reply t → kept line ≡ left → after ≡ before →
      Taken s line b before t left after (Err e)

-- the last line, where it lacks its line feed
pub data Last {U E : Type 0} (s : Seen) (line before : List ℕ) (t : Seen) (after : List ℕ) : Result U E → Type 0 where
  no_line : {u : U} → line ≡ [] → t ≡ s → after ≡ before → Last s line before t after (Ok u)
  answered : {u : U} {reply : Reply} → ¬ (line ≡ []) → Answers s (command_of line) reply t → after ≡ before ++ line_of reply →
      Last s line before t after (Ok u)
  no_memory : {e : E} {reply : Reply} → ¬ (line ≡ []) → Answers s (command_of line) reply t → after ≡ before → Last s line before t after (Err e)
