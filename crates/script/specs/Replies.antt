-- The bytes of a reply line.
use Rattle.std.specs.Prelude.{◌≡◌, ℕ, List, [], ◌∷◌, ◌++◌, Ok, Err, codes, decimal, Result}
use Rattle.slab_log.specs.Numbers.{number_of}
use Rattle.script.specs.declared.reply.Reply.{Reply}
use Rattle.script.specs.declared.reply.Reply.TheVariants.{Done, At, Words, Figures, No}

abbrev pub text_of : Reply → List ℕ
text_of Done = codes "ok"
text_of (At start) = codes "at " ++ decimal start
text_of (Words n) = codes "words " ++ decimal n
text_of (Figures f) =
    codes "free " ++ (decimal f.free
    ++ (codes " extents " ++ (decimal f.extents
    ++ (codes " longest " ++ (decimal f.longest
    ++ (codes " words " ++ decimal f.words))))))
text_of (No refusal) = codes "no " ++ decimal (number_of refusal)

-- with the line feed
abbrev pub line_of : Reply → List ℕ
line_of reply = text_of reply ++ (10 ∷ [])

-- what a call that adds a reply answers, and the bytes before and after it: all of the line, or nothing
abbrev pub AddsReply : {T E : Type 0} → Reply → Result T E → List ℕ → List ℕ → Type 0
AddsReply reply (Ok _) before after = after ≡ before ++ line_of reply
AddsReply reply (Err _) before after = after ≡ before

-- what a call that adds a text answers, and the bytes before and after it: where memory is lacking, any bytes behind those before
abbrev pub Puts : {T E : Type 0} → List ℕ → Result T E → List ℕ → List ℕ → Type 0
Puts text (Ok _) before after = after ≡ before ++ text
Puts text (Err _) before after = (part : List ℕ) × (after ≡ before ++ part)
