-- The word of an entry reads as that entry.
use Rattle.std.proofs.Common.{◌≡◌, ℕ, ◌+◌, ◌≤◌, Ok, ap, arith}
use Rattle.slab_log.specs.Fields.{bits}
use Rattle.slab_log.specs.Words.{span_of, effect_bit, word_of}
use Rattle.slab_log.specs.Laws.{ReadingUndoesWriting}
use Rattle.slab_log.specs.declared.entry.Effect.{Effect}
use Rattle.slab_log.specs.declared.entry.Effect.TheVariants.{Allocates, Frees}
use Rattle.slab_log.specs.declared.entry.Span.{Span}
use Rattle.slab_log.specs.declared.entry.Entry.TheVariants.{Allocate, Free}
use Rattle.slab_log.proofs.Same.{same_span}

bit_or_none : (effect : Effect) → effect_bit effect ≤ 1
bit_or_none Allocates = omega arith
bit_or_none Frees = omega arith

-- the four fields of the word
module _ (effect : Effect) (span : Span) where
  abbrev written : ℕ
  written = word_of effect span.offset span.run

  plain : bits 63 63 written ≡ 0
  plain = let b = bit_or_none effect in omega arith

  kind : bits 15 15 written ≡ effect_bit effect
  kind = let b = bit_or_none effect in omega arith

  first : bits 62 16 written ≡ span.offset
  first = let b = bit_or_none effect in omega arith

  long : bits 14 0 written + 1 ≡ span.run
  long = let b = bit_or_none effect in omega arith

  spans : span_of written ≡ span
  spans = same_span (span_of written) span first long

pub reading_undoes_writing : ReadingUndoesWriting
reading_undoes_writing Allocates span = rw (plain Allocates span, kind Allocates span) (ap (λ s. Ok (Allocate s)) (spans Allocates span))
reading_undoes_writing Frees span = rw (plain Frees span, kind Frees span) (ap (λ s. Ok (Free s)) (spans Frees span))
