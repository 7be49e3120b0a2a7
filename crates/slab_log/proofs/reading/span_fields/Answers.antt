-- The two numbers are the word's fields.
use Rattle.std.proofs.Common.{refl, arith}
use Rattle.slab_log.specs.Words.{span_of}
use Rattle.slab_log.proofs.Same.{same_span}
use Rattle.slab_log.proofs.reading.span_fields.Goals as goal

pub returns : goal.returns
returns c = same_span _ (span_of c.args.word) refl (omega arith)
