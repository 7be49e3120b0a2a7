-- The place is past the words, or has the word of that entry.
use Rattle.std.proofs.Common.{Some, sym, ap, ◌∙◌, arith}
use Rattle.slab_log.proofs.Written.{word_there, no_word_there}
use Rattle.slab_log.proofs.extent.Extent.nth_word.Goals as goal

pub returns-then-n-entries : goal.returns-then-n-entries
returns-then-n-entries c =
    let e = c.args.self in
    sym (no_word_there c.args.effect e.start e.length c.args.n e.some (omega arith))

pub returns : goal.returns
returns c =
    let e = c.args.self in
    ap Some (c.encode.ensures ∙ omega arith) ∙ sym (word_there c.args.effect e.start e.length c.args.n (omega arith))
