-- What was counted, and what is still to be counted, are all words of the kind.
use Rattle.std.proofs.Common.{drop}
use Rattle.disk_slab.proofs.Counted.{Sofar}
use Rattle.disk_slab.proofs.summary.tally_of.Given as goal

abbrev pub invariant-loop-word : goal.invariant-loop-word
invariant-loop-word g l =
    let left = l.word-iterator in
    Sofar (g.S.LogStore.words l.store) (drop left.given (g.S.LogStore.words left.store.now)) l.tally
