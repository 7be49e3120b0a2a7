-- The words that are left are still to be added, and there is a place for each.
use Rattle.slab_log.specs.Words.{words_of, left}
use Rattle.store.proofs.Appended.{Appended}
use Rattle.store.proofs.extents.add_extent.Given as goal

abbrev pub invariant-loop-word : goal.invariant-loop-word
invariant-loop-word g l =
    Appended (g.S.LogStore.capacity l.initial.store) (g.S.LogStore.words l.initial.store) (words_of l.fn.effect l.fn.extent.start l.fn.extent.length)
    (g.S.LogStore.capacity l.store) (g.S.LogStore.words l.store) (left l.word-iterator)
