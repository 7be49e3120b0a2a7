-- The words that are left, replayed over the space, lead where the whole log does.
use Rattle.std.proofs.Common.{drop}
use Rattle.space.proofs.Replayed.{Sofar}
use Rattle.space.proofs.space.Space.replay.Given as goal

abbrev pub invariant-loop-place : goal.invariant-loop-place
invariant-loop-place g l =
    let words = l.place-iterator.iter in
    Sofar (g.S.LogStore.words l.store) l.initial.space l.place-iterator.count (drop words.given (g.S.LogStore.words words.store.now)) l.space
