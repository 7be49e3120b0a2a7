-- The words of the runs before the place stand behind the list, and those from it on have places.
use Rattle.std.proofs.Common.{◌≡◌}
use Rattle.space.specs.Free.{sectors_of, free_in}
use Rattle.space.proofs.Walked.{Writing}
use Rattle.space.proofs.space.Space.write_condensed.Given as goal

abbrev pub invariant-loop-extent : goal.invariant-loop-extent
invariant-loop-extent g l =
    let runs = l.extent-iterator in
    record {
      same : runs.space.now ≡ l.self;
      writing : Writing (sectors_of l.self) (free_in l.self) (g.S.LogStore.capacity l.initial.out) (g.S.LogStore.words l.initial.out) l.needed runs.at
          (g.S.LogStore.capacity l.out) (g.S.LogStore.words l.out);
    }
