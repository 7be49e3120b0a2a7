-- The words counted so far are those of the runs before the place.
use Rattle.std.proofs.Common.{◌≡◌, ◌≤◌, ℕ, List}
use Rattle.slab_log.specs.Sectors.{used}
use Rattle.slab_log.specs.Condensed.{Condensed}
use Rattle.space.specs.Free.{sectors_of, free_in}
use Rattle.space.proofs.Walked.{Numbered}
use Rattle.space.proofs.space.Space.condensed_len.Given as goal

abbrev pub invariant-loop-extent : goal.invariant-loop-extent
invariant-loop-extent l =
    let runs = l.extent-iterator in
    record {
      same : runs.space.now ≡ l.self;
      few : l.words ≤ runs.at;
      within : runs.at ≤ sectors_of l.self;
      counted : (log : List ℕ) → Condensed (sectors_of l.self) (free_in l.self) log → Numbered (used (sectors_of l.self) (free_in l.self)) log runs.at l.words;
    }
