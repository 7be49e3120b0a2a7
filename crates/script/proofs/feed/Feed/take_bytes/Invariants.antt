-- How far the bytes have been fed.
use Rattle.std.proofs.Common.{◌≡◌, ℕ, List, vec_items}
use Rattle.script.specs.Stages.{seen}
use Rattle.script.specs.Feeds.{kept}
use Rattle.script.proofs.Fed.{Sofar}
use Rattle.script.proofs.feed.Feed.take_bytes.Given as goal

abbrev pub invariant-loop-b : goal.invariant-loop-b
invariant-loop-b g l = (line : List ℕ) → kept line ≡ l.initial.self.line.items →
    Sofar (seen g.S.LogStore l.initial.console.stage) line l.bytes (vec_items l.initial.out) l.b-index (seen g.S.LogStore l.console.stage) l.self.line.items
    (vec_items l.out)
