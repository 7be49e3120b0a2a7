-- The run is longest, and none begins between the sector and it.
use Rattle.std.proofs.Common.{inl, inr, rules}
use Rattle.std.proofs.lemmas.Bool.{cases_lt, both_ways}
use Rattle.slab_log.specs.Sectors.{used}
use Rattle.space.specs.Free.{sectors_of, free_in}
use Rattle.slab_log.proofs.Counted.{run_begins}
use Rattle.space.proofs.InUse.{starts_is, run_from, not_free_here}
use Rattle.space.proofs.Spaces.{spaced_in}
use Rattle.space.proofs.space.Space.next_used.Goals as goal

pub returns-in_err-start : goal.returns-in_err-start
returns-in_err-start c =
    let now = c.args.self.now in
    let quiet = rw (c.in_err-start.was) at (starts_is _ _ (spaced_in now) c.args.sector c.free_end.result c.filter.result c.free_end.ensures (search rules)) in
    rw (c.from_residual.ensures) (λ s l r. elim (cases_lt s c.args.sector) [
      | inl k ↦ k
      | inr k ↦ absurd (both_ways _ (quiet s k) (run_begins (used (sectors_of now) (free_in now)) s l r))
    ])

pub used_end-requires-clause-off : goal.used_end-requires-clause-off
used_end-requires-clause-off c =
    let now = c.args.self.now in
    let found = rw (c.in_ok-start.was) at (starts_is _ _ (spaced_in now) c.args.sector c.free_end.result c.filter.result c.free_end.ensures (search rules)) in
    not_free_here _ _ (spaced_in now) _ _ found.0 found.1

pub returns : goal.returns
returns c =
    let now = c.args.self.now in
    let found = rw (c.in_ok-start.was) at (starts_is _ _ (spaced_in now) c.args.sector c.free_end.result c.filter.result c.free_end.ensures (search rules)) in
    let from = found.0 in
    let to = c.used_end.ensures in (
      run_from _ _ (spaced_in now) c.args.sector _ _ from found.1 to.some to.within to.filled to.after,
      from.from,
      λ s l r k. elim (cases_lt s c.in_ok-start.start) [
        | inl b ↦ absurd (both_ways _ (from.quiet s k b) (run_begins (used (sectors_of now) (free_in now)) s l r))
        | inr b ↦ b
      ],
    )
