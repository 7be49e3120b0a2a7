-- One extent more, less each free neighbour.
use Rattle.std.proofs.Common.{arith}
use Rattle.space.proofs.Joining.{joined_count}
use Rattle.space.proofs.Spaces.{spaced_in}
use Rattle.space.proofs.space.Space.extents_after.Goals as goal

pub overflow_sub-result-2 : goal.overflow_sub-result-2
overflow_sub-result-2 c =
    let now = c.args.self.now in
    let e = c.args.extent in
    let found = rw (c.in_ok-edges.was, c.into.ensures.0, c.into.ensures.1) at c.edges.ensures in
    let count =
    joined_count _ _ (spaced_in now) e.start e.length _ _ e.some c.if-end-self.false found.unmet found.left found.right in
    omega (arith, count, c.len.ensures.counts)

pub returns : goal.returns
returns c =
    let now = c.args.self.now in
    let e = c.args.extent in
    let found = rw (c.in_ok-edges.was, c.into.ensures.0, c.into.ensures.1) at c.edges.ensures in
    let count =
    joined_count _ _ (spaced_in now) e.start e.length _ _ e.some c.if-end-self.false found.unmet found.left found.right in
    (c.if-end-self.false, found.unmet, omega (arith, count, c.len.ensures.counts))
