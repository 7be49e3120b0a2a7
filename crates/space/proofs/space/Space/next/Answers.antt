-- The first free extent from the sector on is the next one.
use Rattle.space.proofs.Asked.{run_in, listed_in, sized}
use Rattle.space.proofs.space.Space.next.Goals as goal

pub invariant_of-result : goal.invariant_of-result
invariant_of-result c =
    let found = rw (c.in_ok-next.was) at c.sides.ensures.from in
    let z = sized c.args.self.now _ _ found.listed in
    record { some = z.some; ends = z.ends }

pub returns-in_err-next : goal.returns-in_err-next
returns-in_err-next c =
    let none = rw (c.in_err-next.was) at c.sides.ensures.from in
    rw (c.from_residual.ensures) (λ s l r. none s l (listed_in c.args.self.now s l r))

pub returns : goal.returns
returns c =
    let now = c.args.self.now in
    let found = rw (c.in_ok-next.was) at c.sides.ensures.from in
    (run_in now _ _ found.listed, found.from, λ s l r w. found.lowest s l (listed_in now s l r) w)
