-- The run goes on to the next free extent, and the next one begins behind that.
use Rattle.std.proofs.Common.{◌≡◌, ◌+◌, ◌-◌, sym, refl, ap, subst, rules, arith}
use Rattle.space.specs.Free.{sectors_of, free_in}
use Rattle.space.specs.Tables.{Passes}
use Rattle.space.proofs.InUse.{next_run}
use Rattle.space.proofs.Spaces.{spaced_in}
use Rattle.space.proofs.used_runs.UsedRunsIterator.next.Goals as goal

pub invariant_of-self : goal.invariant_of-self
invariant_of-self c =
    let runs = c.args.self.now in
    let space = runs.space.now in
    let below = rw (ap (λ z. z.sectors) c.size-size.ensures) at c.if-start-size.false in
    let next = next_run _ _ (spaced_in space) runs.at below (runs.begins below) c.sides-behind.result.from c.sides-behind.ensures.from c.map_or-self.result c.map_or-end.result (search rules) (search rules) in
    record { begins = next.here }

pub invariant_of-result : goal.invariant_of-result
invariant_of-result c =
    let runs = c.args.self.now in
    let space = runs.space.now in
    let below = rw (ap (λ z. z.sectors) c.size-size.ensures) at c.if-start-size.false in
    let next = next_run _ _ (spaced_in space) runs.at below (runs.begins below) c.sides-behind.result.from c.sides-behind.ensures.from c.map_or-self.result c.map_or-end.result (search rules) (search rules) in
    let some = next.some in
    let within = next.within in
    record { some = omega arith; ends = omega (arith, space.size.most) }

pub returns-clause-steps : goal.returns-clause-steps
returns-clause-steps c =
    let runs = c.args.self.now in
    let space = runs.space.now in
    let below = rw (ap (λ z. z.sectors) c.size-size.ensures) at c.if-start-size.false in
    let next = next_run _ _ (spaced_in space) runs.at below (runs.begins below) c.sides-behind.result.from c.sides-behind.ensures.from c.map_or-self.result c.map_or-end.result (search rules) (search rules) in
    let some = next.some in
    let is : runs.at + (c.map_or-end.result - runs.at) ≡ c.map_or-end.result = omega arith in
    record {
      follows = (next.run, omega arith, λ s l r from. from);
      goes = subst (λ end. Passes (sectors_of space) (free_in space) end c.map_or-self.result) (sym is) next.passes;
      same = refl;
    }
