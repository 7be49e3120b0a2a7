-- The pairs on the two sides of the sector are the free extents there.
use Rattle.space.specs.Free.{sectors_of}
use Rattle.space.proofs.Searched.{some_before, some_from, last_is, first_is}
use Rattle.space.proofs.Spaces.{spaced_in}
use Rattle.space.proofs.space.Space.sides.Goals as goal

pub run_of-requires : goal.run_of-requires
run_of-requires c = let now = c.args.self.now in some_before (sectors_of now) _ c.args.sector (spaced_in now) _ c.beside-found.ensures.below

pub run_of-requires-2 : goal.run_of-requires-2
run_of-requires-2 c = let now = c.args.self.now in some_from (sectors_of now) _ c.args.sector (spaced_in now) _ c.beside-found.ensures.from

pub returns : goal.returns
returns c =
    let now = c.args.self.now in
    record {
      below = last_is (sectors_of now) _ c.args.sector (spaced_in now) _ c.beside-found.ensures.below _ c.run_of.ensures;
      from = first_is (sectors_of now) _ c.args.sector (spaced_in now) _ c.beside-found.ensures.from _ c.run_of-2.ensures;
    }
