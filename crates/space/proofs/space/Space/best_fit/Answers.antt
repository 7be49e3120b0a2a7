-- The first key of the table of lengths from the wanted length on fits best.
use Rattle.std.proofs.Common.{sym, ◌∙◌}
use Rattle.space.proofs.Searched.{best_none}
use Rattle.space.proofs.Asked.{run_in, keyed_in, listed_key, sized, best_in}
use Rattle.space.proofs.space.Space.best_fit.Goals as goal

pub invariant_of-result : goal.invariant_of-result
invariant_of-result c =
    let now = c.args.self.now in
    let b = best_in now _ _ c.in_ok-fit.fit c.lowest_from.ensures c.in_ok-fit.was in
    let z = sized now _ _ (listed_key now c.in_ok-fit.fit.key b.listed) in
    record { some = z.some; ends = z.ends }

pub returns-in_err-fit : goal.returns-in_err-fit
returns-in_err-fit c = rw (c.from_residual.ensures) (λ s l r. best_none _ _ (sym c.lowest_from.ensures ∙ c.in_err-fit.was) s l (keyed_in c.args.self.now s l r))

pub returns : goal.returns
returns c =
    let now = c.args.self.now in
    let b = best_in now _ _ c.in_ok-fit.fit c.lowest_from.ensures c.in_ok-fit.was in
    record { extent = run_in now _ _ (listed_key now c.in_ok-fit.fit.key b.listed); enough = b.enough; others = λ s l r w. b.others s l (keyed_in now s l r) w }
