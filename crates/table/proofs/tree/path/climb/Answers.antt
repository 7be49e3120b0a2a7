-- `climb` puts each node over the new tree below it at each turn, so that the height below changes by at most one, and stops where
-- neither the link nor the height of the node has changed.
use Rattle.std.proofs.Common.{false, refl, ap, ◌∙◌, rules}
use Rattle.std.proofs.lemmas.Bool.{both_ways}
use Rattle.std.specs.List.{slice_get}
use Rattle.table.proofs.Climbing.{emptied, first_root, begun, ready, done}
use Rattle.table.proofs.tree.path.climb.Goals as goal

pub loop-step-init : goal.loop-step-init
loop-step-init g c = λ fs t h cl. begun _ _ _ _ fs t h (λ first e. first_root _ _ _ _ _ first c.map_or-root.ensures (λ x p. search rules) (c.first.ensures.value ∙ ap (λ q. slice_get q 0) c.deref.ensures.0) e) cl

pub refit-requires : goal.refit-requires
refit-requires g c =
    let p = c.loop-step.invariant c.requires.0 c.requires.1 c.requires.2 c.requires.3 in
    let k = ready _ _ _ _ _ _ _ _ p _ c.in-Some.ensures.items in
    (k.n, _, _, k.refit)

pub returns-in_default-refit : goal.returns-in_default-refit
returns-in_default-refit g c = λ fs t h cl.
    let k = ready _ _ _ _ _ _ _ _ (c.loop-step.invariant fs t h cl) _ c.in-Some.ensures.items in
    k.stops _ (c.in_default-refit.ensures k.n _ _ k.refit)

pub loop-step-preserved : goal.loop-step-preserved
loop-step-preserved g c = λ fs t h cl.
    let k = ready _ _ _ _ _ _ _ _ (c.loop-step.invariant fs t h cl) _ c.in-Some.ensures.items in
    k.next _ _ (c.in-Some-refit.ensures k.n _ _ k.refit)

pub returns : goal.returns
returns g c = λ fs t h cl. done _ _ _ _ _ _ _ (emptied _ (λ more. both_ways false refl (c.in_default.ensures.variant.1 more))) (c.loop-step.invariant fs t h cl)
