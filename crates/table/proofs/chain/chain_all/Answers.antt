-- `chain_all` chains the records from the last to the first.
use Rattle.std.proofs.Common.{ℕ, ◌-◌, ◌<◌, List, length, sym, subst, arith}
use Rattle.table.specs.declared.node.Node.{Node}
use Rattle.table.proofs.Model.{nth_some}
use Rattle.table.proofs.Unused.{Chaining, one_chained}
use Rattle.table.proofs.chain.chain_all.Goals as goal

pub loop-at-preserved : goal.loop-at-preserved
loop-at-preserved g c =
    let at : ℕ = c.loop-at.at - 1 in
    let low : at < length c.loop-at.nodes = omega (arith, c.loop-at.invariant.within, c.loop-at-test.true) in
    let n = nth_some c.loop-at.nodes at low in
    let P : List (Node g.row.K.Denot g.row.V.Denot) → Type 0 = λ ys. Chaining ys at at in
    subst P (sym (c.give_back.ensures n.0 n.1)) (one_chained c.loop-at.nodes c.loop-at.at at c.loop-at.unused n.0 (omega (arith, c.loop-at-test.true)) (omega (arith, c.loop-at.auto.nodes, c.requires)) n.1 c.loop-at.invariant)
