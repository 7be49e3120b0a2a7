-- A new table has an empty tree, and all its records are in the chain.
use Rattle.table.proofs.Soundness.{sound}
use Rattle.table.proofs.Calls.{started}
use Rattle.table.proofs.table.Table.new.Goals as goal

pub invariant_of-result : goal.invariant_of-result
invariant_of-result g c =
    let e = c.chain_all-unused.ensures in
    record { sound = sound (started g.K.Key.before _ _ e.0 c.chain_all-unused.auto.nodes e.1 e.2 e.3) }
