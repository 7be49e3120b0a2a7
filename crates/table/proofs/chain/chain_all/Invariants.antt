-- What `chain_all` keeps at each turn: the records from `at` on are chained.
use Rattle.table.proofs.Unused.{Chaining}
use Rattle.table.proofs.chain.chain_all.Given as goal

abbrev pub invariant-loop-at : goal.invariant-loop-at
invariant-loop-at g l = Chaining l.nodes l.at l.unused
