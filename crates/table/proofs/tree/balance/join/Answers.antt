-- `join` writes the record of the new node, and its height fits.
use Rattle.std.proofs.Common.{arith}
use Rattle.table.proofs.Model.{joined}
use Rattle.table.proofs.tree.balance.join.Goals as goal

pub returns : goal.returns
returns g c = λ l r room. joined _ _ _ _ l r room (omega (arith, c.height.ensures l room.on_left, c.height-2.ensures r room.on_right))
