-- `balance` turns the node where one side is two taller, and else joins the sides as they are.
use Rattle.table.proofs.Turn.{one_taller}
use Rattle.table.proofs.Level.{from_join}
use Rattle.table.proofs.tree.balance.balance.Goals as goal

pub returns-else-on_right-on_left : goal.returns-else-on_right-on_left
returns-else-on_right-on_left g c = λ l r room u.
    let a = c.height-on_left.ensures l room.on_left in
    let b = c.height-on_right.ensures r room.on_right in
    from_join _ _ _ _ l r u (one_taller _ _ _ _ a b c.if-on_left-on_right.false) (one_taller _ _ _ _ b a c.if-on_right-on_left.false) (c.join.ensures l r room)
