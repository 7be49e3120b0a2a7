-- `refit` turns the node where one side is two taller, and else links the new side; the node's height then fits.
use Rattle.table.proofs.Level.{on_near, on_far, turned, leveled}
use Rattle.table.proofs.tree.balance.refit.Goals as goal

pub returns-then-abs_diff-gt1 : goal.returns-then-abs_diff-gt1
returns-then-abs_diff-gt1 g c = λ n l r f. turned _ _ _ _ _ _ n _ l r f c.read-n.ensures c.other.ensures c.on-far.ensures _ _ _ _ c.item-item.ensures c.of.ensures (c.balance.ensures l r)

pub returns-then-kept : goal.returns-then-kept
returns-then-kept g c = λ n l r f.
    let a = c.height-on_near.ensures _ (on_near _ _ _ _ _ _ n _ l r f c.read-n.ensures c.other.ensures c.on-far.ensures) in
    let b = c.height-on_far.ensures _ (on_far _ _ _ _ _ _ n _ l r f c.read-n.ensures c.other.ensures c.on-far.ensures) in
    let w = leveled _ _ _ _ _ _ n _ l r f c.read-n.ensures c.other.ensures c.on-far.ensures _ _ _ _ _ a b c.max-height.ensures c.abs_diff.ensures c.if-abs_diff-gt1.false (c.relink.ensures n f.held) in
    (w.0, w.1 c.if-kept.true)

pub returns-else-kept : goal.returns-else-kept
returns-else-kept g c = λ n l r f.
    let a = c.height-on_near.ensures _ (on_near _ _ _ _ _ _ n _ l r f c.read-n.ensures c.other.ensures c.on-far.ensures) in
    let b = c.height-on_far.ensures _ (on_far _ _ _ _ _ _ n _ l r f c.read-n.ensures c.other.ensures c.on-far.ensures) in
    (leveled _ _ _ _ _ _ n _ l r f c.read-n.ensures c.other.ensures c.on-far.ensures _ _ _ _ _ a b c.max-height.ensures c.abs_diff.ensures c.if-abs_diff-gt1.false (c.relink.ensures n f.held)).0
