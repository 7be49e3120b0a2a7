-- `turn` makes the single turn where the inner side is no taller than the outer one, and else the double turn.
use Rattle.std.proofs.Common.{ap, ◌∙◌}
use Rattle.table.specs.Side.{Side, across, link_on}
use Rattle.table.specs.Tree.{Tree}
use Rattle.table.specs.Edit.{Room, Heavy, tree_on}
use Rattle.table.proofs.Turn.{Turning, entered, left_at, joined_on, mended_on, heavy_within, no_taller, taller, turning}
use Rattle.table.proofs.tree.balance.turn.Goals as goal
use Rattle.table.proofs.tree.balance.turn.Goals.{After-item-top_item}

-- the parts of a heavy tree, once its top is read
parts : (g : _) (c : After-item-top_item g) (l r : Tree g.row.K.Denot g.row.V.Denot) → Room c.args.nodes.now c.args.item c.args.links l r → Heavy (tree_on c.args.side l r) (tree_on (across c.args.side) l r) → Turning c.args.side c.args.nodes.now c.args.item c.item-top_item.result c.on-light.result c.on-outer.result c.on-inner.result (tree_on c.args.side l r) (tree_on (across c.args.side) l r)
parts g c l r room big =
    let room-on = entered _ _ _ _ _ _ _ l r c.other-opposite.ensures c.on-heavy.ensures c.on-light.ensures room in
    turning _ _ _ _ _ _ _ _ room-on big c.read-top.ensures _ _ c.on-outer.ensures (c.on-inner.ensures ∙ ap (λ (q : Side). link_on q c.read-top.result.now.links) c.other-opposite.ensures) _ c.item-top_item.ensures

-- and of the one that the caller has
here : (g : _) (c : After-item-top_item g) → Turning c.args.side c.args.nodes.now c.args.item c.item-top_item.result c.on-light.result c.on-outer.result c.on-inner.result (tree_on c.args.side c.requires.0 c.requires.1) (tree_on (across c.args.side) c.requires.0 c.requires.1)
here g c = parts g c c.requires.0 c.requires.1 c.requires.2 c.requires.3

pub read-top-requires : goal.read-top-requires
read-top-requires g c = heavy_within _ _ _ _ _ _ _ (entered _ _ _ _ _ _ _ c.requires.0 c.requires.1 c.other-opposite.ensures c.on-heavy.ensures c.on-light.ensures c.requires.2) c.requires.3

pub height-requires : goal.height-requires
height-requires g c =
    let k = here g (goal.at.height-requires g c).After-item-top_item in
    (k.i, k.on_inner)

pub height-requires-2 : goal.height-requires-2
height-requires-2 g c =
    let k = here g (goal.at.height-requires-2 g c).After-item-top_item in
    (k.o, k.on_outer)

pub join-low-requires : goal.join-low-requires
join-low-requires g c =
    let k = here g (goal.at.join-low-requires g c).After-item-top_item in
    (_, _, left_at _ _ _ _ _ _ _ _ c.of.ensures k.low)

pub join-requires : goal.join-requires
join-requires g c =
    let k = here g (goal.at.join-requires g c).After-item-top_item in
    let j = joined_on _ _ _ _ _ _ _ (c.join-low.ensures _ _ (left_at _ _ _ _ _ _ _ _ c.of.ensures k.low)) in
    (_, _, left_at _ _ _ _ _ _ _ _ c.of-then-height.ensures (k.top _ _ j))

pub returns-then-height : goal.returns-then-height
returns-then-height g c = λ l r room big.
    let k = parts g (goal.at.returns-then-height g c).After-item-top_item l r room big in
    let j = joined_on _ _ _ _ _ _ _ (c.join-low.ensures _ _ (left_at _ _ _ _ _ _ _ _ c.of.ensures k.low)) in
    let j2 = joined_on _ _ _ _ _ _ _ (c.join.ensures _ _ (left_at _ _ _ _ _ _ _ _ c.of-then-height.ensures (k.top _ _ j))) in
    mended_on _ _ _ _ _ l r _ (k.single _ _ _ _ (no_taller _ _ _ _ (c.height.ensures k.i k.on_inner) (c.height-2.ensures k.o k.on_outer) c.if-height.true) j j2)

pub read-mid-requires : goal.read-mid-requires
read-mid-requires g c =
    let k = here g (goal.at.read-mid-requires g c).After-item-top_item in
    k.inner_within (taller _ _ _ _ (c.height.ensures k.i k.on_inner) (c.height-2.ensures k.o k.on_outer) c.if-height.false)

pub join-a-requires : goal.join-a-requires
join-a-requires g c =
    let k = here g (goal.at.join-a-requires g c).After-item-top_item in
    let d = k.double (taller _ _ _ _ (c.height.ensures k.i k.on_inner) (c.height-2.ensures k.o k.on_outer) c.if-height.false) _ c.read-mid.ensures _ _ c.on-near.ensures (c.on-far.ensures ∙ ap (λ (q : Side). link_on q c.read-mid.result.now.links) c.other-opposite.ensures) _ c.item-mid_item.ensures in
    (_, _, left_at _ _ _ _ _ _ _ _ c.of-else-height.ensures d.first)

pub join-b-requires : goal.join-b-requires
join-b-requires g c =
    let k = here g (goal.at.join-b-requires g c).After-item-top_item in
    let d = k.double (taller _ _ _ _ (c.height.ensures k.i k.on_inner) (c.height-2.ensures k.o k.on_outer) c.if-height.false) _ c.read-mid.ensures _ _ c.on-near.ensures (c.on-far.ensures ∙ ap (λ (q : Side). link_on q c.read-mid.result.now.links) c.other-opposite.ensures) _ c.item-mid_item.ensures in
    let j = joined_on _ _ _ _ _ _ _ (c.join-a.ensures _ _ (left_at _ _ _ _ _ _ _ _ c.of-else-height.ensures d.first)) in
    (_, _, left_at _ _ _ _ _ _ _ _ c.of-else-height-2.ensures (d.second _ _ j))

pub join-requires-else-height : goal.join-requires-else-height
join-requires-else-height g c =
    let k = here g (goal.at.join-requires-else-height g c).After-item-top_item in
    let d = k.double (taller _ _ _ _ (c.height.ensures k.i k.on_inner) (c.height-2.ensures k.o k.on_outer) c.if-height.false) _ c.read-mid.ensures _ _ c.on-near.ensures (c.on-far.ensures ∙ ap (λ (q : Side). link_on q c.read-mid.result.now.links) c.other-opposite.ensures) _ c.item-mid_item.ensures in
    let j = joined_on _ _ _ _ _ _ _ (c.join-a.ensures _ _ (left_at _ _ _ _ _ _ _ _ c.of-else-height.ensures d.first)) in
    let j2 = joined_on _ _ _ _ _ _ _ (c.join-b.ensures _ _ (left_at _ _ _ _ _ _ _ _ c.of-else-height-2.ensures (d.second _ _ j))) in
    (_, _, left_at _ _ _ _ _ _ _ _ c.of-else-height-3.ensures (d.third _ _ _ _ j j2))

pub returns-else-height : goal.returns-else-height
returns-else-height g c = λ l r room big.
    let k = parts g (goal.at.returns-else-height g c).After-item-top_item l r room big in
    let d = k.double (taller _ _ _ _ (c.height.ensures k.i k.on_inner) (c.height-2.ensures k.o k.on_outer) c.if-height.false) _ c.read-mid.ensures _ _ c.on-near.ensures (c.on-far.ensures ∙ ap (λ (q : Side). link_on q c.read-mid.result.now.links) c.other-opposite.ensures) _ c.item-mid_item.ensures in
    let j = joined_on _ _ _ _ _ _ _ (c.join-a.ensures _ _ (left_at _ _ _ _ _ _ _ _ c.of-else-height.ensures d.first)) in
    let j2 = joined_on _ _ _ _ _ _ _ (c.join-b.ensures _ _ (left_at _ _ _ _ _ _ _ _ c.of-else-height-2.ensures (d.second _ _ j))) in
    let j3 = joined_on _ _ _ _ _ _ _ (c.join-else-height.ensures _ _ (left_at _ _ _ _ _ _ _ _ c.of-else-height-3.ensures (d.third _ _ _ _ j j2))) in
    mended_on _ _ _ _ _ l r _ (d.done _ _ _ _ _ _ j j2 j3)
