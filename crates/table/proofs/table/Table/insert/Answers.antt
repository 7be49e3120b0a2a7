-- `insert` refuses where no record is unused or the key is there; else the first unused record goes into the tree.
use Rattle.std.proofs.Common.{map, ap, ◌∙◌, arith}
use Rattle.table.specs.Sound.{entry}
use Rattle.table.proofs.Soundness.{sound, entries_are}
use Rattle.table.proofs.Calls.{full, occupied, spare_ready, inserted}
use Rattle.table.proofs.table.Table.insert.Goals as goal

pub returns-then-at : goal.returns-then-at
returns-then-at g c = full c.args.self.now.sound _ _ c.if-at.true

pub read-requires : goal.read-requires
read-requires g c = (spare_ready c.args.self.now.sound c.if-at.false).within

pub insert-requires-clause-tree : goal.insert-requires-clause-tree
insert-requires-clause-tree g c = let s = c.args.self.now.sound in (_, s.whole, (spare_ready s c.if-at.false).free)

pub invariant_of-self : goal.invariant_of-self
invariant_of-self g c =
    let s = c.args.self.now.sound in
    let e = c.in_default.ensures _ s.whole (spare_ready s c.if-at.false).free in
    record { sound = rw e.1 s }

pub returns-in_default : goal.returns-in_default
returns-in_default g c =
    let s = c.args.self.now.sound in
    let e = c.in_default.ensures _ s.whole (spare_ready s c.if-at.false).free in
    rw e.1 (occupied s g.met.K.Key.ordered _ _ _ e.0.1)

pub overflow_add-self : goal.overflow_add-self
overflow_add-self g c = omega (arith, (spare_ready c.args.self.now.sound c.if-at.false).fewer)

pub invariant_of-self-2 : goal.invariant_of-self-2
invariant_of-self-2 g c =
    let s = c.args.self.now.sound in
    let k = spare_ready s c.if-at.false in
    let e = c.in-Some.ensures _ s.whole k.free in
    record { sound = sound (k.next _ c.read.ensures _ _ _ _ e.0 e.1) }

pub returns : goal.returns
returns g c =
    let s = c.args.self.now.sound in
    let k = spare_ready s c.if-at.false in
    let e = c.in-Some.ensures _ s.whole k.free in
    inserted s g.met.K.Key.ordered _ _ _ _ k.fewer e.0 (entries_are (k.next _ c.read.ensures _ _ _ _ e.0 e.1) ∙ ap (map entry) e.1.order)
