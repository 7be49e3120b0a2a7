-- `remove` leaves all as it was where the key is not there; else its record goes from the tree to the chain.
use Rattle.std.proofs.Common.{map, ap, ◌∙◌}
use Rattle.table.specs.Sound.{entry}
use Rattle.table.proofs.Soundness.{sound, entries_are}
use Rattle.table.proofs.Calls.{missing, taken_within, given_back, taken_out}
use Rattle.table.proofs.table.Table.remove.Goals as goal

pub returns-in_err-taken : goal.returns-in_err-taken
returns-in_err-taken g c =
    let s = c.args.self.now.sound in
    let e = c.in_err-taken.ensures _ s.whole in
    rw (c.from_residual.ensures, e.1) (missing s _ e.0)

pub read-requires : goal.read-requires
read-requires g c =
    let s = c.args.self.now.sound in
    let e = c.in_ok-taken.ensures _ s.whole in
    taken_within s g.met.K.Key.ordered _ _ e.0 _ _ e.1

pub give_back-requires : goal.give_back-requires
give_back-requires g c =
    let s = c.args.self.now.sound in
    let e = c.in_ok-taken.ensures _ s.whole in
    taken_within s g.met.K.Key.ordered _ _ e.0 _ _ e.1

pub invariant_of-self-2 : goal.invariant_of-self-2
invariant_of-self-2 g c =
    let s = c.args.self.now.sound in
    let e = c.in_ok-taken.ensures _ s.whole in
    record { sound = sound (given_back s g.met.K.Key.ordered _ _ e.0 _ _ e.1 _ _ c.read.ensures (c.give_back.ensures _ c.read.ensures)) }

pub returns : goal.returns
returns g c =
    let s = c.args.self.now.sound in
    let e = c.in_ok-taken.ensures _ s.whole in
    let o = g.met.K.Key.ordered in
    let back = given_back s o _ _ e.0 _ _ e.1 _ _ c.read.ensures (c.give_back.ensures _ c.read.ensures) in
    taken_out s o _ _ e.0 _ _ e.1 _ _ c.read.ensures (entries_are back ∙ ap (map entry) e.1.order)
