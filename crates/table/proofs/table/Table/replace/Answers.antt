-- `replace` changes the record of the key where it stands, or leaves all as it was.
use Rattle.table.proofs.Model.{nth_some}
use Rattle.table.proofs.Soundness.{sound, entries_are}
use Rattle.table.proofs.Replacing.{pairs_kept, place_within, records_exchanged, pairs_exchanged}
use Rattle.table.proofs.table.Table.replace.Goals as goal

pub returns-in_default : goal.returns-in_default
returns-in_default g c =
    let s = c.args.self.now.sound in
    pairs_kept g.K.Key.before g.met.K.Key.ordered _ _ _ s.whole.sorted _ (c.in_default.ensures _ s.whole)

pub refill-requires : goal.refill-requires
refill-requires g c =
    let s = c.args.self.now.sound in
    place_within g.K.Key.before g.met.K.Key.ordered _ _ s _ (c.in-Some.ensures _ s.whole) c.args.value

pub invariant_of-self : goal.invariant_of-self
invariant_of-self g c =
    let s = c.args.self.now.sound in
    let found = c.in-Some.ensures _ s.whole in
    let n = nth_some c.args.self.now.nodes c.in-Some.at (place_within g.K.Key.before g.met.K.Key.ordered _ _ s _ found c.args.value) in
    record { sound = sound (records_exchanged g.K.Key.before g.met.K.Key.ordered _ _ s _ found c.args.value n.0 n.1 _ (c.refill.ensures n.0 n.1)) }

pub returns : goal.returns
returns g c =
    let s = c.args.self.now.sound in
    let found = c.in-Some.ensures _ s.whole in
    let n = nth_some c.args.self.now.nodes c.in-Some.at (place_within g.K.Key.before g.met.K.Key.ordered _ _ s _ found c.args.value) in
    let after = records_exchanged g.K.Key.before g.met.K.Key.ordered _ _ s _ found c.args.value n.0 n.1 _ (c.refill.ensures n.0 n.1) in
    rw (entries_are after) (pairs_exchanged g.K.Key.before g.met.K.Key.ordered _ _ s _ found c.args.value)
