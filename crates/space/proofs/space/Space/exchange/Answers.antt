-- Both tables have the new extent for the old one.
use Rattle.std.proofs.Common.{◌≡◌, length, sym, refl, ap, ◌∙◌, subst, rules, arith}
use Rattle.slab_log.specs.Replay.{grant}
use Rattle.table.specs.Table.{pairs as starts}
use Rattle.space.specs.Extents.{free_of}
use Rattle.space.specs.Free.{sectors_of}
use Rattle.space.specs.Tables.{Clear}
use Rattle.space.proofs.Spaced.{total_most}
use Rattle.space.proofs.Moves.{exchange_both}
use Rattle.space.proofs.Spaces.{held_in, spaced_in, few_in, lengths_ordered}
use Rattle.space.proofs.space.Space.exchange.Goals as goal

pub overflow_sub-self : goal.overflow_sub-self
overflow_sub-self c =
    let now = c.args.self.now in
    let old = c.args.old in
    let new = c.args.new in
    (exchange_both (sectors_of now) now.free old.start old.len new.start new.len _ _ _ _ _ (held_in now) c.requires.held (lengths_ordered now) (few_in now) new.some c.requires.within c.requires.clear _ _ c.if-replace.true c.replace.ensures _ c.remove.ensures c.insert.ensures).few

pub overflow_add-self : goal.overflow_add-self
overflow_add-self c =
    let now = c.args.self.now in
    omega (arith, total_most 0 now.size.sectors _ (spaced_in now), now.counted, c.requires.within, now.size.most)

pub invariant_of-self : goal.invariant_of-self
invariant_of-self c =
    let now = c.args.self.now in
    let old = c.args.old in
    let new = c.args.new in
    let held = (exchange_both (sectors_of now) now.free old.start old.len new.start new.len _ _ _ _ _ (held_in now) c.requires.held (lengths_ordered now) (few_in now) new.some c.requires.within c.requires.clear _ _ c.if-replace.true c.replace.ensures _ c.remove.ensures c.insert.ensures).held in
    record { spaced = ∣ held.spaced ∣₁; twins = held.twins; level = held.level; counted = held.counted }

pub put_in-requires-clause-clear : goal.put_in-requires-clause-clear
put_in-requires-clause-clear c =
    let now = c.args.self.now in
    let old = c.args.old in
    let stays : starts c.replace.new.self ≡ starts now.by_start = search rules in
    subst (λ f. Clear f c.args.new.start c.args.new.len) (sym (c.take_out.ensures.moved.sectors ∙ ap (λ es. grant (free_of es) old.start old.len) stays)) c.requires.clear

pub put_in-requires-clause-few : goal.put_in-requires-clause-few
put_in-requires-clause-few c =
    let now = c.args.self.now in
    let stays : starts c.replace.new.self ≡ starts now.by_start = search rules in
    omega (arith, c.take_out.ensures.fewer, few_in now, ap length stays)

pub returns-then-replace-clause-moved : goal.returns-then-replace-clause-moved
returns-then-replace-clause-moved c =
    let now = c.args.self.now in
    let old = c.args.old in
    let new = c.args.new in
    record { sectors = (exchange_both (sectors_of now) now.free old.start old.len new.start new.len _ _ _ _ _ (held_in now) c.requires.held (lengths_ordered now) (few_in now) new.some c.requires.within c.requires.clear _ _ c.if-replace.true c.replace.ensures _ c.remove.ensures c.insert.ensures).sectors; size = refl }

pub returns-then-replace-clause-level : goal.returns-then-replace-clause-level
returns-then-replace-clause-level c =
    let now = c.args.self.now in
    let old = c.args.old in
    let new = c.args.new in
    (exchange_both (sectors_of now) now.free old.start old.len new.start new.len _ _ _ _ _ (held_in now) c.requires.held (lengths_ordered now) (few_in now) new.some c.requires.within c.requires.clear _ _ c.if-replace.true c.replace.ensures _ c.remove.ensures c.insert.ensures).level
