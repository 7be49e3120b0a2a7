-- A stopped slab refuses, and a running one writes the condensed log and stays sound.
use Rattle.std.proofs.Common.{◌≡◌, Err, sym, refl, ◌∙◌, rules}
use Rattle.disk_slab.specs.View.{running}
use Rattle.disk_slab.specs.Answers.{with_words}
use Rattle.disk_slab.specs.Answers.Condenses.{stopped}
use Rattle.disk_slab.proofs.Granted.{within_in}
use Rattle.disk_slab.proofs.Views.{same_running, seen_running, seen_stopped, lent_is}
use Rattle.disk_slab.proofs.Loads.{sound_before, replayed_after}
use Rattle.disk_slab.proofs.Kept.{condense_keeps, condense_fits}
use Rattle.disk_slab.proofs.state.Live.condense.Goals as goal

pub returns-in_err-space-clause-answer : goal.returns-in_err-space-clause-answer
returns-in_err-space-clause-answer g c =
    let now = c.args.self.now in
    let p = rw (c.in_err-space.was) at (lent_is now.space c.as_ref.result c.as_ref.ensures.value c.map_err.result (search rules)) in
    let answer : c.from_residual.result ≡ Err c.in_err-space.field-0.0 = search rules in
    rw (seen_stopped g.S.LogStore now.size now.space now.store p.0 p.1, answer, p.2) (stopped refl refl)

pub invariant_of-self-2 : goal.invariant_of-self-2
invariant_of-self-2 g c =
    let now = c.args.self.now in
    let space = c.in_ok-space.space.now in
    let is = rw (c.in_ok-space.was) at (lent_is now.space c.as_ref.result c.as_ref.ensures.value c.map_err.result (search rules)) in
    let v = running g.S.LogStore space now.store in
    let after = g.S.LogStore.words c.condense.new.store in
    let sound = condense_keeps v space.size.most after c.condense.result (within_in space) c.condense.ensures.answer
    (sound_before g.S.LogStore now.size now.space now.store space is now.sized now.sound) in
    let kept = replayed_after g.S.LogStore now.size now.space now.store space is now.sized space c.condense.new.store (with_words v after)
    (same_running refl c.condense.ensures.kept refl refl) refl sound in
    record { sized = now.sized; sound = λ other same. kept other (sym is ∙ same) }

pub returns-clause-room : goal.returns-clause-room
returns-clause-room g c =
    let now = c.args.self.now in
    let space = c.in_ok-space.space.now in
    let is = rw (c.in_ok-space.was) at (lent_is now.space c.as_ref.result c.as_ref.ensures.value c.map_err.result (search rules)) in
    condense_fits (running g.S.LogStore space now.store) (g.S.LogStore.words c.condense.new.store) c.condense.result (g.S.LogStore.bounded now.store)
    c.condense.ensures.answer (sound_before g.S.LogStore now.size now.space now.store space is now.sized now.sound)
