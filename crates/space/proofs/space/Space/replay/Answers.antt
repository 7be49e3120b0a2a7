-- Each word does what replay says of it.
use Rattle.std.proofs.Common.{◌≡◌, Err, sym, ap, ◌∙◌, rules}
use Rattle.slab_log.specs.Sectors.{whole}
use Rattle.slab_log.specs.Replay.{replay}
use Rattle.space.proofs.Replayed.{begun, one_more, all_done}
use Rattle.space.proofs.space.Space.replay.Goals as goal

pub loop-place-init : goal.loop-place-init
loop-place-init g c =
    let new = c.new-space.ensures in
    begun _ _ _ _ (cc (c.enumerate-place-items.ensures.count)) (cc (c.enumerate-place-items.ensures.source)) (new.sectors ∙ ap (λ z. whole z.sectors) (sym new.size))

pub returns-in_err-map_err : goal.returns-in_err-map_err
returns-in_err-map_err g c =
    let next = c.in-Some.ensures.steps in
    let more = one_more _ _ _ _ _ _ c.loop-place.space c.take_word.new.self c.in-Some.word c.loop-place.invariant next.0 next.2 c.take_word.result c.map_err.result c.take_word.ensures (search rules) in
    let fails = rw (c.in_err-map_err.was) at more in
    let answer : c.from_residual.result ≡ Err c.in_err-map_err.field-0.0 = search rules in
    rw (answer) (ap (λ z. replay z.sectors (g.S.LogStore.words c.args.store.now)) (sym c.new-space.ensures.size) ∙ fails)

pub loop-place-preserved : goal.loop-place-preserved
loop-place-preserved g c =
    let next = c.in-Some.ensures.steps in
    let more = one_more _ _ _ _ _ _ c.loop-place.space c.take_word.new.self c.in-Some.word c.loop-place.invariant next.0 next.2 c.take_word.result c.map_err.result c.take_word.ensures (search rules) in
    rw (c.in_ok-map_err.was) at more

pub returns : goal.returns
returns g c =
    let sofar = c.loop-place.invariant in
    let all = all_done _ _ _ _ c.loop-place.space c.in-None.ensures.steps.0.0 sofar in
    (ap (λ z. replay z.sectors (g.S.LogStore.words c.args.store.now)) (sym c.new-space.ensures.size) ∙ all, sofar.size ∙ c.new-space.ensures.size)
