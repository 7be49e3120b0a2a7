-- A word finds no place only where there are as many as an own store has.
use Rattle.std.proofs.Common.{◌≡◌, ◌-◌, length, ap, ◌∙◌, arith}
use Rattle.std.proofs.lemmas.Result.{err_from_is_err_and}
use Rattle.slab_log.specs.declared.entry.Effect.TheVariants.{Allocates}
use Rattle.slab_log.specs.Words.{words_of}
use Rattle.store.specs.Own.{own_places}
use Rattle.samples.proofs.Teeth.{comb_length}
use Rattle.samples.proofs.combs.comb_of.Goals as goal

pub returns-in_err-add_extent-clause-full : goal.returns-in_err-add_extent-clause-full
returns-in_err-add_extent-clause-full c =
    let e = c.in_ok-extent.extent in
    let long : length c.loop-tooth.store.words.items ≡ c.loop-tooth.tooth = ap length c.loop-tooth.invariant ∙ comb_length c.loop-tooth.tooth in
    let one : length (words_of Allocates e.start e.length) ≡ 1 = ap (λ n. length (words_of Allocates e.start n)) c.in_ok-extent.ensures.1 in
    let lacks = c.in_err-add_extent.ensures.adds in
    let none : own_places - length c.loop-tooth.store.words.items ≡ 0 = omega (arith, one, lacks.0) in
    let p = err_from_is_err_and c.from_residual-in_err-add_extent.result c.from_residual-in_err-add_extent.ensures.1 in
    rw (p.1) (omega (arith, long, one, lacks.0, c.loop-tooth-test.true), cc (p.2, lacks.1, none, one))
