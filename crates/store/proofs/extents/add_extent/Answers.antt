-- The places are counted first, so that each word finds one.
use Rattle.std.proofs.Common.{◌≡◌, ◌++◌, length, sym, refl, ap, ◌∙◌, arith}
use Rattle.std.proofs.lemmas.Result.{err_from_is_err_and}
use Rattle.slab_log.specs.Words.{words_of, left}
use Rattle.slab_log.proofs.Written.{words_length}
use Rattle.store.proofs.Appended.{next_added, one_appended, all_appended}
use Rattle.store.proofs.extents.add_extent.Goals as goal

pub returns-in_err-room_for-clause-adds : goal.returns-in_err-room_for-clause-adds
returns-in_err-room_for-clause-adds g c =
    let e = c.args.extent in
    let long = words_length c.args.effect e.start e.length e.some in
    let same : c.entries.result ≡ length (words_of c.args.effect e.start e.length) = c.entries.ensures ∙ sym long in
    let p = err_from_is_err_and c.from_residual.result c.from_residual.ensures.1 in
    let lacks = c.in_err-room_for.ensures in
    rw (p.1) (omega (arith, same, lacks.0), cc (p.2, lacks.1, same), refl)

pub loop-word-init : goal.loop-word-init
loop-word-init g c =
    let e = c.args.extent in
    let long = words_length c.args.effect e.start e.length e.some in
    record {
      kept = refl;
      words = ap (λ l. g.S.LogStore.words c.args.store.now ++ l) (ap left c.into_iter-word-iterator.ensures.into_iter_gives ∙ c.words-word-items.ensures);
      fits = omega (arith, long, c.entries.ensures, c.in_ok-room_for.ensures);
    }

pub loop-word-preserved : goal.loop-word-preserved
loop-word-preserved g c = one_appended _ _ _ _ _ c.in-Some.word _ _ c.in-Some.ensures.steps c.loop-word.invariant _ _ c.add.ensures.kept (rw (c.unwrap.ensures) at c.add.ensures.adds).1

pub unwrap-requires : goal.unwrap-requires
unwrap-requires g c = next_added _ _ _ _ _ c.in-Some.word _ _ c.in-Some.ensures.steps c.loop-word.invariant _ c.add.result c.add.ensures.adds

pub returns : goal.returns
returns g c =
    let a = c.loop-word.invariant in
    record { kept = a.kept; adds = (a.fits, all_appended _ _ _ _ _ _ c.in-None.ensures.steps.0 a) }
