-- The tests are made in order, the return is logged, and then its sectors are free.
use Rattle.std.proofs.Common.{refl, ap, ⊎_elim, arith}
use Rattle.std.proofs.lemmas.Result.{err_from_is_err_and}
use Rattle.slab_log.specs.declared.entry.Effect.TheVariants.{Frees as Freeing}
use Rattle.slab_log.proofs.Written.{words_length}
use Rattle.space.specs.Free.{sectors_of, free_in}
use Rattle.space.proofs.Meant.{returned, no_fault}
use Rattle.disk_slab.specs.Answers.Frees.{beyond, already, too_many, freed}
use Rattle.disk_slab.proofs.Views.{same_running}
use Rattle.disk_slab.proofs.Written.{return_lacks}
use Rattle.disk_slab.proofs.logged.give_back.Goals as goal

pub returns-then-extent-size : goal.returns-then-extent-size
returns-then-extent-size g c =
    let size = ap (λ z. z.sectors) c.size.ensures in
    record { answer = beyond refl (omega arith); leaves = refl }

pub returns-in_default : goal.returns-in_default
returns-in_default g c =
    let size = ap (λ z. z.sectors) c.size.ensures in
    record {
      answer = ⊎_elim (λ past. absurd (omega arith)) (λ met. already refl (omega arith) met) c.in_default.ensures;
      leaves = refl;
    }

pub returns-then-standing-ge-MOST_EXTENTS : goal.returns-then-standing-ge-MOST_EXTENTS
returns-then-standing-ge-MOST_EXTENTS g c =
    let after = c.in-Some.ensures in
    record { answer = too_many refl (after.0, after.1) (omega arith); leaves = refl }

pub returns-in_err-add_extent : goal.returns-in_err-add_extent
returns-in_err-add_extent g c =
    let p = err_from_is_err_and c.from_residual.result c.from_residual.ensures.1 in
    let full = c.in_err-add_extent.ensures in
    let after = c.in-Some.ensures in
    rw (p.1, p.2)
    (record {
      answer = return_lacks _ refl c.args.extent _ (after.0, after.1) (omega arith) full.adds.0 full.adds.1;
      leaves = same_running refl full.kept full.adds.2 refl;
    })

pub unwrap-requires : goal.unwrap-requires
unwrap-requires g c =
    let now = c.args.space.now in
    let after = c.in-Some.ensures in
    let fine = returned (sectors_of now) (free_in now) c.args.extent.start c.args.extent.length after.0 after.1 (omega arith) in
    no_fault _ _ _ _ c.give_back.result fine c.give_back.ensures

pub returns : goal.returns
returns g c =
    let now = c.args.space.now in
    let after = c.in-Some.ensures in
    let fine = returned (sectors_of now) (free_in now) c.args.extent.start c.args.extent.length after.0 after.1 (omega arith) in
    let done = rw (c.unwrap.ensures) at c.give_back.ensures in
    let logged = c.in_ok-add_extent.ensures in
    let n = words_length Freeing c.args.extent.start c.args.extent.length (omega (arith, c.args.extent.some)) in
    record {
      answer = freed refl (after.0, after.1) (omega arith) (omega (arith, logged.adds.0));
      leaves = same_running (ap (λ z. z.sectors) done.1) logged.kept logged.adds.1 (cc (done.0, fine));
    }
