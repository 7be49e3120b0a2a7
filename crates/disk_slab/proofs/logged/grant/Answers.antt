-- The best fit is found, its front is logged, and then it is granted.
use Rattle.std.proofs.Common.{◌≡◌, None, Some, Err, refl, ap, rules, arith}
use Rattle.std.proofs.lemmas.Result.{err_from_is_err_and}
use Rattle.slab_log.specs.declared.entry.Effect.TheVariants.{Allocates as Allocating}
use Rattle.slab_log.specs.declared.refusal.Refusal.TheVariants.{NoSpace}
use Rattle.space.specs.Free.{free_in, Fits}
use Rattle.slab_log.proofs.Written.{words_length}
use Rattle.space.proofs.Meant.{no_fault}
use Rattle.disk_slab.specs.Answers.Allocates.{no_want, no_space, granted}
use Rattle.disk_slab.proofs.Views.{same_running}
use Rattle.disk_slab.proofs.Granted.{front_granted}
use Rattle.disk_slab.proofs.Written.{grant_lacks}
use Rattle.disk_slab.proofs.logged.grant.Goals as goal

pub returns-then-want-eq0 : goal.returns-then-want-eq0
returns-then-want-eq0 g c = record { answer = no_want refl c.if-want-eq0.true; leaves = refl }

pub returns-in_err-fit-clause-answer : goal.returns-in_err-fit-clause-answer
returns-in_err-fit-clause-answer g c =
    let none : Fits (free_in c.args.space.now) c.args.want None = search rules in
    let answer : c.from_residual.result ≡ Err NoSpace = search rules in
    rw (answer) (no_space refl (omega arith) (λ fits. omega (arith, none fits.0 fits.1 fits.2, fits.3)))

pub returns-in_err-add_extent : goal.returns-in_err-add_extent
returns-in_err-add_extent g c =
    let p = err_from_is_err_and c.from_residual-in_err-add_extent.result c.from_residual-in_err-add_extent.ensures.1 in
    let full = c.in_err-add_extent.ensures in
    let fit : Fits (free_in c.args.space.now) c.args.want (Some c.in_ok-fit.fit) = search rules in
    rw (p.1, p.2)
    (record {
      answer = grant_lacks _ refl c.args.want c.in_ok-fit.fit.start _ (omega arith)
          (c.in_ok-fit.fit.start, c.in_ok-fit.fit.length, fit.extent, fit.enough) full.adds.0 full.adds.1;
      leaves = same_running refl full.kept full.adds.2 refl;
    })

pub unwrap-requires : goal.unwrap-requires
unwrap-requires g c =
    let fit : Fits (free_in c.args.space.now) c.args.want (Some c.in_ok-fit.fit) = search rules in
    let fine = front_granted c.args.space.now c.args.want c.in_ok-fit.fit.start c.in_ok-fit.fit.length (omega arith) fit in
    no_fault _ _ _ _ c.grant.result fine c.grant.ensures

pub returns : goal.returns
returns g c =
    let fit : Fits (free_in c.args.space.now) c.args.want (Some c.in_ok-fit.fit) = search rules in
    let fine = front_granted c.args.space.now c.args.want c.in_ok-fit.fit.start c.in_ok-fit.fit.length (omega arith) fit in
    let done = rw (c.unwrap.ensures) at c.grant.ensures in
    let logged = c.in_ok-add_extent.ensures in
    let n = words_length Allocating c.in_ok-fit.fit.start c.args.want (omega arith) in
    record {
      answer = granted refl (omega arith) fit refl (omega (arith, logged.adds.0));
      leaves = same_running (ap (λ z. z.sectors) done.1) logged.kept logged.adds.1 (cc (done.0, fine));
    }
