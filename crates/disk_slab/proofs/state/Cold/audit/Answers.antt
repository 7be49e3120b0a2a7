-- The fault goes up as it is; else the parts of the audit are those of the space and of the words.
use Rattle.std.proofs.lemmas.Result.{err_from_is_err_and}
use Rattle.disk_slab.specs.Audits.Audits.{faulty}
use Rattle.disk_slab.proofs.Audited.{audited}
use Rattle.disk_slab.proofs.state.Cold.audit.Goals as goal

pub returns-in_err-space : goal.returns-in_err-space
returns-in_err-space g c =
    let p = err_from_is_err_and c.from_residual.result c.from_residual.ensures.1 in
    rw (p.1, p.2) (faulty c.in_err-space.ensures)

pub returns : goal.returns
returns g c =
    let now = c.args.self.now in
    audited now.size c.in_ok-space.space (g.S.LogStore.words now.store) c.count.result c.tally_of.result c.figures_of.result
    c.condensed_len.result c.in_ok-space.ensures c.tally_of.ensures c.figures_of.ensures c.count.ensures c.condensed_len.ensures
