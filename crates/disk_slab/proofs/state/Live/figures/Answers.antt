-- The figures of a running slab are those of its space.
use Rattle.std.proofs.Common.{ℕ, refl, subst}
use Rattle.space.specs.Free.{sectors_of, free_in}
use Rattle.disk_slab.specs.Answers.{Sums}
use Rattle.disk_slab.specs.Answers.Shows.{stopped, running}
use Rattle.disk_slab.proofs.Views.{seen_running, seen_stopped}
use Rattle.disk_slab.proofs.state.Live.figures.Goals as goal

pub returns-in-Ok : goal.returns-in-Ok
returns-in-Ok g c =
    let now = c.args.self.now in
    let space = c.in-Ok.space in
    let sums = subst (λ (n : ℕ). Sums (sectors_of space) (free_in space) n c.figures_of.result) c.count-words.ensures c.figures_of.ensures in
    rw (seen_running g.S.LogStore now.size now.space now.store space c.in-Ok.is now.sized) (running refl sums)

pub returns-in-Err : goal.returns-in-Err
returns-in-Err g c =
    let now = c.args.self.now in
    let zero = c.default.ensures in
    rw (seen_stopped g.S.LogStore now.size now.space now.store c.in-Err.field-0 c.in-Err.is, c.count-words.ensures, zero.0, zero.1.0, zero.1.1.0) (stopped refl)
