-- The next free extent of a running slab is that of its space.
use Rattle.std.proofs.Common.{rules}
use Rattle.disk_slab.proofs.Views.{followed_lent}
use Rattle.disk_slab.proofs.state.Live.next.Goals as goal

pub returns-in_err-ok : goal.returns-in_err-ok
returns-in_err-ok g c =
    let now = c.args.self.now in
    followed_lent g.S.LogStore now.size now.space now.store now.sized c.as_ref.result c.as_ref.ensures.value c.ok.result c.ok.ensures.value c.args.sector _ (search rules)

pub returns : goal.returns
returns g c =
    let now = c.args.self.now in
    followed_lent g.S.LogStore now.size now.space now.store now.sized c.as_ref.result c.as_ref.ensures.value c.ok.result c.ok.ensures.value c.args.sector _ (search rules)
