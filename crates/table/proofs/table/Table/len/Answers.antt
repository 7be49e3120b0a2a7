-- The number of pairs is kept beside the records, which are sound.
use Rattle.table.proofs.Soundness.{known}
use Rattle.table.proofs.table.Table.len.Goals as goal

pub returns : goal.returns
returns g c =
    let k = known _ _ _ c.args.self.now.sound in
    record { counts = k.counts; most = k.most; ordered = k.ordered }
