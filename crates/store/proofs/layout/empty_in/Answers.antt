-- An area that meets the rule has the same capacity with a count of 0.
use Rattle.std.proofs.Common.{rules}
use Rattle.store.specs.Image.{MeetsRule}
use Rattle.store.proofs.Images.{emptied, Emptied}
use Rattle.store.proofs.layout.empty_in.Goals as goal

pub returns-then-is_ok-clause-kept : goal.returns-then-is_ok-clause-kept
returns-then-is_ok-clause-kept c =
    let area = c.args.area.now in
    let meets : MeetsRule area = search rules in
    (emptied area c.write_count.new.area meets c.write_count.ensures.count c.write_count.ensures.others (search rules)).kept
