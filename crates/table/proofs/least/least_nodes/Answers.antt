-- The constant is the list, and the list has its rule and bounds each tree.
use Rattle.std.proofs.Common.{rules, ◌≡◌, sym, ap, ◌∙◌}
use Rattle.std.specs.List.{slice_get}
use Rattle.table.specs.Least.{counts}
use Rattle.table.proofs.Bound.{rising, fewest_nodes, size_tall}
use Rattle.table.proofs.least.least_nodes.Goals as goal

pub returns : goal.returns
returns c =
    let is : c.copied.result ≡ slice_get counts c.args.height = search rules in
    record { listed = is; rising = rising; fewest = λ t a e. fewest_nodes t _ a (is ∙ ap (slice_get counts) (sym e)); low = size_tall }
