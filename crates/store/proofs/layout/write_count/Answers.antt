-- The number stands in the count's place.
use Rattle.std.proofs.Common.{◌∙◌, arith}
use Rattle.store.proofs.Digits.{le_bytes}
use Rattle.store.proofs.layout.write_count.Goals as goal

pub returns : goal.returns
returns c = record {
  count = c.put.ensures.value ∙ le_bytes 3 c.args.n c.to_le_bytes.result c.to_le_bytes.ensures (omega arith);
  others = c.put.ensures.others;
}
