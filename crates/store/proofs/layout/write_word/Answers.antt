-- The word stands in its place, and is not yet one of the image.
use Rattle.std.proofs.Common.{◌∙◌, arith, rules}
use Rattle.store.proofs.Digits.{le_bytes}
use Rattle.store.proofs.Images.{not_yet_added}
use Rattle.store.proofs.layout.write_word.Goals as goal

pub returns : goal.returns
returns c = record {
  word = c.put.ensures.value ∙ le_bytes 7 c.args.w c.to_le_bytes.result c.to_le_bytes.ensures (omega arith);
  others = c.put.ensures.others;
  unseen = not_yet_added c.args.area.now c.put.new.area c.args.place (search rules) c.put.ensures.others;
}
