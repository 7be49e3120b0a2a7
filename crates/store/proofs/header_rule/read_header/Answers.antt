-- The four numbers are those that stand in the header.
use Rattle.std.proofs.Common.{sym, ◌∙◌}
use Rattle.store.proofs.Digits.{le_four}
use Rattle.store.proofs.header_rule.read_header.Goals as goal

pub returns : goal.returns
returns c = record {
  count = c.from_le_bytes.ensures ∙ sym (le_four c.get.result 0) ∙ c.get.ensures;
  capacity = c.from_le_bytes-2.ensures ∙ sym (le_four c.get-2.result 0) ∙ c.get-2.ensures;
  first = c.from_le_bytes-3.ensures ∙ sym (le_four c.get-3.result 0) ∙ c.get-3.ensures;
  end = c.from_le_bytes-4.ensures ∙ sym (le_four c.get-4.result 0) ∙ c.get-4.ensures;
}
