-- The four numbers stand in the header, and the bytes behind it are as before.
use Rattle.std.proofs.Common.{sym, ◌∙◌, arith}
use Rattle.store.proofs.Digits.{le_apart, le_bytes}
use Rattle.store.proofs.header_rule.write_header.Goals as goal

pub returns : goal.returns
returns c =
    let h = c.args.header in
    let p = c.put.ensures in
    let q = c.put-2.ensures in
    let r = c.put-3.ensures in
    let s = c.put-4.ensures in
    record {
      written = record {
        count = sym (le_apart 4 0 _ _ 12 4 s.others (omega arith) ∙ le_apart 4 0 _ _ 8 4 r.others (omega arith) ∙ le_apart 4 0 _ _ 4 4 q.others (omega arith) ∙ p.value ∙ le_bytes 3 h.count c.to_le_bytes.result c.to_le_bytes.ensures (omega arith));
        capacity = sym (le_apart 4 4 _ _ 12 4 s.others (omega arith) ∙ le_apart 4 4 _ _ 8 4 r.others (omega arith) ∙ q.value ∙ le_bytes 3 h.capacity c.to_le_bytes-2.result c.to_le_bytes-2.ensures (omega arith));
        first = sym (le_apart 4 8 _ _ 12 4 s.others (omega arith) ∙ r.value ∙ le_bytes 3 h.first c.to_le_bytes-3.result c.to_le_bytes-3.ensures (omega arith));
        end = sym (s.value ∙ le_bytes 3 h.end c.to_le_bytes-4.result c.to_le_bytes-4.ensures (omega arith));
      };
      others = record {
        in_front = λ k h. absurd (omega arith);
        behind = λ k h. s.others.behind k (omega arith) ∙ r.others.behind k (omega arith) ∙ q.others.behind k (omega arith) ∙ p.others.behind k (omega arith);
      };
    }
