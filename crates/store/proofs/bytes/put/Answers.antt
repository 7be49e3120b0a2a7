-- The number stands where its bytes were copied to, and the other bytes are as before.
use Rattle.std.proofs.Common.{◌≡◌, ◌+◌, ◌-◌, length, sym, arith, length-take, length-drop, ap, ◌∙◌}
use Rattle.store.proofs.Digits.{overwritten, le_put, outside}
use Rattle.store.proofs.bytes.put.Goals as goal

pub returns : goal.returns
returns g c =
    let at = c.args.at in
    let area = c.args.area.now in
    let bytes = c.args.bytes in
    let part = c.copy_from_slice.new.self in
    let k = (at + g.row.WIDTH) - at in
    let is : part ≡ bytes = c.copy_from_slice.ensures.after in
    let long : length bytes ≡ g.row.WIDTH = ap length (sym is) ∙ c.copy_from_slice.ensures.len ∙ simp (length-take, length-drop) (omega arith) in
    let w = overwritten at k area bytes part (omega arith) is (omega arith) in
    record {
      value = le_put g.row.WIDTH at area _ bytes long w;
      others = outside g.row.WIDTH at area _ bytes long w;
    }
