-- The bytes that are taken out have the number that they have in the area.
use Rattle.std.proofs.Common.{◌+◌, ◌-◌, arith}
use Rattle.store.proofs.Digits.{le_taken}
use Rattle.store.proofs.bytes.get.Goals as goal

pub returns : goal.returns
returns g c = le_taken g.row.WIDTH c.args.at ((c.args.at + g.row.WIDTH) - c.args.at) c.args.area.now c.copy_from_slice.new.self (omega arith) c.copy_from_slice.ensures.after
