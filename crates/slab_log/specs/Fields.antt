-- The bits of a word, and that an entry's two numbers fit their fields.
use Rattle.std.specs.Prelude.{ℕ, ◌+◌, ◌-◌, ◌/◌, ◌%◌, ◌^◌, ◌<◌, ◌≤◌}
use Rattle.std.proofs.Common.{arith}
use Rattle.slab_log.specs.Limits.{longest_run}

-- bits high down to low of a word
abbrev pub bits : ℕ → ℕ → ℕ → ℕ
bits high low w = (w / (2 ^ low)) % (2 ^ (high + 1 - low))

pub offset_low : (w : ℕ) → bits 62 16 w < 2 ^ 47
offset_low w = omega arith

pub run_some : (w : ℕ) → 1 ≤ bits 14 0 w + 1
run_some w = omega arith

pub run_most : (w : ℕ) → bits 14 0 w + 1 ≤ longest_run
run_most w = omega arith
