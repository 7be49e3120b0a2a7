-- The loop keeps what the digits so far write, and how many they are.
use Rattle.script.proofs.Digits.{Read}
use Rattle.script.proofs.number.read_digits.Given as goal

abbrev pub invariant-loop-digit : goal.invariant-loop-digit
invariant-loop-digit l = Read l.bytes l.digit-index l.value l.end
