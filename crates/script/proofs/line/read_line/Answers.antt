-- An `a` asks for what its number gives.
use Rattle.std.proofs.Common.{◌∙◌, rules}
use Rattle.script.specs.declared.command.Command.TheVariants.{Allocate}
use Rattle.script.proofs.line.read_line.Goals as goal

pub returns-in-Some-a : goal.returns-in-Some-a
returns-in-Some-a c = c.one_number-in-Some-a.ensures Allocate (λ n command e. search rules) ∙ search rules
