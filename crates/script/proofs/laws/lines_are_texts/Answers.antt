-- The law is a lemma.
use Rattle.script.proofs.Texts.{lines_are_texts}
use Rattle.script.proofs.laws.lines_are_texts.Goals as goal

pub returns : goal.returns
returns c = lines_are_texts
