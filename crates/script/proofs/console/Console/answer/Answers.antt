-- A line leads to the next stage, or the slab answers it, or it is refused.
use Rattle.script.proofs.Answered.{read_as, turned, still_refused}
use Rattle.script.proofs.console.Console.answer.Goals as goal

pub returns-in-Some : goal.returns-in-Some
returns-in-Some g c =
    let e = c.turn.ensures in
    record { answers = read_as c.read_line-command.ensures (rw (e.reply, e.leaves) (turned _ _ c.in-Some.next c.in-Some.ensures)) }

pub returns-in-Some-Refused : goal.returns-in-Some-Refused
returns-in-Some-Refused g c = record {
  answers = read_as c.read_line-command.ensures (still_refused g.S.LogStore _ _ _ c.in-Some-Refused.is c.in-Some-Refused.field-0-is);
}
