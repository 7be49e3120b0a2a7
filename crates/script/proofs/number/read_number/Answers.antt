-- The digits at the front of the part are the number, where there are 1 to 10.
use Rattle.std.proofs.Common.{ℕ, List, length, sym, ap, ◌∙◌}
use Rattle.script.specs.Numbers.{front_digits, value}
use Rattle.script.proofs.Digits.{number_refused, number_counted}
use Rattle.script.proofs.number.read_number.Goals as goal

pub returns-then-digits-eq0 : goal.returns-then-digits-eq0
returns-then-digits-eq0 c =
    let counts = c.read_digits-digits.ensures.end ∙ ap (λ (bs : List ℕ). length (front_digits bs)) c.front_from.ensures in
    sym (number_refused c.args.line.now c.args.from _ counts c.then-digits-eq0.either)

pub returns : goal.returns
returns c =
    let front = c.front_from.ensures in
    let counts = c.read_digits-digits.ensures.end ∙ ap (λ (bs : List ℕ). length (front_digits bs)) front in
    let value_is = c.read_digits-digits.ensures.value ∙ ap (λ (bs : List ℕ). value (front_digits bs)) front in
    sym (number_counted c.args.line.now c.args.from _ counts _ c.if-digits-eq0.false c.if-digits-gt-MOST_DIGITS.false value_is)
