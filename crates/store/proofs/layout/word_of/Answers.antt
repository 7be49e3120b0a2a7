-- The word that is read is that of the list.
use Rattle.std.specs.Prelude.{Ok}
use Rattle.std.proofs.Common.{sym, ◌+◌, ◌*◌, ◌<◌, refl, ap, ◌∙◌, arith, rules}
use Rattle.store.specs.Bytes.{le64}
use Rattle.store.specs.Image.{count_field}
use Rattle.store.specs.Changes.{Checks}
use Rattle.store.proofs.Digits.{le_eight}
use Rattle.store.proofs.Images.{count_met, word_met}
use Rattle.store.proofs.layout.word_of.Goals as goal

pub returns-then-i-header : goal.returns-then-i-header
returns-then-i-header c =
    let checked : Checks c.args.area.now (Ok c.in_ok-header.header) = search rules in
    (omega (arith, checked.1.count, count_met c.args.area.now checked.0), refl)

pub returns : goal.returns
returns c =
    let area = c.args.area.now in
    let checked : Checks area (Ok c.in_ok-header.header) = search rules in
    let below : c.args.i < count_field area = omega (arith, checked.1.count) in (
      omega (arith, count_met area checked.0),
      c.from_le_bytes.ensures ∙ sym (le_eight c.get-word.result 0) ∙ c.get-word.ensures ∙ ap (λ first. le64 area (first + 8 * c.args.i)) checked.1.first ∙ word_met area checked.0 c.args.i below,
    )
