-- The list has the new word at its end, and only the bytes of its place and of the count have changed.
use Rattle.std.specs.Prelude.{Ok}
use Rattle.std.proofs.Common.{◌+◌, ◌*◌, ◌<◌, refl, ap, ◌∙◌, arith, rules}
use Rattle.store.specs.Image.{count_field, capacity_field}
use Rattle.store.specs.Changes.{Checks}
use Rattle.store.proofs.Images.{count_met, capacity_met, added, Added}
use Rattle.store.proofs.layout.add_to.Goals as goal

pub returns-then-header : goal.returns-then-header
returns-then-header c =
    let area = c.args.area.now in
    let checked : Checks area (Ok c.in_ok-header.header) = search rules in
    record {
      kept = refl;
      adds = (omega (arith, checked.1.count, checked.1.capacity, count_met area checked.0, capacity_met area checked.0), refl, refl);
      changes = refl;
    }

pub returns : goal.returns
returns c =
    let area = c.args.area.now in
    let checked : Checks area (Ok c.in_ok-header.header) = search rules in
    let room : count_field area < capacity_field area = omega (arith, checked.1.count, checked.1.capacity, checked.0.count_within_capacity) in
    let a : Added area c.write_count.new.area c.args.w =
    added area c.write_word.new.area c.write_count.new.area c.args.w (c.in_ok-header.header.first + 8 * c.in_ok-header.header.count) checked.0 room (omega (arith, checked.1.first, checked.1.count))
    c.write_word.ensures.word c.write_word.ensures.others (c.write_count.ensures.count ∙ ap (λ k. k + 1) checked.1.count) c.write_count.ensures.others (search rules) (search rules) in
    record { kept = a.kept; adds = (a.room, a.words); changes = a.changes }
