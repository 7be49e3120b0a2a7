-- The condensed log is counted before the store is emptied for it.
use Rattle.std.proofs.Common.{refl, ◌∙◌, arith}
use Rattle.slab_log.proofs.Unique.{condensed_exists}
use Rattle.space.specs.Free.{sectors_of, free_in}
use Rattle.disk_slab.specs.Answers.Condenses.{too_many, log_full}
use Rattle.disk_slab.proofs.Written.{condensed_written}
use Rattle.disk_slab.proofs.logged.condense.Goals as goal

pub returns-then-free_extents-ge-MOST_EXTENTS : goal.returns-then-free_extents-ge-MOST_EXTENTS
returns-then-free_extents-ge-MOST_EXTENTS g c = record { kept = refl; answer = too_many refl (omega (arith, c.free_extents.ensures)) refl }

pub returns-then-places-needed : goal.returns-then-places-needed
returns-then-places-needed g c =
    let now = c.args.space.now in
    let all = condensed_exists (sectors_of now) (free_in now) in
    let same = c.condensed_len-needed.ensures all.0 all.1 in
    let places = c.capacity-places.ensures in
    record {
      kept = refl;
      answer = rw (places, same) (log_full refl (omega (arith, c.free_extents.ensures)) all.1 (omega arith) refl);
    }

pub returns : goal.returns
returns g c =
    let now = c.args.space.now in
    let same = c.condensed_len-needed.ensures in
    let places = c.capacity-places.ensures in
    record {
      kept = c.write_condensed.ensures.kept ∙ c.empty.ensures.kept;
      answer =
          condensed_written now _ _ _ _ _ c.write_condensed.result (omega (arith, c.free_extents.ensures)) c.empty.ensures.emptied c.empty.ensures.kept
          (λ log all. omega (arith, same log all)) c.write_condensed.ensures.writes;
    }
