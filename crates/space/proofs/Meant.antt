-- What granting and giving back mean, once their tests are known.
use Rattle.std.proofs.Common.{◌≡◌, ℕ, ◌+◌, ◌<◌, ◌≤◌, true, false, ◌&&◌, eqb, ltb, leb, Result, Ok, Err, refl, arith}
use Rattle.std.proofs.lemmas.Bool.{le-ltb, le-leb, lt-leb, and_parts, eqb-true, leb-true}
use Rattle.std.specs.Prelude.{IsOk}
use Rattle.slab_log.specs.Limits.{most_extents}
use Rattle.slab_log.specs.Sectors.{Sectors, used, meets, runs}
use Rattle.slab_log.specs.Replay.{grant, give_back, granting, returning}
use Rattle.slab_log.specs.declared.fault.Fault.{Fault}
use Rattle.slab_log.specs.declared.fault.Fault.TheVariants.{Crowded}
use Rattle.space.specs.Free.{Changes}
use Rattle.space.specs.declared.space.Space.{Space}

module _ (size : ℕ) (free : Sectors) (start len : ℕ) where
  module _ (fits : start + len ≤ size) where
    inside : ltb size (start + len) ≡ false
    inside = le-ltb size (start + len) fits

    pub granted : meets (used size free) start len ≡ false → runs (grant free start len) size ≤ most_extents →
        granting size free start len ≡ Ok (grant free start len)
    granted met few = let room = le-leb (runs (grant free start len) size) most_extents few in rw (inside, met, room)

    pub granted_crowded : meets (used size free) start len ≡ false → most_extents < runs (grant free start len) size →
        granting size free start len ≡ Err Crowded
    granted_crowded met many = let full = lt-leb (runs (grant free start len) size) most_extents many in rw (inside, met, full)

    pub returned : meets free start len ≡ false → runs (give_back free start len) size ≤ most_extents →
        returning size free start len ≡ Ok (give_back free start len)
    returned met few = let room = le-leb (runs (give_back free start len) size) most_extents few in rw (inside, met, room)

    pub returned_crowded : meets free start len ≡ false → most_extents < runs (give_back free start len) size →
        returning size free start len ≡ Err Crowded
    returned_crowded met many = let full = lt-leb (runs (give_back free start len) size) most_extents many in rw (inside, met, full)

-- what means a set of sectors is not refused
pub no_fault : (before after : Space) (meant : Result Sectors Fault) (free : Sectors) (r : Result (Unit {0}) Fault) → meant ≡ Ok free → Changes before meant after r → IsOk r
no_fault before after meant free (Ok u) fine done = refl
no_fault before after meant free (Err f) fine fault = let z : ◌≡◌ {A = ℕ} 0 1 = cc in absurd (omega arith)

-- the run has no free extent beside it, and there is no room for one more
pub full_alone : (first start last end n : ℕ) → ((eqb first start && eqb last end) && leb most_extents n) ≡ true →
    (first ≡ start) × (last ≡ end) × (most_extents ≤ n)
full_alone first start last end n h =
    let full = and_parts (eqb first start && eqb last end) (leb most_extents n) h in
    let edges = and_parts (eqb first start) (eqb last end) full.0 in
    (eqb-true _ _ edges.0, eqb-true _ _ edges.1, leb-true _ _ full.1)
