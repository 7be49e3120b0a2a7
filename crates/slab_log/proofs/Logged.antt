-- A log that replays has few free extents within the slab, and replays on with the words of a grant or a return.
use Rattle.std.proofs.Common.{◌≡◌, ℕ, ◌+◌, ◌<◌, ◌≤◌, true, ltb, leb, List, Ok, arith}
use Rattle.std.proofs.lemmas.Bool.{ltb-false, leb-true, le-ltb}
use Rattle.std.proofs.lemmas.Bool.Decides.{nat_tests}
use Rattle.slab_log.specs.Limits.{most_extents}
use Rattle.slab_log.specs.Sectors.{Sectors, Within, used, whole, meets, runs}
use Rattle.slab_log.specs.Words.{words_of}
use Rattle.slab_log.specs.Replay.{grant, give_back, apply, replay}
use Rattle.slab_log.specs.Laws.{GrantReplays, ReturnReplays}
use Rattle.slab_log.specs.declared.fault.Fault.TheVariants.{Bounds, Taken, Again}
use Rattle.slab_log.specs.declared.entry.Effect.TheVariants.{Allocates, Frees}
use Rattle.slab_log.specs.declared.entry.Entry.{Entry}
use Rattle.slab_log.specs.declared.entry.Entry.TheVariants.{Allocate, Free, Debug}
use Rattle.slab_log.proofs.Counted.{whole_runs, run_begins, grant_runs, return_runs}
use Rattle.slab_log.proofs.Extents.{Moves, replay_append, extent_replays}
use Rattle.slab_log.proofs.Steps.{passed, kept, replay_keeps, meets_none, run_ends, from_T, from_not_T, to_not_T}

-- no sector at or past the size is free, and few extents are
record Bounded (size : ℕ) (free : Sectors) : Type 0 where
  within : Within size free
  few : runs free size ≤ most_extents

entry_bounded : (size : ℕ) (free after : Sectors) (entry : Entry) → apply size free entry ≡ Ok after →
    Bounded size free → Bounded size after
entry_bounded size free after (Allocate e) h b =
    let one = passed (ltb size (e.offset + e.run)) Bounds _ after h in
    let two = passed (meets (used size free) e.offset e.run) Taken _ after one.1 in
    let three = kept (leb (runs (grant free e.offset e.run) size) most_extents) _ _ _ two.1 in
    rw (← three.1)
    (record {
      within = λ s l. let off = from_not_T (b.within s l) in to_not_T (grind (arith, nat_tests));
      few = leb-true _ _ three.0;
    })
entry_bounded size free after (Free e) h b =
    let one = passed (ltb size (e.offset + e.run)) Bounds _ after h in
    let two = passed (meets free e.offset e.run) Again _ after one.1 in
    let three = kept (leb (runs (give_back free e.offset e.run) size) most_extents) _ _ _ two.1 in
    let fits : e.offset + e.run ≤ size = ltb-false _ _ one.0 in
    rw (← three.1)
    (record {
      within = λ s l. let off = from_not_T (b.within s l) in to_not_T (grind (arith, nat_tests));
      few = leb-true _ _ three.0;
    })
entry_bounded size free after (Debug _) h b = let e : free ≡ after = cc in rw (← e) b

bounded : (size : ℕ) (free : Sectors) (words : List ℕ) → replay size words ≡ Ok free → Bounded size free
bounded size free words h =
    replay_keeps size (λ _. Bounded size) (λ _. entry_bounded size) 0 (whole size) free words h
    (record { within = λ s l. to_not_T (le-ltb s size l); few = omega (arith, whole_runs size size) })

pub replay_within : (size : ℕ) (free : Sectors) (words : List ℕ) → replay size words ≡ Ok free → Within size free
replay_within size free words h = (bounded size free words h).within

pub replay_uncrowded : (size : ℕ) (free : Sectors) (words : List ℕ) → replay size words ≡ Ok free → runs free size ≤ most_extents
replay_uncrowded size free words h = (bounded size free words h).few

pub grant_replays : GrantReplays
grant_replays size free words start len want cap h run some part =
    let inside = run_ends size free start len (replay_within size free words h) run in
    let few = replay_uncrowded size free words h in
    let all : (s : ℕ) → start ≤ s → s < start + len → free s ≡ true = λ s p q. from_T (run.filled s p q) in
    let front = run_begins free start len run in
    let moves : Moves Allocates size free start want =
    record {
      some = some;
      fits = omega arith;
      stand = λ s p q. all s p (omega arith);
      few = λ first l u. omega (arith, grant_runs free start first l (λ s p q. all s p (omega arith)) front size);
    } in
    replay_append size 0 (whole size) free (grant free start want) words (words_of Allocates start want) h
    (extent_replays Allocates size cap free start want moves)

pub return_replays : ReturnReplays
return_replays size free words start len cap h some fits clear few =
    let none = meets_none free start len clear in
    let moves : Moves Frees size free start len =
    record {
      some = some;
      fits = fits;
      stand = none;
      few = λ first l u. omega (arith, return_runs free start len first u none size);
    } in
    replay_append size 0 (whole size) free (give_back free start len) words (words_of Frees start len) h
    (extent_replays Frees size cap free start len moves)
