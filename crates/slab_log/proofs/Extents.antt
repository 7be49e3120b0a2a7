-- The words of an extent replay, one after the other.
use Rattle.std.proofs.Common.{◌≡◌, ℕ, zero, suc, ◌+◌, ◌-◌, ◌<◌, ◌≤◌, Bool, true, false, leb, List, [], ◌∷◌, ◌++◌, Ok, refl, ap, ◌∙◌, arith}
use mathlib.Core.Path.{fun_ext}
use Rattle.std.proofs.lemmas.Bool.{leb-false, leb-true, le-ltb, le-leb}
use Rattle.std.proofs.lemmas.Bool.Decides.{nat_tests}
use Rattle.slab_log.specs.Limits.{most_sectors, longest_run, most_extents}
use Rattle.slab_log.specs.Sectors.{Sectors, used, runs}
use Rattle.slab_log.specs.Words.{read, says, word_of, cut, entries, words_of}
use Rattle.slab_log.specs.Replay.{grant, give_back, apply, take_word, replay_from}
use Rattle.slab_log.specs.declared.entry.Effect.{Effect}
use Rattle.slab_log.specs.declared.entry.Effect.TheVariants.{Allocates, Frees}
use Rattle.slab_log.specs.declared.entry.Span.{Span}
use Rattle.slab_log.proofs.RoundTrip.{reading_undoes_writing}
use Rattle.slab_log.proofs.Steps.{first_word, none_meets}

-- a log and then another
pub replay_append : (size place : ℕ) (free mid after : Sectors) (xs ys : List ℕ) → replay_from size place free xs ≡ Ok mid →
    ((p : ℕ) → replay_from size p mid ys ≡ Ok after) → replay_from size place free (xs ++ ys) ≡ Ok after
replay_append size place free mid after [] ys h k = let e : free ≡ mid = cc in rw e (k place)
replay_append size place free mid after (x ∷ xs) ys h k =
    let first = first_word size place free mid x xs h in
    rw (first.1.0, replay_from) (replay_append size (place + 1) first.0 mid after xs ys first.1.1 k)

-- the free sectors once an extent is granted or given back
abbrev pub moved : Effect → Sectors → ℕ → ℕ → Sectors
moved Allocates free start len = grant free start len
moved Frees free start len = give_back free start len

-- whether its sectors are free before
abbrev pub stood : Effect → Bool
stood Allocates = true
stood Frees = false

-- an extent whose words replay: at no word do too many free extents stand
pub record Moves (effect : Effect) (size : ℕ) (free : Sectors) (start len : ℕ) : Type 0 where
  pub some : 0 < len
  pub fits : start + len ≤ size
  pub stand : (s : ℕ) → start ≤ s → s < start + len → free s ≡ stood effect
  pub few : (first : ℕ) → 0 < first → first ≤ len → runs (moved effect free start first) size ≤ most_extents

-- the first sectors and then the next
moved_twice : (effect : Effect) (free : Sectors) (start m n : ℕ) →
    moved effect (moved effect free start m) (start + m) n ≡ moved effect free start (m + n)
moved_twice Allocates free start m n = fun_ext (λ s. grind (arith, nat_tests))
moved_twice Frees free start m n = fun_ext (λ s. grind (arith, nat_tests))

-- the sectors past the first stay as they are
moved_past : (effect : Effect) (free : Sectors) (start m s : ℕ) → start + m ≤ s → moved effect free start m s ≡ free s
moved_past Allocates free start m s p = grind (arith, nat_tests)
moved_past Frees free start m s p = grind (arith, nat_tests)

-- an entry
entry_moves : (effect : Effect) (size : ℕ) (free : Sectors) (span : Span) → Moves effect size free span.offset span.run →
    apply size free (says effect span) ≡ Ok (moved effect free span.offset span.run)
entry_moves Allocates size free span m =
    let inside = le-ltb size (span.offset + span.run) m.fits in
    let clear = none_meets (used size free) span.offset span.run (λ s p q. let e = m.stand s p q in grind (arith, nat_tests)) in
    let few = m.few span.run m.some (omega arith) in
    let room : leb (runs (grant free span.offset span.run) size) most_extents ≡ true = le-leb _ _ few in
    rw (inside, clear, room)
entry_moves Frees size free span m =
    let inside = le-ltb size (span.offset + span.run) m.fits in
    let clear = none_meets free span.offset span.run m.stand in
    let few = m.few span.run m.some (omega arith) in
    let room : leb (runs (give_back free span.offset span.run) size) most_extents ≡ true = le-leb _ _ few in
    rw (inside, clear, room)

module _ (effect : Effect) (size : ℕ) (cap : size ≤ most_sectors) where
  -- the first sectors of the extent
  front : (free : Sectors) (start len first : ℕ) → 0 < first → first ≤ len → Moves effect size free start len →
      Moves effect size free start first
  front free start len first some part m =
      record {
        some = some;
        fits = omega (arith, m.fits);
        stand = λ s p q. m.stand s p (omega arith);
        few = λ k l u. m.few k l (omega arith);
      }

  -- what is left of it once they are moved
  left : (free : Sectors) (start len first : ℕ) → first < len → Moves effect size free start len →
      Moves effect size (moved effect free start first) (start + first) (len - first)
  left free start len first part m =
      record {
        some = omega arith;
        fits = omega (arith, m.fits);
        stand = λ s p q. moved_past effect free start first s p ∙ m.stand s (omega arith) (omega arith);
        few = λ k l u. rw (moved_twice effect free start first k) (m.few (first + k) (omega arith) (omega arith));
      }

  -- its first word, and the words after it
  word_replays : (free after : Sectors) (start run : ℕ) (ws : List ℕ) → run ≤ longest_run → Moves effect size free start run →
      ((p : ℕ) → replay_from size p (moved effect free start run) ws ≡ Ok after) → (p : ℕ) →
      replay_from size p free (word_of effect start run ∷ ws) ≡ Ok after
  word_replays free after start run ws most m rest p =
      let fits = m.fits in
      let some = m.some in
      let span : Span = record { offset = start; run = run; low = omega arith; some = some; most = most } in
      let e : take_word size free (read (word_of effect start run)) ≡ Ok (moved effect free start run) =
      rw (reading_undoes_writing effect span) (entry_moves effect size free span m) in
      rw (e, replay_from) (rest (p + 1))

  cut_replays : (fuel : ℕ) (free : Sectors) (start len : ℕ) → fuel ≡ entries len → Moves effect size free start len → (p : ℕ) →
      replay_from size p free (cut fuel effect start len) ≡ Ok (moved effect free start len)
  cut_replays zero free start len z m p = absurd (omega (arith, m.some))
  cut_replays (suc fuel) free start len z m p =
      go (cut_replays fuel (moved effect free start longest_run) (start + longest_run) (len - longest_run)) (leb len longest_run) refl
    where
      go : (fuel ≡ entries (len - longest_run) →
          Moves effect size (moved effect free start longest_run) (start + longest_run) (len - longest_run) → (q : ℕ) →
          replay_from size q (moved effect free start longest_run) (cut fuel effect (start + longest_run) (len - longest_run))
          ≡ Ok (moved effect (moved effect free start longest_run) (start + longest_run) (len - longest_run))) →
          (b : Bool) → leb len longest_run ≡ b →
          replay_from size p free (cut (suc fuel) effect start len) ≡ Ok (moved effect free start len)
      go later true e =
          let l = leb-true len longest_run e in
          rw e (word_replays free (moved effect free start len) start len [] l m (λ q. refl) p)
      go later false e =
          let l = leb-false len longest_run e in
          let all : longest_run + (len - longest_run) ≡ len = omega arith in
          let both = moved_twice effect free start longest_run (len - longest_run) ∙ ap (moved effect free start) all in
          rw e
          (word_replays free (moved effect free start len) start longest_run
          (cut fuel effect (start + longest_run) (len - longest_run)) (omega arith)
          (front free start len longest_run (omega arith) (omega arith) m)
          (λ q. later (omega arith) (left free start len longest_run l m) q ∙ ap Ok both) p)

  -- the words of the extent
  pub extent_replays : (free : Sectors) (start len : ℕ) → Moves effect size free start len → (p : ℕ) →
      replay_from size p free (words_of effect start len) ≡ Ok (moved effect free start len)
  extent_replays free start len m p = cut_replays (entries len) free start len refl m p
