-- No log that replays to a set of free sectors has fewer words than their condensed log.
use Rattle.std.proofs.Common.{◌≡◌, ℕ, zero, suc, ◌+◌, ◌-◌, ◌*◌, ◌<◌, ◌≤◌, false, ltb, List, length, Ok, sym, refl, inl, inr, arith, length-append}
use Rattle.std.proofs.lemmas.Bool.{ltb-false, le-ltb}
use Rattle.std.proofs.lemmas.Bool.Decides.{nat_tests}
use Rattle.slab_log.specs.Limits.{longest_run}
use Rattle.slab_log.specs.declared.fault.Fault.TheVariants.{Bounds, Taken, Again}
use Rattle.slab_log.specs.declared.entry.Effect.TheVariants.{Allocates}
use Rattle.slab_log.specs.declared.entry.Span.{Span}
use Rattle.slab_log.specs.declared.entry.Entry.{Entry}
use Rattle.slab_log.specs.declared.entry.Entry.TheVariants.{Allocate, Free, Debug}
use Rattle.slab_log.specs.Sectors.{Sectors, Run, used, whole, meets}
use Rattle.slab_log.specs.Words.{words_of}
use Rattle.slab_log.specs.Replay.{grant, give_back, apply, replay_from}
use Rattle.slab_log.specs.Condensed.{RunsFrom, none, next, all_words}
use Rattle.slab_log.specs.Laws.{CondensedIsShortest}
use Rattle.slab_log.proofs.Written.{words_length}
use Rattle.slab_log.proofs.Filled.{up, filled, filled_used, filled_unused, filled_put, Put}
use Rattle.slab_log.proofs.Steps.{passed, kept, replay_keeps, meets_none, run_ends}
use Rattle.slab_log.proofs.Steps.{grant_off, grant_in, give_off, give_in, not_free, from_T, from_not_T, to_not_T}

-- the places that the words of the used sectors fill
abbrev places : ℕ → Sectors → ℕ
places size free = filled (used size free) size

allocate_adds : (size : ℕ) (free after : Sectors) (e : Span) → apply size free (Allocate e) ≡ Ok after →
    places size after ≤ places size free + longest_run
allocate_adds size free after e h =
    let one = passed (ltb size (e.offset + e.run)) Bounds _ after h in
    let two = passed (meets (used size free) e.offset e.run) Taken _ after one.1 in
    let new : grant free e.offset e.run ≡ after = (kept _ _ _ _ two.1).1 in
    let fits : e.offset + e.run ≤ size = ltb-false _ _ one.0 in
    let put : Put (used size free) (used size (grant free e.offset e.run)) e.offset e.run =
    record {
      most = e.most;
      below = λ s l. grant_off size free e.offset e.run fits s (inl l);
      above = λ s l. grant_off size free e.offset e.run fits s (inr l);
      was = λ s p q. meets_none (used size free) e.offset e.run two.0 s p q;
      is = λ s p q. grant_in size free e.offset e.run fits s p q;
    } in
    let both = filled_put _ _ _ _ (size - (e.offset + e.run)) put in
    let z : e.offset + e.run + (size - (e.offset + e.run)) ≡ size = omega arith in
    rw (← new) (rw z at both.0)

free_adds : (size : ℕ) (free after : Sectors) (e : Span) → apply size free (Free e) ≡ Ok after →
    places size after ≤ places size free + longest_run
free_adds size free after e h =
    let one = passed (ltb size (e.offset + e.run)) Bounds _ after h in
    let two = passed (meets free e.offset e.run) Again _ after one.1 in
    let new : give_back free e.offset e.run ≡ after = (kept _ _ _ _ two.1).1 in
    let fits : e.offset + e.run ≤ size = ltb-false _ _ one.0 in
    let put : Put (used size (give_back free e.offset e.run)) (used size free) e.offset e.run =
    record {
      most = e.most;
      below = λ s l. sym (give_off size free e.offset e.run fits s (inl l));
      above = λ s l. sym (give_off size free e.offset e.run fits s (inr l));
      was = λ s p q. give_in size free e.offset e.run fits s p q;
      is = λ s p q. not_free size free e.offset e.run fits s q (meets_none free e.offset e.run two.0 s p q);
    } in
    let both = filled_put _ _ _ _ (size - (e.offset + e.run)) put in
    let z : e.offset + e.run + (size - (e.offset + e.run)) ≡ size = omega arith in
    rw (← new) (rw z at both.1)

-- an entry asks for at most one word more
entry_adds : (size : ℕ) (free after : Sectors) (entry : Entry) → apply size free entry ≡ Ok after →
    places size after ≤ places size free + longest_run
entry_adds size free after (Allocate e) h = allocate_adds size free after e h
entry_adds size free after (Free e) h = free_adds size free after e h
entry_adds size free after (Debug _) h = let e : free ≡ after = cc in rw (← e) (omega arith)

replay_adds : (size : ℕ) (free : Sectors) (log : List ℕ) (after : Sectors) → replay_from size 0 free log ≡ Ok after →
    places size after ≤ places size free + longest_run * length log
replay_adds size free log after h =
    let all =
    replay_keeps size (λ place now. places size now ≤ places size free + longest_run * place)
    (λ place now next entry e k. let one = entry_adds size now next entry e in omega arith) 0 free after log h (omega arith) in
    omega arith

-- a run begins at the first place of a word
at_start : (u : Sectors) (start len : ℕ) → Run u start len → filled u start ≡ up (filled u start)
at_start u zero len r = refl
at_start u (suc n) len r = rw (from_not_T (r.before n (omega arith))) (omega arith)

-- nothing is used from one place to another
stays : (u : Sectors) (a b : ℕ) → a ≤ b → ((s : ℕ) → a ≤ s → s < b → u s ≡ false) →
    (filled u a ≤ filled u b) × (filled u b ≤ up (filled u a))
stays u a b le h =
    let z : a + (b - a) ≡ b = omega arith in
    rw z at (filled_unused u a (b - a) (λ s p q. h s p (omega arith)))

pub runs_length : (u : Sectors) (end : ℕ) → ((s : ℕ) → end ≤ s → u s ≡ false) → (at : ℕ) (rs : List (ℕ × ℕ)) → RunsFrom u at rs → at ≤ end →
    up (filled u at) + longest_run * length (all_words rs) ≡ up (filled u end)
runs_length u end past at rs (none h) below =
    let flat = stays u at end below (λ s p q. from_not_T (h s p)) in
    omega arith
runs_length u end past at rs (next {start = start} {len = len} {rest = rest} ahead gap run more) below =
    let some : 0 < len = run.some in
    let inside = run_ends end u start len (λ s l. to_not_T (past s l)) run in
    let flat = stays u at start ahead (λ s p q. from_not_T (gap s p q)) in
    let full = filled_used u start len (λ s p q. from_T (run.filled s p q)) in
    let level = at_start u start len run in
    let here = words_length Allocates start len some in
    let both = length-append (words_of Allocates start len) (all_words rest) in
    let later = runs_length u end past (start + len) rest more inside in
    omega arith

none_used : (size n : ℕ) → n ≤ size → filled (used size (whole size)) n ≡ 0
none_used size zero h = refl
none_used size (suc n) h =
    let off : used size (whole size) n ≡ false = grind (arith, nat_tests) in
    rw (off, none_used size n (omega arith))

pub condensed_is_shortest : CondensedIsShortest
condensed_is_shortest size free condensed other c h =
    let a = replay_adds size (whole size) other free h in
    let b = none_used size size (omega arith) in
    let d = runs_length (used size free) size (λ s l. rw (le-ltb s size l)) 0 c.ranges c.all (omega arith) in
    rw c.written (omega arith)
