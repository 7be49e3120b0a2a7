-- The condensed log replays to the free sectors that it was made from.
use Rattle.std.proofs.Common.{◌≡◌, ℕ, zero, suc, ◌+◌, ◌<◌, ◌≤◌, true, false, cond, ltb, List, ◌++◌, Ok, ap, ◌∙◌, arith}
use mathlib.Core.Path.{fun_ext}
use Rattle.std.proofs.lemmas.Bool.{le-ltb}
use Rattle.std.proofs.lemmas.Bool.Decides.{nat_tests}
use Rattle.slab_log.specs.Limits.{most_sectors, most_extents}
use Rattle.slab_log.specs.Sectors.{Sectors, Within, used, whole, begins, runs}
use Rattle.slab_log.specs.Words.{words_of}
use Rattle.slab_log.specs.Replay.{grant, replay_from, replay}
use Rattle.slab_log.specs.Condensed.{RunsFrom, none, next, all_words, Condensed}
use Rattle.slab_log.specs.Laws.{CondensedReplays}
use Rattle.slab_log.specs.declared.entry.Effect.TheVariants.{Allocates}
use Rattle.slab_log.proofs.Counted.{one_more}
use Rattle.slab_log.proofs.Extents.{Moves, replay_append, extent_replays}
use Rattle.slab_log.proofs.Steps.{run_ends, from_T, from_not_T}

-- what is free when the log has come to sector x: below it what it is to be, from there on the whole slab
abbrev sofar : ℕ → Sectors → ℕ → Sectors
sofar size free x s = cond (ltb s x) (free s) (ltb s size)

-- at most one run more than in the end
runs_sofar : (size : ℕ) (free : Sectors) (x n : ℕ) → runs (sofar size free x) n ≤ runs free n + 1
runs_sofar size free x n = one_more (begins (sofar size free x)) (begins free) x rest n
  where
    rest : (s : ℕ) → ¬ (s ≡ x) → begins (sofar size free x) s ≡ true → begins free s ≡ true
    rest zero ne h = grind (arith, nat_tests)
    rest (suc s) ne h = grind (arith, nat_tests)

module _ (size : ℕ) (free : Sectors) (x a r : ℕ) (ahead : x ≤ a) (fits : a + r ≤ size)
    (gap : (s : ℕ) → x ≤ s → s < a → used size free s ≡ false)
    (taken : (s : ℕ) → a ≤ s → s < a + r → used size free s ≡ true) where
  granted_at : (s : ℕ) → grant (sofar size free x) a r s ≡ sofar size free (a + r) s
  granted_at s =
      let g = gap s in
      let t = taken s in
      grind (arith, nat_tests)

  granted : grant (sofar size free x) a r ≡ sofar size free (a + r)
  granted = fun_ext granted_at

  open_there : (s : ℕ) → a ≤ s → s < a + r → sofar size free x s ≡ true
  open_there s p q = grind (arith, nat_tests)

module _ (size : ℕ) (free : Sectors) (cap : size ≤ most_sectors) (few : (x : ℕ) → x ≤ size → runs (sofar size free x) size ≤ most_extents) where
  -- the words from sector x on lead to the free sectors
  abbrev Lands : ℕ → List ℕ → Type 0
  Lands x ws = (place : ℕ) → replay_from size place (sofar size free x) ws ≡ Ok free

  lands_extent : (x a len : ℕ) (ws : List ℕ) → 0 < len → x ≤ a → a + len ≤ size →
      ((s : ℕ) → x ≤ s → s < a → used size free s ≡ false) →
      ((s : ℕ) → a ≤ s → s < a + len → used size free s ≡ true) →
      Lands (a + len) ws → Lands x (words_of Allocates a len ++ ws)
  lands_extent x a len ws some ahead fits gap taken rest place =
      let new : (first : ℕ) → first ≤ len → grant (sofar size free x) a first ≡ sofar size free (a + first) =
      λ first l. granted size free x a first ahead (omega arith) gap (λ s p q. taken s p (omega arith)) in
      let moves : Moves Allocates size (sofar size free x) a len =
      record {
        some = some;
        fits = fits;
        stand = open_there size free x a len ahead fits gap taken;
        few = λ first l u. rw (new first u) (few (a + first) (omega arith));
      } in
      replay_append size place (sofar size free x) (sofar size free (a + len)) free (words_of Allocates a len) ws
      (extent_replays Allocates size cap (sofar size free x) a len moves place ∙ ap Ok (new len (omega arith))) rest

  lands_runs : (within : (s : ℕ) → size ≤ s → free s ≡ false) (x : ℕ) (rs : List (ℕ × ℕ)) → RunsFrom (used size free) x rs →
      Lands x (all_words rs)
  lands_runs within x rs (none h) place = ap Ok (fun_ext done)
    where
      done : (s : ℕ) → sofar size free x s ≡ free s
      done s =
          let w = within s in
          let u : x ≤ s → used size free s ≡ false = λ l. from_not_T (h s l) in
          grind (arith, nat_tests)
  lands_runs within x rs (next {start = start} {len = len} {rest = rest} ahead gap run more) place =
      lands_extent x start len (all_words rest) run.some ahead
      (run_ends size (used size free) start len (λ s l. rw (le-ltb s size l) (λ t. t)) run)
      (λ s p q. from_not_T (gap s p q))
      (λ s p q. from_T (run.filled s p q))
      (lands_runs within (start + len) rest more) place

lands : (size : ℕ) (free : Sectors) (short : List ℕ) → size ≤ most_sectors → Within size free →
    ((x : ℕ) → x ≤ size → runs (sofar size free x) size ≤ most_extents) → Condensed size free short → replay size short ≡ Ok free
lands size free short cap within few c =
    let begin : sofar size free 0 ≡ whole size = fun_ext (λ s. grind (arith, nat_tests)) in
    let go = lands_runs size free cap few (λ s l. from_not_T (within s l)) 0 c.ranges c.all 0 in
    rw (c.written, ← begin) go

pub condensed_replays : CondensedReplays
condensed_replays size free condensed cap within few c =
    lands size free condensed cap within (λ x l. omega (arith, runs_sofar size free x size)) c
