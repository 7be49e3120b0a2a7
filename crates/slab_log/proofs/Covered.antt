-- A condensed log says which sectors are used, so that equal ones come from the same free sectors.
use Rattle.std.proofs.Common.{◌≡◌, ℕ, zero, suc, ◌+◌, ◌-◌, ◌/◌, ◌%◌, ◌<◌, ◌≤◌, Bool, true, false, not, ◌&&◌, ◌||◌, leb, List, [], ◌∷◌, ◌++◌, sym, refl, ap, ◌∙◌, arith}
use Rattle.std.proofs.lemmas.Bool.{leb-true, leb-false, lt-ltb}
use Rattle.std.proofs.lemmas.Bool.Decides.{nat_tests}
use Rattle.slab_log.specs.Limits.{longest_run}
use Rattle.slab_log.specs.Sectors.{Sectors, covers, used}
use Rattle.slab_log.specs.Words.{word_of, cut, entries}
use Rattle.slab_log.specs.Condensed.{RunsFrom, none, next, all_words, Condensed}
use Rattle.slab_log.specs.Laws.{EqualCondensedEqualSectors}
use Rattle.slab_log.specs.declared.entry.Effect.TheVariants.{Allocates}
use Rattle.slab_log.proofs.Steps.{from_T, from_not_T}

-- whether an allocating word of the log covers the sector
abbrev covered : List ℕ → Sectors
covered [] s = false
covered (w ∷ ws) s = covers (w / 65536) (w % 65536 + 1) s || covered ws s

-- two extents that meet are one
joined : (a m n : ℕ) (b : Bool) (s : ℕ) → m ≤ n → (covers a m s || (covers (a + m) (n - m) s || b)) ≡ (covers a n s || b)
joined a m n b s h = grind (arith, nat_tests)

covered_word : (a r : ℕ) (ws : List ℕ) (s : ℕ) → 1 ≤ r → r ≤ longest_run → covered (word_of Allocates a r ∷ ws) s ≡ (covers a r s || covered ws s)
covered_word a r ws s some most =
    let e : word_of Allocates a r / 65536 ≡ a = omega arith in
    let f : word_of Allocates a r % 65536 + 1 ≡ r = omega arith in
    rw (e, f)

covered_cut : (fuel a len : ℕ) (ws : List ℕ) (s : ℕ) → fuel ≡ entries len → 0 < len →
    covered (cut fuel Allocates a len ++ ws) s ≡ (covers a len s || covered ws s)
covered_cut zero a len ws s z some = absurd (omega arith)
covered_cut (suc fuel) a len ws s z some = go (covered_cut fuel (a + longest_run) (len - longest_run) ws s) (leb len longest_run) refl
  where
    go : (fuel ≡ entries (len - longest_run) → 0 < len - longest_run →
        covered (cut fuel Allocates (a + longest_run) (len - longest_run) ++ ws) s ≡ (covers (a + longest_run) (len - longest_run) s || covered ws s)) →
        (b : Bool) → leb len longest_run ≡ b → covered (cut (suc fuel) Allocates a len ++ ws) s ≡ (covers a len s || covered ws s)
    go later true e = let l = leb-true len longest_run e in rw e (covered_word a len ws s some l)
    go later false e =
        let l = leb-false len longest_run e in
        rw e
        (covered_word a longest_run (cut fuel Allocates (a + longest_run) (len - longest_run) ++ ws) s (omega arith) (omega arith)
        ∙ (ap (λ b. covers a longest_run s || b) (later (omega arith) (omega arith)) ∙ joined a longest_run len (covered ws s) s (omega arith)))

covered_runs : (u : Sectors) (at : ℕ) (rs : List (ℕ × ℕ)) → RunsFrom u at rs → (s : ℕ) → covered (all_words rs) s ≡ (leb at s && u s)
covered_runs u at rs (none h) s =
    let k : at ≤ s → u s ≡ false = λ l. from_not_T (h s l) in
    grind (arith, nat_tests)
covered_runs u at rs (next {start = start} {len = len} {rest = rest} ahead gap run more) s =
    let f : start ≤ s → s < start + len → u s ≡ true = λ p q. from_T (run.filled s p q) in
    let g : at ≤ s → s < start → u s ≡ false = λ p q. from_not_T (gap s p q) in
    covered_cut (entries len) start len (all_words rest) s refl run.some
    ∙ (ap (λ b. covers start len s || b) (covered_runs u (start + len) rest more s) ∙ merge (u s) f g)
  where
    merge : (b : Bool) → (start ≤ s → s < start + len → b ≡ true) → (at ≤ s → s < start → b ≡ false) →
        (covers start len s || (leb (start + len) s && b)) ≡ (leb at s && b)
    merge b f g = grind (arith, nat_tests)

pub covered_used : (size : ℕ) (free : Sectors) (log : List ℕ) → Condensed size free log → (s : ℕ) → covered log s ≡ used size free s
covered_used size free log c s =
    rw c.written (covered_runs (used size free) 0 c.ranges c.all s ∙ first (used size free s))
  where
    first : (b : Bool) → (leb 0 s && b) ≡ b
    first b = grind (arith, nat_tests)

pub equal_condensed_equal_sectors : EqualCondensedEqualSectors
equal_condensed_equal_sectors size free other log c d s l =
    let e : used size free s ≡ used size other s = sym (covered_used size free log c s) ∙ covered_used size other log d s in
    go (free s) (other s) (rw (lt-ltb s size l) at e)
  where
    go : (a b : Bool) → not a ≡ not b → a ≡ b
    go a b h = grind arith
