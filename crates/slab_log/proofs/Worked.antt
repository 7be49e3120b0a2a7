-- The rows of the table of worked cases that do not compute: sets of sectors, and runs of them.
use Rattle.std.proofs.Common.{◌≡◌, ℕ, ◌+◌, ◌-◌, ◌<◌, ◌≤◌, T, ◌⊎◌, [], ◌∷◌, Ok, refl, ap, inr, arith}
use mathlib.Core.Path.{fun_ext}
use Rattle.std.proofs.lemmas.Bool.Decides.{nat_tests}
use Rattle.slab_log.specs.Sectors.{Sectors, Run, listed}
use Rattle.slab_log.specs.Condensed.{none, next}
use Rattle.slab_log.specs.Cases.{Holds, leaves, condenses, grants, AllHold, table}
use Rattle.slab_log.proofs.Steps.{from_T, from_not_T, to_T, to_not_T}

skips : Holds (leaves 100 (0x8000000000000000 ∷ []) ((0, 100) ∷ []))
skips = ap Ok (fun_ext (λ s. grind (arith, nat_tests)))

two_entries : Holds (leaves 100 (0x22 ∷ 0x320009 ∷ []) ((35, 15) ∷ (60, 40) ∷ []))
two_entries = ap Ok (fun_ext (λ s. grind (arith, nat_tests)))

-- the sectors below 40000 are one run of used ones
long_run : Holds (condenses 50000 ((40000, 10000) ∷ []) (0x7FFF ∷ 0x80001C3F ∷ []))
long_run =
    record {
      ranges = (0, 40000) ∷ [];
      all =
          next (omega arith) (λ s l m. absurd (omega arith))
          (record {
            some = omega arith;
            filled = λ s l m. to_T (grind (arith, nat_tests));
            before = λ p e. absurd (omega arith);
            after = λ t. t;
          })
          (none (λ s l. to_not_T (grind (arith, nat_tests))));
      written = refl;
    }

abbrev two : Sectors
two = listed ((10, 20) ∷ (40, 20) ∷ [])

in_two : (s : ℕ) → T (two s) → ((10 ≤ s) × (s < 30)) ⊎ ((40 ≤ s) × (s < 60))
in_two s t = let e = from_T t in grind (arith, nat_tests)

out_of_two : (s : ℕ) → ¬ T (two s) → ((s < 10) ⊎ (30 ≤ s)) × ((s < 40) ⊎ (60 ≤ s))
out_of_two s t = let e = from_not_T t in grind (arith, nat_tests)

-- a free extent begins at 10 or at 40, and has 20 sectors
two_runs : (s l : ℕ) → Run two s l → ((s ≡ 10) ⊎ (s ≡ 40)) × (l ≡ 20)
two_runs s l r =
    let some : 0 < l = r.some in
    let inside = in_two s (r.filled s (omega arith) (omega arith)) in
    let before = out_of_two (s - 1) (r.before (s - 1) (omega arith)) in
    let after = out_of_two (s + l) r.after in
    let first-end : s ≤ 30 → 30 < s + l → ⊥ = r.filled 30 in
    let second-end : s ≤ 60 → 60 < s + l → ⊥ = r.filled 60 in
    grind arith

grant_at_ten : Holds (grants ((10, 20) ∷ (40, 20) ∷ []) 5 10)
grant_at_ten = (
  20,
  record {
    extent =
        record {
          some = omega arith;
          filled = λ s l m. to_T (grind (arith, nat_tests));
          before = λ p e. let is : p ≡ 9 = omega arith in rw is (λ t. t);
          after = λ t. t;
        };
    enough = omega arith;
    others = λ s l r e. let h = two_runs s l r in inr (omega arith);
  },
)

pub worked_cases_hold : AllHold table
worked_cases_hold =
    (refl, (refl, (refl, (refl, (skips, (refl, (two_entries, (refl, (long_run, (grant_at_ten, tt))))))))))
