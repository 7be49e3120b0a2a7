-- How many free sectors and free extents a list of extents has.
use Rattle.std.proofs.Common.{◌≡◌, ℕ, zero, suc, ◌+◌, ◌-◌, ◌<◌, ◌≤◌, min, Bool, true, false, cond, ◌||◌, eqb, [], ◌∷◌, length, refl, ap, ◌∙◌, inl, inr, arith}
use mathlib.Core.Path.{fun_ext}
use Rattle.std.proofs.lemmas.Bool.{cases_eq, eq-eqb, ne_eqb}
use Rattle.std.proofs.lemmas.Bool.Decides.{nat_tests}
use Rattle.slab_log.specs.Sectors.{covers, count, begins, runs}
use Rattle.table.specs.declared.node.Entry.{Entry}
use Rattle.space.specs.Extents.{Starts, free_of, total, Spaced}
use Rattle.space.proofs.Spaced.{free_below}

abbrev tick : Bool → ℕ → ℕ
tick b n = cond b (n + 1) n

none_passes : (n : ℕ) → count (λ s. false) n ≡ 0
none_passes zero = refl
none_passes (suc n) = none_passes n

-- one number more passes the test
count_one : (g : ℕ → Bool) (k : ℕ) → g k ≡ false → (n : ℕ) →
    (n ≤ k → count (λ s. eqb s k || g s) n ≡ count g n) × (k < n → count (λ s. eqb s k || g s) n ≡ count g n + 1)
count_one g k off zero = (λ l. refl, λ l. absurd (omega arith))
count_one g k off (suc n) =
    let ih = count_one g k off n in
    elim (cases_eq n k) [
      | inl e ↦
          let here : eqb n k ≡ true = eq-eqb n k e in
          let none : g n ≡ false = ap g e ∙ off in
          let before = ih.0 (omega arith) in
          (λ l. absurd (omega arith), λ l. rw (here, none) (omega arith))
      | inr ne ↦
          let here : eqb n k ≡ false = ne_eqb n k ne in (
            λ l. rw here (ap (tick (g n)) (ih.0 (omega arith))),
            λ l. rw here (more (g n) (count g n) (count (λ s. eqb s k || g s) n) (ih.1 (omega arith))),
          )
    ]
  where
    more : (b : Bool) (m x : ℕ) → x ≡ m + 1 → tick b x ≡ tick b m + 1
    more true m x e = omega arith
    more false m x e = e

-- the sectors of an extent more
count_extent : (g : ℕ → Bool) (a n : ℕ) → ((s : ℕ) → a ≤ s → s < a + n → g s ≡ false) → (m : ℕ) →
    count (λ s. covers a n s || g s) m ≡ count g m + (min m (a + n) - min m a)
count_extent g a n off zero = omega arith
count_extent g a n off (suc m) = go (covers a n m) refl (g m) refl (count_extent g a n off m)
  where
    go : (b : Bool) → covers a n m ≡ b → (c : Bool) → g m ≡ c → count (λ s. covers a n s || g s) m ≡ count g m + (min m (a + n) - min m a) →
        cond (b || c) (count (λ s. covers a n s || g s) m + 1) (count (λ s. covers a n s || g s) m)
        ≡ cond c (count g m + 1) (count g m) + (min (suc m) (a + n) - min (suc m) a)
    go true e true f ih =
        let inside : (a ≤ m) × (m < a + n) = grind (arith, nat_tests) in
        let none = off m inside.0 inside.1 in
        let z : ◌≡◌ {A = ℕ} 0 1 = cc in
        absurd (omega arith)
    go true e false f ih = let inside : (a ≤ m) × (m < a + n) = grind (arith, nat_tests) in omega arith
    go false e true f ih = let outside : m < a → min (suc m) (a + n) - min (suc m) a ≡ min m (a + n) - min m a = λ l. omega arith in
        let later : a + n ≤ m → min (suc m) (a + n) - min (suc m) a ≡ min m (a + n) - min m a = λ l. omega arith in
        let same : min (suc m) (a + n) - min (suc m) a ≡ min m (a + n) - min m a = grind (arith, nat_tests) in
        omega arith
    go false e false f ih = let outside : m < a → min (suc m) (a + n) - min (suc m) a ≡ min m (a + n) - min m a = λ l. omega arith in
        let later : a + n ≤ m → min (suc m) (a + n) - min (suc m) a ≡ min m (a + n) - min m a = λ l. omega arith in
        let same : min (suc m) (a + n) - min (suc m) a ≡ min m (a + n) - min m a = grind (arith, nat_tests) in
        omega arith

-- as many sectors are free as the extents have
pub count_free : (low size : ℕ) (es : Starts) → Spaced low size es → count (free_of es) size ≡ total es
count_free low size [] h = none_passes size
count_free low size (e ∷ es) h =
    let ih = count_free (e.key + e.value + 1) size es h.3 in
    let one = count_extent (free_of es) e.key e.value (λ s p q. free_below (e.key + e.value + 1) size es h.3 s (omega arith)) size in
    omega arith

-- a run begins at the first extent, or where one of the rest does
begins_first : (low size : ℕ) (e : Entry ℕ ℕ) (es : Starts) → Spaced low size (e ∷ es) → (s : ℕ) →
    begins (free_of (e ∷ es)) s ≡ (eqb s e.key || begins (free_of es) s)
begins_first low size e es h zero =
    let off = free_below (e.key + e.value + 1) size es h.3 0 (omega arith) in
    grind (arith, nat_tests)
begins_first low size e es h (suc s) =
    let off = free_below (e.key + e.value + 1) size es h.3 s in
    let next = free_below (e.key + e.value + 1) size es h.3 (suc s) in
    grind (arith, nat_tests)

begins_none : (s : ℕ) → begins (free_of []) s ≡ false
begins_none zero = refl
begins_none (suc s) = refl

begins_late : (low size : ℕ) (es : Starts) → Spaced low size es → (s : ℕ) → s < low → begins (free_of es) s ≡ false
begins_late low size es h zero l = free_below low size es h 0 l
begins_late low size es h (suc s) l = let off = free_below low size es h (suc s) l in rw off

-- as many longest runs are free as there are extents
pub runs_free : (low size : ℕ) (es : Starts) → Spaced low size es → runs (free_of es) size ≡ length es
runs_free low size [] h = ap (λ f. count f size) (fun_ext begins_none) ∙ none_passes size
runs_free low size (e ∷ es) h =
    let ih = runs_free (e.key + e.value + 1) size es h.3 in
    let same : begins (free_of (e ∷ es)) ≡ (λ s. eqb s e.key || begins (free_of es) s) = fun_ext (begins_first low size e es h) in
    let off = begins_late (e.key + e.value + 1) size es h.3 e.key (omega arith) in
    let one = (count_one (begins (free_of es)) e.key off size).1 (omega arith) in
    ap (λ f. count f size) same ∙ (one ∙ omega arith)
