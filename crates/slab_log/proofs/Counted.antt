-- How grants and returns change the number of longest runs.
use Rattle.std.proofs.Common.{◌≡◌, ℕ, zero, suc, ◌+◌, ◌-◌, ◌<◌, ◌≤◌, Bool, true, false, cond, refl, inl, inr, add-zero, add-suc, arith}
use Rattle.std.proofs.lemmas.Bool.{cases_lt, false≢true}
use Rattle.std.proofs.lemmas.Bool.Decides.{nat_tests}
use Rattle.slab_log.specs.Sectors.{Sectors, Run, whole, count, begins, runs}
use Rattle.slab_log.specs.Replay.{grant, give_back}
use Rattle.slab_log.proofs.Steps.{from_T, from_not_T}

-- a test counts one or none
count_up : (test : ℕ → Bool) (n : ℕ) → (count test n ≤ count test (suc n)) × (count test (suc n) ≤ count test n + 1)
count_up test n = go (test n)
  where
    go : (b : Bool) →
        (count test n ≤ cond b (count test n + 1) (count test n)) × (cond b (count test n + 1) (count test n) ≤ count test n + 1)
    go true = omega arith
    go false = omega arith

-- where what passes p passes q, p counts on by no more than q
counts_on : (p q : ℕ → Bool) (m k : ℕ) → ((s : ℕ) → m ≤ s → s < m + k → p s ≡ true → q s ≡ true) →
    count p (m + k) + count q m ≤ count q (m + k) + count p m
counts_on p q m zero h = simp add-zero (omega arith)
counts_on p q m (suc k) h =
    let so_far = counts_on p q m k (λ s l u. h s l (omega arith)) in
    rw (add-suc m k)
    (go (p (m + k)) (q (m + k)) (h (m + k) (omega arith) (omega arith)) (count p (m + k)) (count q (m + k)) so_far)
  where
    go : (a b : Bool) → (a ≡ true → b ≡ true) → (x y : ℕ) → x + count q m ≤ y + count p m →
        cond a (x + 1) x + count q m ≤ cond b (y + 1) y + count p m
    go true true f x y e = omega arith
    go true false f x y e = absurd (false≢true (f refl))
    go false true f x y e = omega arith
    go false false f x y e = e

-- the same from one number to another
counts_to : (p q : ℕ → Bool) (m n : ℕ) → m ≤ n → ((s : ℕ) → m ≤ s → s < n → p s ≡ true → q s ≡ true) →
    count p n + count q m ≤ count q n + count p m
counts_to p q m n le h =
    let z : m + (n - m) ≡ n = omega arith in
    rw z at (counts_on p q m (n - m) (λ s l u. h s l (omega arith)))

module _ (p q : ℕ → Bool) (x : ℕ) (h : (s : ℕ) → ¬ (s ≡ x) → p s ≡ true → q s ≡ true) where
  -- what passes p passes q, but at x: p counts at most one more
  pub one_more : (n : ℕ) → count p n ≤ count q n + 1
  one_more n =
      elim (cases_lt x n) [
        | inl l ↦
            let below = counts_to p q 0 x (omega arith) (λ s a b. h s (omega arith)) in
            let at = count_up p x in
            let other = count_up q x in
            let above = counts_to p q (suc x) n (omega arith) (λ s a b. h s (omega arith)) in
            omega arith
        | inr l ↦ let below = counts_to p q 0 n (omega arith) (λ s a b. h s (omega arith)) in omega arith
      ]

  -- and y before x passes q alone: p counts no more
  none_more : (y : ℕ) → y < x → p y ≡ false → q y ≡ true → (n : ℕ) → count p n ≤ count q n
  none_more y before off on n =
      elim (cases_lt x n) [
        | inl l ↦
            let below = counts_to p q 0 y (omega arith) (λ s a b. h s (omega arith)) in
            let p-there : count p (suc y) ≡ count p y = rw off refl in
            let q-there : count q (suc y) ≡ count q y + 1 = rw on refl in
            let between = counts_to p q (suc y) x (omega arith) (λ s a b. h s (omega arith)) in
            let at = count_up p x in
            let other = count_up q x in
            let above = counts_to p q (suc x) n (omega arith) (λ s a b. h s (omega arith)) in
            omega arith
        | inr l ↦ let below = counts_to p q 0 n (omega arith) (λ s a b. h s (omega arith)) in omega arith
      ]

-- a whole slab is one run
pub whole_runs : (size n : ℕ) → runs (whole size) n ≤ 1
whole_runs size zero = omega arith
whole_runs size (suc zero) = omega (arith, count_up (begins (whole size)) 0)
whole_runs size (suc (suc n)) =
    let off : begins (whole size) (suc n) ≡ false = grind (arith, nat_tests) in
    rw off (whole_runs size (suc n))

-- a longest run begins at its first sector
pub run_begins : (set : Sectors) (start len : ℕ) → Run set start len → begins set start ≡ true
run_begins set zero len run = let some = run.some in from_T (run.filled 0 (omega arith) (omega arith))
run_begins set (suc start) len run =
    let some = run.some in
    let on = from_T (run.filled (suc start) (omega arith) (omega arith)) in
    let off = from_not_T (run.before start (omega arith)) in
    rw (on, off)

module _ (free : Sectors) (start len : ℕ) where
  -- a grant of the front of a run makes no run more
  pub grant_runs : 0 < len → ((s : ℕ) → start ≤ s → s < start + len → free s ≡ true) → begins free start ≡ true → (n : ℕ) →
      runs (grant free start len) n ≤ runs free n
  grant_runs some all front n =
      none_more (begins (grant free start len)) (begins free) (start + len) rest start (omega arith)
      (off start (omega arith) (omega arith)) front n
    where
      off : (s : ℕ) → start ≤ s → s < start + len → begins (grant free start len) s ≡ false
      off zero p q = grind (arith, nat_tests)
      off (suc s) p q = grind (arith, nat_tests)

      rest : (s : ℕ) → ¬ (s ≡ start + len) → begins (grant free start len) s ≡ true → begins free s ≡ true
      rest zero ne h = grind (arith, nat_tests)
      rest (suc s) ne h = grind (arith, nat_tests)

  -- a return of the first of an extent's sectors leaves at most one run more than the return of all
  pub return_runs : (first : ℕ) → first ≤ len → ((s : ℕ) → start ≤ s → s < start + len → free s ≡ false) → (n : ℕ) →
      runs (give_back free start first) n ≤ runs (give_back free start len) n + 1
  return_runs first le none n =
      one_more (begins (give_back free start first)) (begins (give_back free start len)) (start + len) rest n
    where
      rest : (s : ℕ) → ¬ (s ≡ start + len) → begins (give_back free start first) s ≡ true →
          begins (give_back free start len) s ≡ true
      rest zero ne h = grind (arith, nat_tests)
      rest (suc s) ne h = grind (arith, nat_tests)
