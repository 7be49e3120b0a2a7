-- How far the words of the used sectors fill up, sector by sector: a used sector takes one place of a word, and a sector that is
-- not used closes the word, so that the next used one begins another.
use Rattle.std.proofs.Common.{◌≡◌, ℕ, zero, suc, ◌+◌, ◌-◌, ◌*◌, ◌/◌, ◌<◌, ◌≤◌, Bool, true, false, sym, refl, add-zero, add-suc, arith}
use Rattle.slab_log.specs.Limits.{longest_run}
use Rattle.slab_log.specs.Sectors.{Sectors}

-- the places of the words begun so far
abbrev pub up : ℕ → ℕ
up x = ((x + (longest_run - 1)) / longest_run) * longest_run

abbrev pub step : Bool → ℕ → ℕ
step true x = x + 1
step false x = up x

abbrev pub filled : Sectors → ℕ → ℕ
filled u zero = 0
filled u (suc n) = step (u n) (filled u n)

step_near : (b : Bool) (x y : ℕ) → x ≤ y + longest_run → step b x ≤ step b y + longest_run
step_near true x y h = omega arith
step_near false x y h = omega arith

pub filled_same : (u v : Sectors) (m : ℕ) → ((s : ℕ) → s < m → u s ≡ v s) → filled u m ≡ filled v m
filled_same u v zero h = refl
filled_same u v (suc m) h =
    let e : u m ≡ v m = h m (omega arith) in
    let f : filled u m ≡ filled v m = filled_same u v m (λ s k. h s (omega arith)) in
    rw (e, f)

-- a stretch of used sectors
pub filled_used : (u : Sectors) (a k : ℕ) → ((s : ℕ) → a ≤ s → s < a + k → u s ≡ true) → filled u (a + k) ≡ filled u a + k
filled_used u a zero h = simp add-zero
filled_used u a (suc k) h =
    let e : u (a + k) ≡ true = h (a + k) (omega arith) (omega arith) in
    let f : filled u (a + k) ≡ filled u a + k = filled_used u a k (λ s p q. h s p (omega arith)) in
    rw (add-suc a k, e, f) (omega arith)

-- a stretch of unused sectors
pub filled_unused : (u : Sectors) (a k : ℕ) → ((s : ℕ) → a ≤ s → s < a + k → u s ≡ false) →
    (filled u a ≤ filled u (a + k)) × (filled u (a + k) ≤ up (filled u a))
filled_unused u a zero h = simp add-zero (omega arith)
filled_unused u a (suc k) h =
    let e : u (a + k) ≡ false = h (a + k) (omega arith) (omega arith) in
    let f : (filled u a ≤ filled u (a + k)) × (filled u (a + k) ≤ up (filled u a)) = filled_unused u a k (λ s p q. h s p (omega arith)) in
    rw (add-suc a k, e) (omega arith)

-- from where two sets agree they stay as near as they were
filled_near : (u v : Sectors) (m k : ℕ) → ((s : ℕ) → m ≤ s → u s ≡ v s) → filled u m ≤ filled v m + longest_run →
    filled u (m + k) ≤ filled v (m + k) + longest_run
filled_near u v m zero h n = simp add-zero n
filled_near u v m (suc k) h n =
    let e : u (m + k) ≡ v (m + k) = h (m + k) (omega arith) in
    let f : filled u (m + k) ≤ filled v (m + k) + longest_run = filled_near u v m k h n in
    rw (add-suc m k, e) (step_near (v (m + k)) (filled u (m + k)) (filled v (m + k)) f)

-- v is u with a stretch of at most a word put in
pub record Put (u v : Sectors) (a r : ℕ) : Type 0 where
  pub most : r ≤ longest_run
  pub below : (s : ℕ) → s < a → u s ≡ v s
  pub above : (s : ℕ) → a + r ≤ s → u s ≡ v s
  pub was : (s : ℕ) → a ≤ s → s < a + r → u s ≡ false
  pub is : (s : ℕ) → a ≤ s → s < a + r → v s ≡ true

-- neither putting it in nor taking it out asks for more than one word
pub filled_put : (u v : Sectors) (a r k : ℕ) → Put u v a r →
    (filled v (a + r + k) ≤ filled u (a + r + k) + longest_run) × (filled u (a + r + k) ≤ filled v (a + r + k) + longest_run)
filled_put u v a r k p =
    let e : filled u a ≡ filled v a = filled_same u v a p.below in
    let f : filled v (a + r) ≡ filled v a + r = filled_used v a r p.is in
    let g : (filled u a ≤ filled u (a + r)) × (filled u (a + r) ≤ up (filled u a)) = filled_unused u a r p.was in
    let m : r ≤ longest_run = p.most in (
      filled_near v u (a + r) k (λ s h. sym (p.above s h)) (omega arith),
      filled_near u v (a + r) k p.above (omega arith),
    )
