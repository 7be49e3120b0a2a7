-- Each set of free sectors has one condensed log.
use Rattle.std.proofs.Common.{◌≡◌, ℕ, zero, suc, ◌+◌, ◌-◌, ◌<◌, ◌≤◌, Bool, true, false, T, List, [], ◌∷◌, sym, refl, ap, ◌∙◌, subst, inl, inr, add-zero, arith}
use Rattle.std.proofs.lemmas.Bool.{cases_order, cases_eq, le-ltb}
use Rattle.slab_log.specs.Sectors.{Sectors, Run, used}
use Rattle.slab_log.specs.Condensed.{RunsFrom, none, next, all_words}
use Rattle.slab_log.specs.Laws.{CondensedIsUnique, CondensedExists}

-- the first sector of a run is in the set
pub head : (u : Sectors) (start len : ℕ) → Run u start len → T (u start)
head u start len r = let some = r.some in r.filled start (omega arith) (omega arith)

-- of two runs with nothing between the place and their starts, neither begins first
same_start : (u : Sectors) (at a b m n : ℕ) → at ≤ a → at ≤ b → Run u a m → Run u b n →
    ((s : ℕ) → at ≤ s → s < a → ¬ T (u s)) → ((s : ℕ) → at ≤ s → s < b → ¬ T (u s)) → a ≡ b
same_start u at a b m n p q r t f g =
    elim (cases_order a b)
    [ inl e ↦ e | inr (inl l) ↦ absurd (g a p l (head u a m r)) | inr (inr l) ↦ absurd (f b q l (head u b n t)) ]

-- two runs from one start have one length
pub same_length : (u : Sectors) (a b m n : ℕ) → a ≡ b → Run u a m → Run u b n → m ≡ n
same_length u a b m n e r t =
    elim (cases_order m n) [
      | inl e ↦ e
      | inr (inl l) ↦ absurd (r.after (t.filled (a + m) (omega arith) (omega arith)))
      | inr (inr l) ↦ absurd (t.after (r.filled (b + n) (omega arith) (omega arith)))
    ]

one_list : (u : Sectors) (at : ℕ) (rs : List (ℕ × ℕ)) (at' : ℕ) (qs : List (ℕ × ℕ)) → RunsFrom u at rs → RunsFrom u at' qs → at ≡ at' → rs ≡ qs
one_list u at rs at' qs (none h) (none k) e = refl
one_list u at rs at' qs (none h) (next {start = b} {len = n} q g t more) e = absurd (h b (omega arith) (head u b n t))
one_list u at rs at' qs (next {start = a} {len = m} p f r more) (none k) e = absurd (k a (omega arith) (head u a m r))
one_list u at rs at' qs (next {start = a} {len = m} {rest = xs} p f r more) (next {start = b} {len = n} {rest = ys} q g t more') e =
    let ab : a ≡ b = same_start u at a b m n p (omega arith) r t f (λ s l h. g s (omega arith) h) in
    let mn : m ≡ n = same_length u a b m n ab r t in
    let rest : xs ≡ ys = one_list u (a + m) xs (b + n) ys more more' (omega arith) in
    cc

pub condensed_is_unique : CondensedIsUnique
condensed_is_unique size free a b c d =
    let e : c.ranges ≡ d.ranges = one_list (used size free) 0 c.ranges 0 d.ranges c.all d.all refl in
    c.written ∙ ap all_words e ∙ sym d.written

-- the part of a run that stands at or after a place, and the runs after it
record From (u : Sectors) (at : ℕ) : Type 0 where
  len : ℕ
  rest : List (ℕ × ℕ)
  filled : (s : ℕ) → at ≤ s → s < at + len → T (u s)
  after : ¬ T (u (at + len))
  more : RunsFrom u (at + len) rest

-- what holds at a place and from the next on holds from it on
one_more : (u : Sectors) (b s : ℕ) → b ≤ s → ¬ T (u b) → (b + 1 ≤ s → ¬ T (u s)) → ¬ T (u s)
one_more u b s l h k =
    elim (cases_eq b s) [ inl e ↦ rw e at h | inr ne ↦ k (omega arith) ]

-- a gap that begins one sector earlier
earlier : (u : Sectors) (at : ℕ) (rs : List (ℕ × ℕ)) (b : ℕ) → b + 1 ≡ at → ¬ T (u b) → RunsFrom u at rs → RunsFrom u b rs
earlier u at rs b e h (none k) = none (λ s l. one_more u b s l h (λ m. k s (omega arith)))
earlier u at rs b e h (next p f r more) =
    next (omega arith) (λ s l m. one_more u b s l h (λ n. f s (omega arith) m)) r more

-- with nothing of the set before the place, that part is a run
closed : (u : Sectors) (at : ℕ) → From u at → ((p : ℕ) → p + 1 ≡ at → ¬ T (u p)) → (rs : List (ℕ × ℕ)) × RunsFrom u at rs
closed u at f before = go f.len f.filled f.after f.more
  where
    go : (len : ℕ) → ((s : ℕ) → at ≤ s → s < at + len → T (u s)) → ¬ T (u (at + len)) → RunsFrom u (at + len) f.rest →
        (rs : List (ℕ × ℕ)) × RunsFrom u at rs
    go zero full end more = (f.rest, rw add-zero at more)
    go (suc n) full end more = (
      (at, suc n) ∷ f.rest,
      next (omega arith) (λ s l m. absurd (omega arith)) (record { some = omega arith; filled = full; before = before; after = end }) more,
    )

-- the same from one sector earlier
extend : (u : Sectors) (at b : ℕ) → b + 1 ≡ at → From u at → From u b
extend u at b e f = go (u b) refl
  where
    go : (v : Bool) → u b ≡ v → From u b
    go true h =
        let z : b + (f.len + 1) ≡ at + f.len = omega arith in
        record {
          len = f.len + 1;
          rest = f.rest;
          filled = λ s l m. elim (cases_eq b s) [ inl k ↦ rw (← k, h) tt | inr ne ↦ f.filled s (omega arith) (omega arith) ];
          after = rw z f.after;
          more = rw z f.more;
        }
    go false h =
        let out : ¬ T (u b) = rw h (λ t. t) in
        let all = closed u at f (λ p k. let same : p ≡ b = omega arith in rw same out) in
        record {
          len = 0;
          rest = all.0;
          filled = λ s l m. absurd (omega arith);
          after = rw (add-zero b) out;
          more = rw (add-zero b) (earlier u at all.0 b e out all.1);
        }

-- the runs of a set that ends
runs_from : (u : Sectors) (end : ℕ) → ((s : ℕ) → end ≤ s → ¬ T (u s)) → (k : ℕ) → k ≤ end → From u (end - k)
runs_from u end past zero h =
    record {
      len = 0;
      rest = [];
      filled = λ s l m. absurd (omega arith);
      after = past (end - 0 + 0) (omega arith);
      more = none (λ s l. past s (omega arith));
    }
runs_from u end past (suc k) h = extend u (end - k) (end - suc k) (omega arith) (runs_from u end past k (omega arith))

pub all_runs : (u : Sectors) (end : ℕ) → ((s : ℕ) → end ≤ s → ¬ T (u s)) → (rs : List (ℕ × ℕ)) × RunsFrom u 0 rs
all_runs u end past =
    let z : end - end ≡ 0 = omega arith in
    let from : From u 0 = subst (λ x. From u x) z (runs_from u end past end (omega arith)) in
    closed u 0 from (λ p k. absurd (omega arith))

pub condensed_exists : CondensedExists
condensed_exists size free =
    let all = all_runs (used size free) size (λ s l. rw (le-ltb s size l) (λ t. t)) in
    (all_words all.0, record { ranges = all.0; all = all.1; written = refl })
