-- The digits at the front of a list, and a loop over them: what it keeps, each step, and what its end gives.
use Rattle.std.proofs.Common.{◌≡◌, ℕ, ◌+◌, ◌^◌, ◌<◌, ◌≤◌, true, false, leb, ◌≢◌, Bool, cond, ◌⊎◌, inl, inr, suc, zero, List, [], ◌∷◌, ◌++◌, length, take, drop, Ok, Err, sym, refl, ap, ◌∙◌, arith}
use Rattle.std.proofs.lemmas.Bool.{le-leb, lt-leb, and_from, and_right}
use Rattle.slab_log.specs.declared.refusal.Refusal.TheVariants.{BadLine}
use Rattle.script.specs.Numbers.{is_digit, front_digits, value_after, value, counted, number_at}

-- one byte before equal lists
pub behind : (b : ℕ) {xs ys : List ℕ} → xs ≡ ys → b ∷ xs ≡ b ∷ ys
behind b e = ap (λ (bs : List ℕ). b ∷ bs) e

-- the digits at the front of a list, again, and with what follows them
pub front_again : (bs : List ℕ) → front_digits (front_digits bs) ≡ front_digits bs
front_again [] = refl
front_again (b ∷ bs) = go (is_digit b) refl (front_again bs)
  where
    go : (t : Bool) → is_digit b ≡ t → front_digits (front_digits bs) ≡ front_digits bs
        → front_digits (cond t (b ∷ front_digits bs) []) ≡ cond t (b ∷ front_digits bs) []
    go true e h = rw e (behind b h)
    go false e h = refl

pub front_split : (bs : List ℕ) → bs ≡ front_digits bs ++ drop (length (front_digits bs)) bs
front_split [] = refl
front_split (b ∷ bs) = go (is_digit b) (front_split bs)
  where
    go : (t : Bool) → bs ≡ front_digits bs ++ drop (length (front_digits bs)) bs
        → b ∷ bs ≡ cond t (b ∷ front_digits bs) [] ++ drop (length (cond t (b ∷ front_digits bs) [])) (b ∷ bs)
    go true h = behind b h
    go false h = refl

-- of the first bytes, the digits at the front are those of all, if they end before
pub front_taken : (k : ℕ) (bs : List ℕ) → length (front_digits (take k bs)) < k → front_digits (take k bs) ≡ front_digits bs
front_taken zero bs h = absurd (omega arith)
front_taken (suc k) [] h = refl
front_taken (suc k) (b ∷ bs) h = go (is_digit b) (front_taken k bs) h
  where
    go : (t : Bool) → (length (front_digits (take k bs)) < k → front_digits (take k bs) ≡ front_digits bs)
        → length (cond t (b ∷ front_digits (take k bs)) []) < suc k
        → cond t (b ∷ front_digits (take k bs)) [] ≡ cond t (b ∷ front_digits bs) []
    go true later h = behind b (later (omega arith))
    go false later h = refl

-- and there are as many at least
front_fewer : (k : ℕ) (bs : List ℕ) → length (front_digits (take k bs)) ≤ length (front_digits bs)
front_fewer zero bs = omega arith
front_fewer (suc k) [] = omega arith
front_fewer (suc k) (b ∷ bs) = go (is_digit b) (front_fewer k bs)
  where
    go : (t : Bool) → length (front_digits (take k bs)) ≤ length (front_digits bs)
        → length (cond t (b ∷ front_digits (take k bs)) []) ≤ length (cond t (b ∷ front_digits bs) [])
    go true h = omega arith
    go false h = omega arith

module _ (line : List ℕ) (from n : ℕ) (counts : n ≡ length (front_digits (take 11 (drop from line)))) where
  same : n ≤ 10 → front_digits (take 11 (drop from line)) ≡ front_digits (drop from line)
  same few = front_taken 11 (drop from line) (omega (arith, counts))

  -- none, or more than 10, are refused
  pub number_refused : (n ≡ 0) ⊎ (n ≢ 0 × (10 < n)) → number_at line from ≡ Err BadLine
  number_refused (inl none) =
      let zero_of : length (front_digits (drop from line)) ≡ 0 = ap length (sym (same (omega arith))) ∙ sym counts ∙ none in
      rw zero_of refl
  number_refused (inr (some, many)) =
      let k : ℕ = length (front_digits (drop from line)) in
      let more : 10 < k = omega (arith, counts, front_fewer 11 (drop from line)) in
      rw (and_right (leb 1 k) (leb k 10) (lt-leb k 10 more)) refl

  -- 1 to 10 of them are a number
  pub number_counted : (v : ℕ) → n ≢ 0 → n ≤ 10 → v ≡ value (front_digits (take 11 (drop from line)))
      → number_at line from ≡ Ok (record { value = v; end = from + n })
  number_counted v some few is =
      let some_few : counted n ≡ true = and_from _ _ (le-leb 1 n (omega arith)) (le-leb n 10 few) in
      let long : length (front_digits (drop from line)) ≡ n = ap length (sym (same few)) ∙ sym counts in
      rw (long, some_few, is ∙ ap value (same few)) refl

-- v is what the digits before a place write, and n is how many they are
pub record Read (bs : List ℕ) (i v n : ℕ) : Type 0 where
  pub few : i ≤ 11
  pub small : v < 10 ^ i
  pub counts : n ≡ i
  pub value_same : value_after v (front_digits (drop i bs)) ≡ value (front_digits bs)
  pub count_same : i + length (front_digits (drop i bs)) ≡ length (front_digits bs)
