-- A rule of a list of numbers, shown at all of its entries by one test that is computed over the whole list.
use Rattle.std.proofs.Common.{rules, ◌≡◌, ℕ, zero, suc, ◌+◌, ◌<◌, Bool, true, ◌&&◌, eqb, List, [], ◌∷◌, length, get_or, sym, refl, ◌∙◌, subst, add-zero, zero-add, arith}
use Rattle.std.proofs.lemmas.Bool.{eqb-true}

-- each entry is what f gives at its place, counted from i
abbrev pub all_by : (ℕ → ℕ) → ℕ → List ℕ → Bool
all_by f i [] = true
all_by f i (x ∷ xs) = eqb x (f i) && all_by f (suc i) xs

and_left : (p q : Bool) → (p && q) ≡ true → p ≡ true
and_left p q e = grind rules

and_right : (p q : Bool) → (p && q) ≡ true → q ≡ true
and_right p q e = grind rules

by_from : (f : ℕ → ℕ) (xs : List ℕ) (i : ℕ) → all_by f i xs ≡ true → (k : ℕ) → k < length xs → get_or xs k 0 ≡ f (i + k)
by_from f [] i t k h = absurd (omega arith)
by_from f (x ∷ xs) i t zero h = eqb-true x (f i) (and_left _ _ t) ∙ subst (λ (m : ℕ). f i ≡ f m) (sym (add-zero i)) refl
by_from f (x ∷ xs) i t (suc k) h =
    let e : suc i + k ≡ i + suc k = omega arith in
    by_from f xs (suc i) (and_right (eqb x (f i)) _ t) k (omega arith) ∙ subst (λ (m : ℕ). f (suc i + k) ≡ f m) e refl

pub by_rule : (f : ℕ → ℕ) (xs : List ℕ) → all_by f 0 xs ≡ true → (k : ℕ) → k < length xs → get_or xs k 0 ≡ f k
by_rule f xs t k h = by_from f xs 0 t k h ∙ subst (λ (m : ℕ). f (0 + k) ≡ f m) (zero-add k) refl
