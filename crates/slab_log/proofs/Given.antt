-- An iterator that has given so many items of a list and gives the next one: what is left then, and that its end is nearer.
use Rattle.std.proofs.Common.{◌≡◌, ℕ, ◌+◌, List, ◌∷◌, length, drop, Some, ap, arith, add-one}
use Rattle.std.specs.List.{slice_get}
use Rattle.std.specs.Iterator.{item_count, MakesProgress}
use Rattle.std.proofs.Math.Seq.{drop-cons}
use Rattle.std.proofs.lemmas.Option.{slice_get_within, get_or_from_slice_get}

-- behind the first n items of a list the item at n comes first
pub drop_at : {A : Type 0} (xs : List A) (n : ℕ) (x : A) → slice_get xs n ≡ Some x → drop n xs ≡ x ∷ drop (n + 1) xs
drop_at xs n x e =
    rw (add-one, drop-cons xs n x (slice_get_within xs n x e), get_or_from_slice_get xs n x x e)

-- the end is nearer where what is left is one item shorter
pub nearer : {S A : Type 0} (can : S → Type 0) (rest : S → List A) (s t : S) (x : A) → rest s ≡ x ∷ rest t → can t → MakesProgress can (item_count rest) s (Some x) t
nearer can rest s t x e h =
    record { on = λ _. (h, tt, omega (arith, ap length e)); keeps = h; rests = λ _. tt }
