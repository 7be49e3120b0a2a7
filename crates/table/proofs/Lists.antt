-- Sorted lists of items with one item more or less are sorted.
use Rattle.std.proofs.Common.{◌≡◌, Bool, true, List, [], ◌∷◌, ◌++◌}
use Rattle.table.specs.Pairs.{Each}
use Rattle.table.specs.Tree.{Item}
use Rattle.table.specs.Search.{Sorted, Under, Over}
use Rattle.table.proofs.Descending.{each_append, each_left, each_right}

module _ {K V : Type 0} (before : K → K → Bool) where
  pub sorted_more : (a : List (Item K V)) (x : Item K V) (b : List (Item K V)) → Sorted before (a ++ b) → Each (λ (y : Item K V). Under before x.key y.key) a → Each (λ (y : Item K V). Over before x.key y.key) b → Sorted before (a ++ x ∷ b)
  sorted_more [] x b s h k = (k, s)
  sorted_more (y ∷ a) x b s h k =
      let P : Item K V → Type 0 = λ z. before y.key z.key ≡ true in
      (each_append P a (x ∷ b) (each_left P a b s.0) (h.0, each_right P a b s.0), sorted_more a x b s.1 h.1 k)

  pub sorted_less : (a : List (Item K V)) (x : Item K V) (b : List (Item K V)) → Sorted before (a ++ x ∷ b) → Sorted before (a ++ b)
  sorted_less [] x b s = s.1
  sorted_less (y ∷ a) x b s =
      let P : Item K V → Type 0 = λ z. before y.key z.key ≡ true in
      (each_append P a b (each_left P a (x ∷ b) s.0) (each_right P a (x ∷ b) s.0).1, sorted_less a x b s.1)
