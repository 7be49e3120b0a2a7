-- Records are sound in one way at most, so that a table can keep that fact as it is.
use Rattle.std.specs.Prelude.{◌≡◌, ℕ, Bool, true, List, [], ◌∷◌, ◌++◌, length, Some, Option, refl}
use Rattle.std.specs.Coded.{Coded, Coded-set, coded_ℕ, coded_bool, coded_option, code_by, coded×, le_prop}
use Rattle.std.specs.List.{slice_get}
use Rattle.table.specs.declared.node.Node.{Node}
use Rattle.table.specs.declared.node.Heads.{Heads}
use Rattle.table.specs.Pairs.{Each}
use Rattle.table.specs.Tree.{Item, Tree, leaf, node, ptr, inorder, uses, cell, Rep, Avl}
use Rattle.table.specs.Search.{Sorted, Whole}
use Rattle.table.specs.Parts.{front_at}
use Rattle.table.specs.Sound.{held, idle, spare, Chain, Holds, Sound}

each_prop : {A : Type 0} (P : A → Type 0) → ((x : A) → IsProp (P x)) → (xs : List A) → IsProp (Each P xs)
each_prop P one_way [] p q = refl
each_prop P one_way (x ∷ xs) p q = λ i. (one_way x p.0 q.0 i, each_prop P one_way xs p.1 q.1 i)

avl_prop : {K V : Type 0} (t : Tree K V) → IsProp (Avl t)
avl_prop leaf p q = refl
avl_prop (node x l r) p q = λ i. ((le_prop p.0.0 q.0.0 i, le_prop p.0.1 q.0.1 i), avl_prop l p.1 q.1 i, avl_prop r p.2 q.2 i)

sorted_prop : {K V : Type 0} (before : K → K → Bool) (xs : List (Item K V)) → IsProp (Sorted before xs)
sorted_prop before [] p q = refl
sorted_prop before (x ∷ xs) p q = λ i. (each_prop _ (λ y. Coded-set coded_bool (before x.key y.key) true) xs p.0 q.0 i, sorted_prop before xs p.1 q.1 i)

module _ {K V : Type 0} (code_K : Coded K) (code_V : Coded V) where
  -- a record is stored as the tuple of its fields
  node_prop : (x y : Option (Node K V)) → IsProp (x ≡ y)
  node_prop = Coded-set (coded_option (code_by (K × (V × (ℕ × (ℕ × ℕ)))) (coded× code_K (coded× code_V (coded× coded_ℕ (coded× coded_ℕ coded_ℕ)))) (λ n. (n.key, (n.value, (n.links.left, (n.links.right, n.height))))) (λ p. record { key = p.0; value = p.1.0; links = record { left = p.1.1.0; right = p.1.1.1.0 }; height = p.1.1.1.1 }) (λ _. refl)))

  rep_prop : (xs : List (Node K V)) (t : Tree K V) → IsProp (Rep xs t)
  rep_prop xs leaf p q = refl
  rep_prop xs (node x l r) p q = λ i. (le_prop p.0 q.0 i, node_prop (slice_get xs x.at) (Some (cell x l r)) p.1 q.1 i, rep_prop xs l p.2 q.2 i, rep_prop xs r p.3 q.3 i)

  chain_prop : (xs : List (Node K V)) (us : List (Item K V)) → IsProp (Chain xs us)
  chain_prop xs [] p q = refl
  chain_prop xs (x ∷ us) p q = λ i. (le_prop p.0 q.0 i, node_prop (slice_get xs x.at) (Some (spare x.key x.value (front_at us))) p.1 q.1 i, chain_prop xs us p.2 q.2 i)

  whole_prop : (before : K → K → Bool) (xs : List (Node K V)) (link : ℕ) (t : Tree K V) → IsProp (Whole before xs link t)
  whole_prop before xs link t p q = λ i. record {
    stands = record { held = rep_prop xs t p.stands.held q.stands.held i; root = Coded-set coded_ℕ link (ptr t) p.stands.root q.stands.root i };
    avl = avl_prop t p.avl q.avl i;
    once = λ j. le_prop (p.once j) (q.once j) i;
    sorted = sorted_prop before (inorder t) p.sorted q.sorted i;
  }

  holds_prop : (before : K → K → Bool) (xs : List (Node K V)) (heads : Heads) (t : Tree K V) (us : List (Item K V)) → IsProp (Holds before xs heads t us)
  holds_prop before xs heads t us p q = λ i. record {
    size = Coded-set coded_ℕ (length xs) 1024 p.size q.size i;
    whole = whole_prop before xs heads.root t p.whole q.whole i;
    chained = chain_prop xs us p.chained q.chained i;
    begins = Coded-set coded_ℕ heads.unused (front_at us) p.begins q.begins i;
    shared = λ j h. Coded-set coded_ℕ (uses j (inorder t ++ us)) 1 (p.shared j h) (q.shared j h) i;
    count = Coded-set coded_ℕ heads.len (length (inorder t)) p.count q.count i;
  }

  pub sound_prop : (before : K → K → Bool) (xs : List (Node K V)) (heads : Heads) → IsProp (Sound before xs heads)
  sound_prop before xs heads = holds_prop before xs heads (held xs heads.root) (idle xs heads.unused)
