-- The tree and the chain that stand in the records are those that the records hold.
use Rattle.std.proofs.Common.{◌≡◌, ℕ, zero, suc, ◌+◌, ◌<◌, ◌≤◌, Bool, List, [], ◌∷◌, ◌++◌, map, length, sym, refl, ap, ◌∙◌, subst, arith, length-append}
use lib.ListN.{length-map}
use Rattle.std.specs.List.{slice_get}
use Rattle.std.proofs.lemmas.Option.{slice_get_past}
use Rattle.table.specs.declared.node.Node.{Node}
use Rattle.table.specs.declared.node.Heads.{Heads}
use Rattle.table.specs.Pairs.{Each, Ordered}
use Rattle.table.specs.Tree.{Item, Tree, leaf, node, none, ptr, tall, inorder, Stands}
use Rattle.table.specs.Edit.{item}
use Rattle.table.specs.Parts.{front_at}
use Rattle.table.specs.Sound.{given, walk, follow, held, idle, Chain, Holds, Sound, entry, entries}
use Rattle.table.proofs.Descending.{each_append}
use Rattle.table.proofs.Bound.{upto_all, upto_full, each_held, held_tall}
use Rattle.table.proofs.Unused.{chain_held}
use Rattle.table.proofs.Pairs.{pairs_ordered}

module _ {K V : Type 0} where
  walk_is : (n : ℕ) (xs : List (Node K V)) (link : ℕ) (t : Tree K V) → length xs ≤ none → tall t ≤ n → Stands xs link t → walk n xs link ≡ t
  unfolding walk
  walk_is zero xs link leaf short low s = refl
  walk_is zero xs link (node x l r) short low s = absurd (omega (arith, low))
  walk_is (suc n) xs link leaf short low s =
      let f : Node K V → Tree K V = λ c. node (item link c.key c.value) (walk n xs c.links.left) (walk n xs c.links.right) in
      ap (given leaf f) (slice_get_past xs link (omega (arith, s.root)))
  walk_is (suc n) xs link (node x l r) short low s =
      let f : Node K V → Tree K V = λ c. node (item link c.key c.value) (walk n xs c.links.left) (walk n xs c.links.right) in
      let on_left : walk n xs (ptr l) ≡ l = walk_is n xs (ptr l) l short (omega (arith, low)) (record { held = s.held.2; root = refl }) in
      let on_right : walk n xs (ptr r) ≡ r = walk_is n xs (ptr r) r short (omega (arith, low)) (record { held = s.held.3; root = refl }) in
      ap (given leaf f) (ap (slice_get xs) s.root ∙ s.held.1)
      ∙ (λ i. node (item (s.root i) x.key x.value) (on_left i) (on_right i))

  follow_is : (n : ℕ) (xs : List (Node K V)) (link : ℕ) (us : List (Item K V)) → length xs ≤ none → length us ≤ n → link ≡ front_at us → Chain xs us → follow n xs link ≡ us
  unfolding follow
  follow_is zero xs link [] short low e h = refl
  follow_is zero xs link (x ∷ us) short low e h = absurd (omega (arith, low))
  follow_is (suc n) xs link [] short low e h =
      let f : Node K V → List (Item K V) = λ c. item link c.key c.value ∷ follow n xs c.links.left in
      ap (given [] f) (slice_get_past xs link (omega (arith, e)))
  follow_is (suc n) xs link (x ∷ us) short low e h =
      let f : Node K V → List (Item K V) = λ c. item link c.key c.value ∷ follow n xs c.links.left in
      let rest : follow n xs (front_at us) ≡ us = follow_is n xs (front_at us) us short (omega (arith, low)) refl h.2 in
      ap (given [] f) (ap (slice_get xs) e ∙ h.1) ∙ (λ i. item (e i) x.key x.value ∷ rest i)

  module _ {before : K → K → Bool} {xs : List (Node K V)} {heads : Heads} {t : Tree K V} {us : List (Item K V)} (h : Holds before xs heads t us) where
    -- the tree and the chain have all records
    pub all_counted : length (inorder t) + length us ≡ 1024
    all_counted =
        let P : Item K V → Type 0 = λ x. x.at < 1024 in
        let within : Each P (inorder t ++ us) = subst (λ (n : ℕ). Each (λ (x : Item K V). x.at < n) (inorder t ++ us)) h.size (each_append _ (inorder t) us (each_held xs t h.whole.stands.held) (chain_held xs us h.chained)) in
        omega (arith, upto_all 1024 (inorder t ++ us) within, upto_full 1024 (inorder t ++ us) h.shared, length-append (inorder t) us)

    pub low_tree : tall t ≤ 14
    low_tree = held_tall xs t h.whole.stands.held h.whole.once h.whole.avl (omega (arith, h.size))

    pub held_is : held xs heads.root ≡ t
    unfolding held
    held_is = walk_is 14 xs heads.root t (omega (arith, h.size)) low_tree h.whole.stands

    pub idle_is : idle xs heads.unused ≡ us
    unfolding idle
    idle_is = follow_is 1024 xs heads.unused us (omega (arith, h.size)) (omega (arith, all_counted)) h.begins h.chained

    pub sound : Sound before xs heads
    sound = let P : Tree K V → List (Item K V) → Type 0 = λ s vs. Holds before xs heads s vs in rw (held_is, idle_is) h

    pub entries_are : entries xs heads ≡ map entry (inorder t)
    entries_are = ap (λ (s : Tree K V). map entry (inorder s)) held_is

-- what a table says of its pairs: how many there are, and that they are in order
pub record Known {K V : Type 0} (before : K → K → Bool) (xs : List (Node K V)) (heads : Heads) : Type 0 where
  pub counts : heads.len ≡ length (entries xs heads)
  pub most : heads.len ≤ 1024
  pub ordered : Ordered before (entries xs heads)

module _ {K V : Type 0} (before : K → K → Bool) where
  pub known : (xs : List (Node K V)) (heads : Heads) → Sound before xs heads → Known before xs heads
  known xs heads h =
      record {
        counts = h.count ∙ sym (length-map (inorder (held xs heads.root)) entry);
        most = omega (arith, h.count, all_counted h);
        ordered = pairs_ordered before (inorder (held xs heads.root)) h.whole.sorted;
      }
