-- The way down to the last node whose key comes before a key and to the first whose key does not.
use Rattle.std.proofs.Common.{◌≡◌, ℕ, ◌+◌, ◌<◌, max, Bool, true, false, eqb, ◌≢◌, List, [], ◌∷◌, ◌++◌, Some, sym, refl, ap, ◌∙◌, subst, append_assoc, append-nil, arith}
use Rattle.std.specs.List.{slice_get}
use Rattle.std.proofs.lemmas.Bool.{cond-true, cond-false, both_ways, eq-eqb, ne_eqb}
use Rattle.table.specs.declared.node.Node.{Node}
use Rattle.table.specs.Order.{Order}
use Rattle.table.specs.Pairs.{Each}
use Rattle.table.specs.Tree.{Item, Tree, leaf, node, none, tall, inorder, Stands}
use Rattle.table.specs.Edit.{item}
use Rattle.table.specs.Search.{Sorted, Whole, Under}
use Rattle.table.specs.Parts.{final, NotUnder, Parted, Parting, written, stored}
use Rattle.table.proofs.Model.{opened}
use Rattle.table.proofs.Descending.{each_append, each_map, cut}
use Rattle.table.proofs.Inserting.{empty_leaf}

-- what comes after a key that does not come before `key` does not come before it either
pub not_under : {K : Type 0} (before : K → K → Bool) → Order before → (key a y : K) → before a key ≡ false → before a y ≡ true → before y key ≡ false
not_under before ordered key a y e h = go (before y key) refl
  where
    go : (v : Bool) → before y key ≡ v → v ≡ false
    go false f = refl
    go true f = absurd (both_ways (before a key) e (ordered.transitive a y key h f))

module _ {K V : Type 0} where
  pub final_end : (a : List (Item K V)) (x : Item K V) → final (a ++ x ∷ []) ≡ x.at
  final_end [] x = refl
  final_end (y ∷ []) x = refl
  final_end (y ∷ z ∷ a) x = final_end (z ∷ a) x

  pub stored_is : (xs : List (Node K V)) (link : ℕ) (t : Tree K V) → Stands xs link t → stored xs link ≡ tall t
  stored_is xs link leaf s = cond-true (eqb link none) 0 (written (slice_get xs link)) (eq-eqb link none s.root)
  stored_is xs link (node x l r) s =
      let ne : link ≡ none → ⊥ = λ e. omega (arith, s.root, s.held.0) in
      cond-false (eqb link none) 0 (written (slice_get xs link)) (ne_eqb link none ne) ∙ ap written (ap (slice_get xs) s.root ∙ s.held.1)

  module _ (before : K → K → Bool) (E L : K → Type 0) where
    pub parting_starts : (xs : List (Node K V)) (root : ℕ) (t : Tree K V) → Whole before xs root t → Parting before E L xs root none none (inorder t)
    parting_starts xs root t w = record { a = []; sub = t; b = []; stands = w.stands; sorted = w.sorted; parts = append-nil (inorder t); early = tt; late = tt; below_is = refl; past_is = refl }

    pub parting_over : (xs : List (Node K V)) (link below past : ℕ) (items : List (Item K V)) → link ≡ none → (d : Parting before E L xs link below past items) → items ≡ d.a ++ d.b
    parting_over xs link below past items e d =
        let is : inorder d.sub ≡ [] = ap inorder (empty_leaf xs link d.sub d.stands e) in
        sym d.parts ∙ ap (λ (q : List (Item K V)). d.a ++ (q ++ d.b)) is

    module _ (xs : List (Node K V)) (link below past : ℕ) (items : List (Item K V)) (n : Node K V) (read : slice_get xs link ≡ Some n) (some : link ≢ none) (d : Parting before E L xs link below past items) where
      pub part_right : E n.key → ((y : K) → before y n.key ≡ true → E y) → Parting before E L xs n.links.right link past items
      part_right here more =
          let x : Item K V = item link n.key n.value in
          let o = opened xs link n d.sub d.stands some read in
          let k = cut before (inorder o.l) x (inorder o.r) (subst (λ (s : Tree K V). Sorted before (inorder s)) o.is d.sorted) in
          let P : Item K V → Type 0 = λ y. E y.key in
          let regroup : ((d.a ++ inorder o.l) ++ x ∷ []) ++ (inorder o.r ++ d.b) ≡ d.a ++ ((inorder o.l ++ x ∷ inorder o.r) ++ d.b) = simp append_assoc in
          record {
            a = (d.a ++ inorder o.l) ++ x ∷ [];
            sub = o.r;
            b = d.b;
            stands = o.on_right;
            sorted = k.right;
            parts = regroup ∙ ap (λ (s : Tree K V). d.a ++ (inorder s ++ d.b)) (sym o.is) ∙ d.parts;
            early = each_append P (d.a ++ inorder o.l) (x ∷ []) (each_append P d.a (inorder o.l) d.early (each_map _ P (inorder o.l) (λ y h. more y.key h) k.below)) (here, tt);
            late = d.late;
            below_is = sym (final_end (d.a ++ inorder o.l) x);
            past_is = d.past_is;
          }

      pub part_left : L n.key → ((y : K) → before n.key y ≡ true → L y) → Parting before E L xs n.links.left below link items
      part_left here more =
          let x : Item K V = item link n.key n.value in
          let o = opened xs link n d.sub d.stands some read in
          let k = cut before (inorder o.l) x (inorder o.r) (subst (λ (s : Tree K V). Sorted before (inorder s)) o.is d.sorted) in
          let P : Item K V → Type 0 = λ y. L y.key in
          let regroup : d.a ++ (inorder o.l ++ (x ∷ (inorder o.r ++ d.b))) ≡ d.a ++ ((inorder o.l ++ x ∷ inorder o.r) ++ d.b) = simp append_assoc in
          record {
            a = d.a;
            sub = o.l;
            b = x ∷ (inorder o.r ++ d.b);
            stands = o.on_left;
            sorted = k.left;
            parts = regroup ∙ ap (λ (s : Tree K V). d.a ++ (inorder s ++ d.b)) (sym o.is) ∙ d.parts;
            early = d.early;
            late = (here, each_append P (inorder o.r) d.b (each_map _ P (inorder o.r) (λ y h. more y.key h) k.above) d.late);
            below_is = d.below_is;
            past_is = refl;
          }

      pub shorter : (stored xs n.links.left < stored xs link) × (stored xs n.links.right < stored xs link)
      shorter =
          let o = opened xs link n d.sub d.stands some read in
          let high : tall d.sub ≡ max (tall o.l) (tall o.r) + 1 = ap tall o.is in
          let e = stored_is xs link d.sub d.stands in
          let f = stored_is xs n.links.left o.l o.on_left in
          let h = stored_is xs n.links.right o.r o.on_right in
          (rw (e, f) (omega arith), rw (e, h) (omega arith))

  pub parting_ends : (before : K → K → Bool) (key : K) (xs : List (Node K V)) (link below past : ℕ) (items : List (Item K V)) → link ≡ none → Parting before (Under before key) (NotUnder before key) xs link below past items → Parted before key below past items
  parting_ends before key xs link below past items e d = record { a = d.a; b = d.b; parts = parting_over before _ _ xs link below past items e d; early = d.early; late = d.late; below_is = d.below_is; past_is = d.past_is }

  -- a way that only goes right passes every item
  all_passed : (a b : List (Item K V)) → Each (λ (x : Item K V). ⊥) b → final (a ++ b) ≡ final a
  all_passed a [] h = ap final (append-nil a)
  all_passed a (x ∷ b) h = absurd h.0

  pub right_ends : (before : K → K → Bool) (xs : List (Node K V)) (link below past : ℕ) (items : List (Item K V)) → link ≡ none → Parting before (λ _. Unit {0}) (λ _. ⊥) xs link below past items → below ≡ final items
  right_ends before xs link below past items e d = d.below_is ∙ sym (ap final (parting_over before _ _ xs link below past items e d) ∙ all_passed d.a d.b d.late)
