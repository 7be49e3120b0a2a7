-- Lemmas on trees and the slices that hold them.
use Rattle.std.proofs.Common.{◌≡◌, ℕ, zero, suc, ◌+◌, ◌<◌, ◌≤◌, max, ◌≢◌, List, [], ◌∷◌, ◌++◌, length, set, Some, sym, refl, ap, ◌∙◌, arith}
use Rattle.std.specs.List.{slice_get}
use Rattle.std.proofs.lemmas.List.{length-set}
use Rattle.std.proofs.lemmas.Bool.Decides.{nat_tests}
use Rattle.std.proofs.lemmas.Option.{slice_get_within}
use Rattle.table.specs.declared.node.Node.{Node}
use Rattle.table.specs.Side.{Links}
use Rattle.table.specs.Tree.{Item, Tree, leaf, node, none, tall, inorder, one, uses, cell, Rep, Stands}
use Rattle.table.specs.Edit.{item, Room, Joined}

pub nth_some : {X : Type 0} (xs : List X) (i : ℕ) → i < length xs → (x : X) × (slice_get xs i ≡ Some x)
nth_some [] i h = absurd (omega arith)
nth_some (y ∷ xs) zero h = (y, refl)
nth_some (y ∷ xs) (suc i) h = nth_some xs i (omega arith)

pub nth_set_same : {X : Type 0} (xs : List X) (i : ℕ) (x : X) → i < length xs → slice_get (set xs i x) i ≡ Some x
nth_set_same [] i x h = absurd (omega arith)
nth_set_same (y ∷ xs) zero x h = refl
nth_set_same (y ∷ xs) (suc i) x h = nth_set_same xs i x (omega arith)

pub nth_set_other : {X : Type 0} (xs : List X) (i j : ℕ) (x : X) → j ≢ i → slice_get (set xs i x) j ≡ slice_get xs j
nth_set_other [] i j x h = refl
nth_set_other (y ∷ xs) zero zero x h = absurd (h refl)
nth_set_other (y ∷ xs) zero (suc j) x h = refl
nth_set_other (y ∷ xs) (suc i) zero x h = refl
nth_set_other (y ∷ xs) (suc i) (suc j) x h = nth_set_other xs i j x (λ e. h (ap suc e))

pub one_at : (j : ℕ) → one j j ≡ 1
one_at j = grind (arith, nat_tests)

pub one_off : (j i : ℕ) → j ≢ i → one j i ≡ 0
one_off j i ne = grind (arith, nat_tests)

pub same_some : {X : Type 0} (x y : X) → Some x ≡ Some y → x ≡ y
same_some x y e = cc

module _ {K V : Type 0} where
  pub uses_append : (j : ℕ) (xs ys : List (Item K V)) → uses j (xs ++ ys) ≡ uses j xs + uses j ys
  uses_append j [] ys = omega arith
  uses_append j (x ∷ xs) ys = omega (arith, uses_append j xs ys)

  -- how often a place is used in a node
  pub uses_node : (j : ℕ) (x : Item K V) (l r : List (Item K V)) → uses j (l ++ x ∷ r) ≡ uses j l + (one j x.at + uses j r)
  uses_node j x l r = uses_append j l (x ∷ r)

  -- a slice that agrees with another at the places of a tree holds it too
  pub rep_frame : (xs ys : List (Node K V)) (t : Tree K V) → ((j : ℕ) → 1 ≤ uses j (inorder t) → slice_get ys j ≡ slice_get xs j) → Rep xs t → Rep ys t
  rep_frame xs ys leaf same h = tt
  rep_frame xs ys (node x l r) same h = (
    h.0,
    same x.at (omega (arith, uses_node x.at x (inorder l) (inorder r), one_at x.at)) ∙ h.1,
    rep_frame xs ys l (λ j u. same j (omega (arith, uses_node j x (inorder l) (inorder r)))) h.2,
    rep_frame xs ys r (λ j u. same j (omega (arith, uses_node j x (inorder l) (inorder r)))) h.3,
  )

  -- what is known of a tree once its record is read
  pub record Opened (xs : List (Node K V)) (link : ℕ) (n : Node K V) (t : Tree K V) : Type 0 where
    pub l : Tree K V
    pub r : Tree K V
    pub is : t ≡ node (item link n.key n.value) l r
    pub on_left : Stands xs n.links.left l
    pub on_right : Stands xs n.links.right r
    pub linkable : link < none

  pub opened : (xs : List (Node K V)) (link : ℕ) (n : Node K V) (t : Tree K V) → Stands xs link t → link ≢ none → slice_get xs link ≡ Some n → Opened xs link n t
  opened xs link n leaf s ne e = absurd (ne s.root)
  opened xs link n (node x l r) s ne e =
      let at : x.at ≡ link = sym s.root in
      let got : n ≡ cell x l r = same_some n (cell x l r) (sym e ∙ ap (slice_get xs) s.root ∙ s.held.1) in
      record {
        l = l;
        r = r;
        is = ap (λ (y : Item K V). node y l r) (λ i. record { at = at i; key = (sym got i).key; value = (sym got i).value });
        on_left = record { held = s.held.2; root = ap (λ (m : Node K V). m.links.left) got };
        on_right = record { held = s.held.3; root = ap (λ (m : Node K V). m.links.right) got };
        linkable = rw (← at) s.held.0;
      }

  -- a link that is not the empty one is within the slice
  pub link_within : (xs : List (Node K V)) (link : ℕ) (t : Tree K V) → Stands xs link t → link ≢ none → link < length xs
  link_within xs link leaf s ne = absurd (ne s.root)
  link_within xs link (node x l r) s ne = rw s.root (slice_get_within xs x.at (cell x l r) s.held.1)

  -- the record at such a link
  pub link_node : (xs : List (Node K V)) (link : ℕ) (t : Tree K V) → Stands xs link t → link ≢ none → (n : Node K V) × (slice_get xs link ≡ Some n)
  link_node xs link leaf s ne = absurd (ne s.root)
  link_node xs link (node x l r) s ne = (cell x l r, ap (slice_get xs) s.root ∙ s.held.1)

  pub empty_tall : (xs : List (Node K V)) (link : ℕ) (t : Tree K V) → Stands xs link t → link ≡ none → tall t ≡ 0
  empty_tall xs link leaf s e = refl
  empty_tall xs link (node x l r) s e = absurd (omega (arith, s.root, s.held.0, e))

  pub tall_read : (xs : List (Node K V)) (link : ℕ) (n : Node K V) (t : Tree K V) → Stands xs link t → link ≢ none → slice_get xs link ≡ Some n → n.height ≡ tall t
  tall_read xs link n leaf s ne e = absurd (ne s.root)
  tall_read xs link n (node x l r) s ne e = ap (λ (m : Node K V). m.height) (same_some n (cell x l r) (sym e ∙ ap (slice_get xs) s.root ∙ s.held.1))

  -- the record that joins two trees
  pub joined : (xs : List (Node K V)) (x : Item K V) (links : Links) (h : ℕ) (l r : Tree K V) → Room xs x links l r → h ≡ max (tall l) (tall r) + 1 → Joined xs (set xs x.at (record { key = x.key; value = x.value; links = links; height = h })) x.at x l r
  joined xs x links h l r room tall-is =
      let n : Node K V = record { key = x.key; value = x.value; links = links; height = h } in
      let ys : List (Node K V) = set xs x.at n in
      let same : (j : ℕ) → j ≢ x.at → slice_get ys j ≡ slice_get xs j = λ j ne. nth_set_other xs x.at j n ne in
      let full : n ≡ cell x l r = λ i. record { key = x.key; value = x.value; links = record { left = room.on_left.root i; right = room.on_right.root i }; height = tall-is i } in
      let off : (j : ℕ) → uses j (inorder l ++ x ∷ inorder r) ≤ 1 = room.once in
      let here : (j : ℕ) → j ≡ x.at → one j x.at ≡ 1 = λ j e. rw e (one_at x.at) in
      let keep_left : (j : ℕ) → 1 ≤ uses j (inorder l) → slice_get ys j ≡ slice_get xs j = λ j u. same j (λ e. omega (arith, here j e, off j, uses_node j x (inorder l) (inorder r))) in
      let keep-right : (j : ℕ) → 1 ≤ uses j (inorder r) → slice_get ys j ≡ slice_get xs j = λ j u. same j (λ e. omega (arith, here j e, off j, uses_node j x (inorder l) (inorder r))) in
      record {
        stands = record {
          held = (room.linkable, nth_set_same xs x.at n room.within ∙ ap Some full, rep_frame xs ys l keep_left room.on_left.held, rep_frame xs ys r keep-right room.on_right.held);
          root = refl;
        };
        kept = record { long = length-set xs x.at n; same = same };
      }
