-- A key and a value put in place of others: the tree keeps its shape, and the pairs are those without the one and with the other.
use Rattle.std.proofs.Common.{rules, ◌≡◌, ℕ, ◌+◌, ◌<◌, ◌≤◌, max, Bool, true, false, not, cond, eqb, ◌&&◌, ◌||◌, List, [], ◌∷◌, ◌++◌, map, length, set, Some, sym, refl, ap, ◌∙◌, subst, ⊎_elim, arith, length-append}
use Rattle.std.specs.List.{slice_get}
use Rattle.std.proofs.lemmas.Bool.{both_ways, cond-true, cond-false, cases_eq, eq-eqb, ne_eqb}
use Rattle.std.proofs.lemmas.List.{length-set}
use Rattle.std.proofs.lemmas.Option.{slice_get_within}
use Rattle.table.specs.declared.node.Node.{Node}
use Rattle.table.specs.declared.node.Heads.{Heads}
use Rattle.table.specs.declared.node.Entry.{Entry}
use Rattle.table.specs.Order.{Order}
use Rattle.table.specs.Pairs.{Each, pair, alike, has, without, put, same_side, Replaces}
use Rattle.table.specs.Tree.{Item, Tree, leaf, node, none, ptr, tall, inorder, one, uses, cell, Rep, Avl}
use Rattle.table.specs.Edit.{item, refilled}
use Rattle.table.specs.Search.{Sorted, Under, Over}
use Rattle.table.specs.Change.{Replaceable}
use Rattle.table.specs.Sound.{Holds, entry}
use Rattle.table.proofs.Model.{nth_set_same, nth_set_other, one_at, same_some, uses_append, uses_node}
use Rattle.table.proofs.Descending.{each_right}
use Rattle.table.proofs.Lists.{sorted_more, sorted_less}
use Rattle.table.proofs.Unused.{chain_frame}
use Rattle.table.proofs.Pairs.{one_way, put_between, key_present, pairs_each}
use Rattle.table.proofs.Calls.{Reads, reads, pairs_cut}
use Rattle.table.proofs.Replaceable.{alike_is}

module _ {K V : Type 0} (x : Item K V) where
  -- the item itself, where another stands at its place
  abbrev pub pick : Item K V → Item K V
  pick y = cond (eqb y.at x.at) x y

  abbrev pub with_item : Tree K V → Tree K V
  with_item leaf = leaf
  with_item (node y l r) = node (pick y) (with_item l) (with_item r)

  pick_here : (y : Item K V) → y.at ≡ x.at → pick y ≡ x
  pick_here y e = cond-true (eqb y.at x.at) x y (eq-eqb y.at x.at e)

  pick_off : (y : Item K V) → (y.at ≡ x.at → ⊥) → pick y ≡ y
  pick_off y ne = cond-false (eqb y.at x.at) x y (ne_eqb y.at x.at ne)

  pick_at : (y : Item K V) → (pick y).at ≡ y.at
  pick_at y = ⊎_elim (λ e. ap (λ (z : Item K V). z.at) (pick_here y e) ∙ sym e) (λ ne. ap (λ (z : Item K V). z.at) (pick_off y ne)) (cases_eq y.at x.at)

  with_item_ptr : (t : Tree K V) → ptr (with_item t) ≡ ptr t
  with_item_ptr leaf = refl
  with_item_ptr (node y l r) = pick_at y

  with_item_tall : (t : Tree K V) → tall (with_item t) ≡ tall t
  with_item_tall leaf = refl
  with_item_tall (node y l r) = λ i. max (with_item_tall l i) (with_item_tall r i) + 1

  with_item_avl : (t : Tree K V) → Avl t → Avl (with_item t)
  with_item_avl leaf h = tt
  with_item_avl (node y l r) h = (rw (with_item_tall l, with_item_tall r) h.0, with_item_avl l h.1, with_item_avl r h.2)

  map_append : (a b : List (Item K V)) → map pick (a ++ b) ≡ map pick a ++ map pick b
  map_append [] b = refl
  map_append (y ∷ a) b = ap (λ (q : List (Item K V)). pick y ∷ q) (map_append a b)

  with_item_order : (t : Tree K V) → inorder (with_item t) ≡ map pick (inorder t)
  with_item_order leaf = refl
  with_item_order (node y l r) = (λ i. with_item_order l i ++ pick y ∷ with_item_order r i) ∙ sym (map_append (inorder l) (y ∷ inorder r))

  map_off : (a : List (Item K V)) → uses x.at a ≡ 0 → map pick a ≡ a
  map_off [] off = refl
  map_off (y ∷ a) off =
      let ne : y.at ≡ x.at → ⊥ = λ e. omega (arith, off, ap (one x.at) e, one_at x.at) in
      λ i. pick_off y ne i ∷ map_off a (omega arith) i

  -- the records hold the same tree with the item
  with_item_rep : (xs : List (Node K V)) (n : Node K V) → slice_get xs x.at ≡ Some n → (t : Tree K V) → Rep xs t → Rep (set xs x.at (refilled x.key x.value n)) (with_item t)
  with_item_rep xs n read leaf h = tt
  with_item_rep xs n read (node y l r) h = (
    rw (pick_at y) h.0,
    ⊎_elim here other (cases_eq y.at x.at),
    with_item_rep xs n read l h.2,
    with_item_rep xs n read r h.3,
  )
    where
      m : Node K V
      m = refilled x.key x.value n

      here : y.at ≡ x.at → slice_get (set xs x.at m) (pick y).at ≡ Some (cell (pick y) (with_item l) (with_item r))
      here e =
          let was : n ≡ cell y l r = same_some n (cell y l r) (sym read ∙ ap (slice_get xs) (sym e) ∙ h.1) in
          let is : m ≡ cell x (with_item l) (with_item r) =
          (λ i. refilled x.key x.value (was i)) ∙ (λ i. record {
            key = x.key;
            value = x.value;
            links = record { left = sym (with_item_ptr l) i; right = sym (with_item_ptr r) i };
            height = max (sym (with_item_tall l) i) (sym (with_item_tall r) i) + 1;
          }) in
          ap (slice_get (set xs x.at m)) (pick_at y ∙ e) ∙ nth_set_same xs x.at m (slice_get_within xs x.at n read) ∙ ap Some is ∙ (λ i. Some (cell (sym (pick_here y e) i) (with_item l) (with_item r)))

      other : (y.at ≡ x.at → ⊥) → slice_get (set xs x.at m) (pick y).at ≡ Some (cell (pick y) (with_item l) (with_item r))
      other ne =
          let is : cell y l r ≡ cell y (with_item l) (with_item r) =
          λ i. record {
            key = y.key;
            value = y.value;
            links = record { left = sym (with_item_ptr l) i; right = sym (with_item_ptr r) i };
            height = max (sym (with_item_tall l) i) (sym (with_item_tall r) i) + 1;
          } in
          ap (slice_get (set xs x.at m)) (pick_at y) ∙ nth_set_other xs x.at y.at m ne ∙ h.1 ∙ ap Some is ∙ (λ i. Some (cell (sym (pick_off y ne) i) (with_item l) (with_item r)))

module _ {K V : Type 0} (before : K → K → Bool) (o : Order before) (key new : K) where
  -- in the list each other key lies on the same side of both keys
  same_early : (a b : List (Entry K V)) → Each (λ (y : Entry K V). Under before key y.key) a → Each (λ (y : Entry K V). Under before new y.key) a →
      same_side before key new b ≡ true → same_side before key new (a ++ b) ≡ true
  same_early [] b h k rest = rest
  same_early (y ∷ a) b h k rest = both (alike before key y.key) (before y.key key) (before y.key new) (before new y.key) _ h.0 k.0 (same_early a b h.1 k.1 rest)
    where
      both : (p q r s t : Bool) → q ≡ true → r ≡ true → t ≡ true → ((p || cond q r s) && t) ≡ true
      both p q r s t e f g = grind rules

  same_late : (b : List (Entry K V)) → Each (λ (y : Entry K V). Over before key y.key) b → Each (λ (y : Entry K V). Over before new y.key) b → same_side before key new b ≡ true
  same_late [] h k = refl
  same_late (y ∷ b) h k = both (alike before key y.key) (before y.key key) (before y.key new) (before new y.key) _ (one_way before o key y.key h.0) k.0 (same_late b h.1 k.1)
    where
      both : (p q r s t : Bool) → q ≡ false → s ≡ true → t ≡ true → ((p || cond q r s) && t) ≡ true
      both p q r s t e f g = grind rules

  same_here : (x : Entry K V) (b : List (Entry K V)) → x.key ≡ key → same_side before key new b ≡ true → same_side before key new (x ∷ b) ≡ true
  same_here x b e rest = both (before key x.key) (before x.key key) _ _ (ap (before key) e ∙ o.irreflexive key) (ap (λ (k : K). before k key) e ∙ o.irreflexive key) rest
    where
      both : (p q r t : Bool) → p ≡ false → q ≡ false → t ≡ true → (((not p && not q) || r) && t) ≡ true
      both p q r t e f g = grind rules

  -- so the pairs, where the key has such a node
  module _ (items : List (Item K V)) (at : ℕ) (s : Replaceable before key new at items) (value : V) where
    pub pairs_replaced : Replaces before (map entry items) (map entry (s.present.a ++ item at new value ∷ s.present.b)) key (pair new value) true
    pairs_replaced =
        let p = s.present in
        let ea = pairs_each (Under before key) p.a p.early in
        let la = pairs_each (Over before key) p.b p.late in
        let en = pairs_each (Under before new) p.a s.early in
        let ln = pairs_each (Over before new) p.b s.late in
        let parts : map entry items ≡ map entry p.a ++ entry p.x ∷ map entry p.b = ap (map entry) p.parts ∙ pairs_cut p.a p.x p.b in
        let k = key_present before key (map entry p.a) (entry p.x) (map entry p.b) ea (ap (before key) p.keyed ∙ o.irreflexive key) (ap (λ (q : K). before q key) p.keyed ∙ o.irreflexive key) in
        let side : same_side before key new (map entry items) ≡ true =
        ap (same_side before key new) parts ∙ same_early (map entry p.a) (entry p.x ∷ map entry p.b) ea en (same_here (entry p.x) (map entry p.b) p.keyed (same_late (map entry p.b) la ln)) in
        record {
          takes = sym (both (has before key (map entry items)) (same_side before key new (map entry items)) (ap (has before key) parts ∙ k.0) side);
          leaves =
              pairs_cut p.a (item at new value) p.b ∙ sym (ap (put before (pair new value)) (ap (without before key) parts ∙ k.2) ∙ put_between before new o value (map entry p.a) (map entry p.b) en ln);
        }
      where
        both : (p q : Bool) → p ≡ true → q ≡ true → (p && q) ≡ true
        both p q e f = grind rules

  -- the list has one where the key is there and each other lies on the same side
  apart_late : (b : List (Item K V)) → Each (λ (y : Item K V). Over before key y.key) b → same_side before key new (map entry b) ≡ true → Each (λ (y : Item K V). Over before new y.key) b
  apart_late [] h e = tt
  apart_late (y ∷ b) h e =
      let parts = both (before key y.key) (before y.key key) (before y.key new) (before new y.key) _ h.0 (one_way before o key y.key h.0) e in
      (parts.0, apart_late b h.1 parts.1)
    where
      both : (p q r s t : Bool) → p ≡ true → q ≡ false → (((not p && not q) || cond q r s) && t) ≡ true → (s ≡ true) × (t ≡ true)
      both p q r s t e f g = (grind rules, grind rules)

  replaceable_in : (items : List (Item K V)) → Sorted before items → has before key (map entry items) ≡ true → same_side before key new (map entry items) ≡ true → (at : ℕ) × Replaceable before key new at items
  replaceable_in [] sorted there side = absurd (both_ways false refl there)
  replaceable_in (y ∷ ys) sorted there side = go (alike before key y.key) refl (λ found. replaceable_in ys sorted.1 found rest)
    where
      tail : (p r t : Bool) → ((p || r) && t) ≡ true → t ≡ true
      tail p r t e = grind rules

      rest : same_side before key new (map entry ys) ≡ true
      rest = tail (alike before key y.key) (cond (before y.key key) (before y.key new) (before new y.key)) (same_side before key new (map entry ys)) side

      more : (p t : Bool) → p ≡ false → (p || t) ≡ true → t ≡ true
      more p t e f = grind rules

      first : (p q r s t : Bool) → p ≡ false → q ≡ true → ((p || cond q r s) && t) ≡ true → r ≡ true
      first p q r s t e f g = grind rules

      go : (v : Bool) → alike before key y.key ≡ v → (has before key (map entry ys) ≡ true → (at : ℕ) × Replaceable before key new at ys) → (at : ℕ) × Replaceable before key new at (y ∷ ys)
      go true e ih =
          let keyed : y.key ≡ key = sym (alike_is before o key y.key e) in
          let late : Each (λ (z : Item K V). Over before key z.key) ys = subst (λ (k : K). Each (λ (z : Item K V). Over before k z.key) ys) keyed sorted.0 in (
            y.at,
            record {
              present = record { a = []; x = y; b = ys; parts = refl; early = tt; late = late; keyed = keyed; place = refl };
              early = tt;
              late = apart_late ys late rest;
            },
          )
      go false e ih =
          let found = ih (more _ _ e there) in
          let s = found.1 in
          let p = s.present in
          let here : Each (λ (z : Item K V). before y.key z.key ≡ true) (p.a ++ p.x ∷ p.b) = subst (Each (λ (z : Item K V). before y.key z.key ≡ true)) p.parts sorted.0 in
          let under : before y.key key ≡ true = sym (ap (before y.key) p.keyed) ∙ at_x p.a p.x p.b here in (
            found.0,
            record {
              present = record { a = y ∷ p.a; x = p.x; b = p.b; parts = ap (λ (q : List (Item K V)). y ∷ q) p.parts; early = (under, p.early); late = p.late; keyed = p.keyed; place = p.place };
              early = (first _ _ _ _ _ e under side, s.early);
              late = s.late;
            },
          )
        where
          at_x : (a : List (Item K V)) (x : Item K V) (b : List (Item K V)) → Each (λ (z : Item K V). before y.key z.key ≡ true) (a ++ x ∷ b) → before y.key x.key ≡ true
          at_x [] x b h = h.0
          at_x (z ∷ a) x b h = at_x a x b h.1

  -- and where it has none, the pairs stay
  pub pairs_kept : (items : List (Item K V)) → Sorted before items → (value : V) → ((at : ℕ) → Replaceable before key new at items → ⊥) →
      Replaces before (map entry items) (map entry items) key (pair new value) false
  pairs_kept items sorted value none = record { takes = go (has before key (map entry items)) (same_side before key new (map entry items)) refl refl; leaves = refl }
    where
      go : (p q : Bool) → has before key (map entry items) ≡ p → same_side before key new (map entry items) ≡ q → false ≡ (has before key (map entry items) && same_side before key new (map entry items))
      go true true e f = let s = replaceable_in items sorted e f in absurd (none s.0 s.1)
      go true false e f = grind rules
      go false q e f = grind rules

  -- the records with another key and value there
  module _ {xs : List (Node K V)} {heads : Heads} {t : Tree K V} {us : List (Item K V)} (h : Holds before xs heads t us) (at : ℕ) (s : Replaceable before key new at (inorder t)) (value : V) where
    abbrev pub x : Item K V
    x = item at new value

    place : at ≡ s.present.x.at
    place = s.present.place

    same_uses : (j : ℕ) → uses j (s.present.a ++ x ∷ s.present.b) ≡ uses j (inorder t)
    same_uses j = omega (arith, uses_node j x s.present.a s.present.b, uses_node j s.present.x s.present.a s.present.b, ap (uses j) s.present.parts, ap (one j) place)

    order : inorder (with_item x t) ≡ s.present.a ++ x ∷ s.present.b
    order =
        let p = s.present in
        let count : uses at (inorder t) ≡ uses at p.a + (one at p.x.at + uses at p.b) = ap (uses at) p.parts ∙ uses_node at p.x p.a p.b in
        let here : one at p.x.at ≡ 1 = ap (one at) (sym place) ∙ one_at at in
        let once = h.whole.once at in
        let off-a : uses at p.a ≡ 0 = omega (arith, count, here, once) in
        let off-b : uses at p.b ≡ 0 = omega (arith, count, here, once) in
        with_item_order x t ∙ ap (map (pick x)) p.parts ∙ map_append x p.a (p.x ∷ p.b) ∙ (λ i. map_off x p.a off-a i ++ pick_here x p.x (sym place) i ∷ map_off x p.b off-b i)

    pub place_within : at < length xs
    place_within =
        let p = s.present in
        let all : Each (Reads xs) (p.a ++ p.x ∷ p.b) = subst (Each (Reads xs)) p.parts (reads xs t h.whole.stands.held) in
        rw place (each_right (Reads xs) p.a (p.x ∷ p.b) all).0.within

    here_once : uses at (inorder t) ≡ 1
    here_once =
        let p = s.present in
        omega (arith, ap (uses at) p.parts, uses_node at p.x p.a p.b, ap (one at) (sym place), one_at at, h.whole.once at)

    apart : (j : ℕ) → 1 ≤ uses j us → j ≡ at → ⊥
    apart j m e =
        let low : at < 1024 = omega (arith, place_within, h.size) in
        let on : 1 ≤ uses at us = subst (λ (i : ℕ). 1 ≤ uses i us) e m in
        omega (arith, on, h.shared at low, uses_append at (inorder t) us, here_once)

    placed : (n : Node K V) → slice_get xs at ≡ Some n → Holds before (set xs at (refilled new value n)) heads (with_item x t) us
    placed n read =
        let p = s.present in
        let ys : List (Node K V) = set xs at (refilled new value n) in
        let uses-are : (j : ℕ) → uses j (inorder (with_item x t)) ≡ uses j (inorder t) = λ j. ap (uses j) order ∙ same_uses j in
        record {
          size = length-set xs at _ ∙ h.size;
          whole = record {
            stands = record { held = with_item_rep x xs n read t h.whole.stands.held; root = h.whole.stands.root ∙ sym (with_item_ptr x t) };
            avl = with_item_avl x t h.whole.avl;
            once = λ j. omega (arith, uses-are j, h.whole.once j);
            sorted = subst (Sorted before) (sym order) (sorted_more before p.a x p.b (sorted_less before p.a p.x p.b (subst (Sorted before) p.parts h.whole.sorted)) s.early s.late);
          };
          chained = chain_frame xs ys us (λ j m. nth_set_other xs at j _ (apart j m)) h.chained;
          begins = h.begins;
          shared = λ j low. omega (arith, uses_append j (inorder (with_item x t)) us, uses_append j (inorder t) us, uses-are j, h.shared j low);
          count = h.count ∙ (omega (arith, ap length order, ap length p.parts, length-append p.a (x ∷ p.b), length-append p.a (p.x ∷ p.b)));
        }

    pub records_exchanged : (n : Node K V) → slice_get xs at ≡ Some n → (ys : List (Node K V)) → ys ≡ set xs at (refilled new value n) → Holds before ys heads (with_item x t) us
    records_exchanged n read ys is = subst (λ (zs : List (Node K V)). Holds before zs heads (with_item x t) us) (sym is) (placed n read)

    -- its pairs
    pub pairs_exchanged : Replaces before (map entry (inorder t)) (map entry (inorder (with_item x t))) key (pair new value) true
    pairs_exchanged = rw order (pairs_replaced (inorder t) at s value)
