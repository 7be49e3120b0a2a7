-- The way down.
use Rattle.std.proofs.Common.{◌≡◌, ℕ, ◌+◌, ◌-◌, ◌<◌, ◌≤◌, max, Bool, true, ◌≢◌, List, [], ◌∷◌, ◌++◌, length, Some, sym, refl, ap, ◌∙◌, subst, append-nil, length-append, arith}
use Rattle.std.specs.List.{slice_get}
use Rattle.table.specs.declared.node.Node.{Node}
use Rattle.table.specs.declared.tree.path.Step.{Step}
use Rattle.table.specs.Side.{Side, Left, Right, across, links_of, link_on}
use Rattle.table.specs.Tree.{Item, Tree, none, tall, inorder, Avl, Stands}
use Rattle.table.specs.Edit.{item, cell_of}
use Rattle.table.specs.Path.{Frame, on, front, back, top, Lvl, Along}
use Rattle.table.specs.Pairs.{Each}
use Rattle.table.specs.Search.{Sorted, Whole, Way, Walk, Descent}
use Rattle.table.proofs.Model.{opened, tall_read}
use Rattle.table.proofs.Turn.{node_on, tall_on, avl_off}
use Rattle.table.proofs.Climbing.{frame_row}

module _ {A : Type 0} where
  pub each_append : (P : A → Type 0) (a b : List A) → Each P a → Each P b → Each P (a ++ b)
  each_append P [] b h k = k
  each_append P (x ∷ a) b h k = (h.0, each_append P a b h.1 k)

  pub each_left : (P : A → Type 0) (a b : List A) → Each P (a ++ b) → Each P a
  each_left P [] b h = tt
  each_left P (x ∷ a) b h = (h.0, each_left P a b h.1)

  pub each_right : (P : A → Type 0) (a b : List A) → Each P (a ++ b) → Each P b
  each_right P [] b h = h
  each_right P (x ∷ a) b h = each_right P a b h.1

  pub each_map : (P Q : A → Type 0) (a : List A) → ((x : A) → P x → Q x) → Each P a → Each Q a
  each_map P Q [] f h = tt
  each_map P Q (x ∷ a) f h = (f x h.0, each_map P Q a f h.1)

module _ {K V : Type 0} (before : K → K → Bool) where
  -- a sorted list, cut at one of its items
  pub record Cut (a : List (Item K V)) (x : Item K V) (b : List (Item K V)) : Type 0 where
    pub left : Sorted before a
    pub right : Sorted before b
    pub below : Each (λ (y : Item K V). before y.key x.key ≡ true) a
    pub above : Each (λ (y : Item K V). before x.key y.key ≡ true) b

  pub cut : (a : List (Item K V)) (x : Item K V) (b : List (Item K V)) → Sorted before (a ++ x ∷ b) → Cut a x b
  cut [] x b h = record { left = tt; right = h.1; below = tt; above = h.0 }
  cut (y ∷ a) x b h =
      let k = cut a x b h.1 in
      let P : Item K V → Type 0 = λ z. before y.key z.key ≡ true in
      record { left = (each_left P a (x ∷ b) h.0, k.left); right = k.right; below = ((each_right P a (x ∷ b) h.0).0, k.below); above = k.above }

module _ {K V : Type 0} where
  -- the record of a node, by its sides
  by_sides : (s : Side) (at far high : ℕ) (n : Node K V) → link_on (across s) n.links ≡ far → n.height ≡ high → n ≡ cell_of (item at n.key n.value) (links_of s (link_on s n.links) far) high
  by_sides Left at far high n e f = λ i. record { key = n.key; value = n.value; links = record { left = n.links.left; right = e i }; height = f i }
  by_sides Right at far high n e f = λ i. record { key = n.key; value = n.value; links = record { left = e i; right = n.links.right }; height = f i }

  -- one step more, to the near side of a node
  module _ (xs : List (Node K V)) (path : List Step) (link : ℕ) (t : Tree K V) (n : Node K V) (read : slice_get xs link ≡ Some n) (linkable : link < none) (fs : List (Frame K V)) (s : Side) (near far : Tree K V) (on_near : Stands xs (link_on s n.links) near) (on_far : Stands xs (link_on (across s) n.links) far) (w : Way xs path link t fs (node_on s (item link n.key n.value) near far)) where
    pub way_on : Way xs (path ++ record { at = link; side = s } ∷ []) (link_on s n.links) t (on s (item link n.key n.value) far ∷ fs) near
    way_on =
        let x : Item K V = item link n.key n.value in
        let step : Step = record { at = link; side = s } in
        let high = tall_on s x near far in
        let avl = avl_off s x near far w.avl in
        let tall-is : n.height ≡ max (tall near) (tall far) + 1 = tall_read xs link n (node_on s x near far) w.stands (λ e. omega arith) read ∙ high in
        record {
          stands = on_near;
          along = (linkable, read ∙ ap Some (by_sides s link _ _ n on_far.root tall-is), on_far.held, subst (λ (h : ℕ). Along xs link h fs) high w.along);
          noted = ap (λ (q : List Step). q ++ step ∷ []) w.noted;
          order = sym (frame_row s x near far fs) ∙ w.order;
          avl = avl.1;
          lvl = (avl.0, avl.2, subst (Lvl fs) high w.lvl);
          high = ap (top fs) (sym high) ∙ w.high;
          space = omega (arith, w.space, length-append path (step ∷ []));
        }

  module _ (before : K → K → Bool) (E L : K → Type 0) (xs : List (Node K V)) (path : List Step) (link : ℕ) (t : Tree K V) (n : Node K V) (read : slice_get xs link ≡ Some n) (some : link ≢ none) (d : Descent before E L xs path link t) where
    pub deep_within : length path < 14
    deep_within =
        let o = opened xs link n d.sub d.walk.way.stands some read in
        omega (arith, d.walk.way.space, ap tall o.is)

    pub went_left : L n.key → ((y : K) → before n.key y ≡ true → L y) → Descent before E L xs (path ++ record { at = link; side = Left } ∷ []) n.links.left t
    went_left here more =
        let x : Item K V = item link n.key n.value in
        let o = opened xs link n d.sub d.walk.way.stands some read in
        let w = subst (λ (s : Tree K V). Walk before E L xs path link t d.fs s) o.is d.walk in
        let k = cut before (inorder o.l) x (inorder o.r) w.sorted in
        let P : Item K V → Type 0 = λ y. L y.key in
        record {
          fs = _;
          sub = o.l;
          walk = record {
            way = way_on xs path link t n read o.linkable d.fs Left o.l o.r o.on_left o.on_right w.way;
            sorted = k.left;
            early = w.early;
            late = (here, each_append P (inorder o.r) (back d.fs) (each_map _ P (inorder o.r) (λ y h. more y.key h) k.above) w.late);
          };
        }

    pub went_right : E n.key → ((y : K) → before y n.key ≡ true → E y) → Descent before E L xs (path ++ record { at = link; side = Right } ∷ []) n.links.right t
    went_right here more =
        let x : Item K V = item link n.key n.value in
        let o = opened xs link n d.sub d.walk.way.stands some read in
        let w = subst (λ (s : Tree K V). Walk before E L xs path link t d.fs s) o.is d.walk in
        let k = cut before (inorder o.l) x (inorder o.r) w.sorted in
        let P : Item K V → Type 0 = λ y. E y.key in
        record {
          fs = _;
          sub = o.r;
          walk = record {
            way = way_on xs path link t n read o.linkable d.fs Right o.r o.l o.on_right o.on_left w.way;
            sorted = k.right;
            early = each_append P (front d.fs) (inorder o.l ++ x ∷ []) w.early (each_append P (inorder o.l) (x ∷ []) (each_map _ P (inorder o.l) (λ y h. more y.key h) k.below) (here, tt));
            late = w.late;
          };
        }

  -- the way begins at the root
  pub way_starts : (xs : List (Node K V)) (root : ℕ) (t : Tree K V) → Stands xs root t → Avl t → tall t ≤ 14 → Way xs [] root t [] t
  way_starts xs root t s avl space =
      record { stands = s; along = tt; noted = refl; order = append-nil (inorder t); avl = avl; lvl = tt; high = refl; space = omega (arith, space) }

  pub starts : (before : K → K → Bool) (E L : K → Type 0) (xs : List (Node K V)) (path : List Step) (root : ℕ) (t : Tree K V) → path ≡ [] → Whole before xs root t → tall t ≤ 14 → Descent before E L xs path root t
  starts before E L xs path root t empty w space =
      rw empty (record { fs = []; sub = t; walk = record { way = way_starts xs root t w.stands w.avl space; sorted = w.sorted; early = tt; late = tt } })

pub at_link : {K V : Type 0} (before : K → K → Bool) (E L : K → Type 0) (xs : List (Node K V)) (path : List Step) (link k : ℕ) (t : Tree K V) → link ≡ k → Descent before E L xs path link t → Descent before E L xs path k t
at_link before E L xs path link k t e d = subst (λ (i : ℕ). Descent before E L xs path i t) e d

-- a way that a call has noted
pub noted : {K V : Type 0} (before : K → K → Bool) (E L : K → Type 0) (xs : List (Node K V)) (path path-2 : List Step) (link : ℕ) (t : Tree K V) → path-2 ≡ path → Descent before E L xs path link t → Descent before E L xs path-2 link t
noted before E L xs path path-2 link t e d = rw e d

-- one more step leaves less room
pub room_falls : (old new : ℕ) → old < 14 → new ≡ old + 1 → 14 - new < 14 - old
room_falls old new h e = omega arith
