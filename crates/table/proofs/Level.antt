-- What `balance` gives where it joins the two sides as they are, and `refit` on its two ways.
use Rattle.std.proofs.Common.{◌≡◌, ℕ, ◌+◌, ◌-◌, ◌≤◌, max, List, set, Some, sym, refl, ap, subst, ◌∙◌, arith}
use Rattle.std.specs.List.{slice_get}
use Rattle.table.specs.declared.node.Node.{Node}
use Rattle.table.specs.Side.{Side, Left, Right, Links, across, links_of, link_on}
use Rattle.table.specs.Tree.{Item, Tree, node, tall, inorder, Stands}
use Rattle.table.specs.Edit.{item, cell_of, Room, Joined, Uneven, Balanced, Refit, tree_on}
use Rattle.table.proofs.Model.{same_some, joined}
use Rattle.table.proofs.Turn.{off_item}

module _ {K V : Type 0} (xs ys : List (Node K V)) (i : ℕ) (x : Item K V) (l r : Tree K V) (u : Uneven l r) where
  pub from_join : tall l ≤ tall r + 1 → tall r ≤ tall l + 1 → Joined xs ys i x l r → Balanced xs ys i x l r
  from_join h k j =
      record {
        mended = record {
          tree = node x l r;
          stands = j.stands;
          order = refl;
          avl = ((h, k), u.avl_left, u.avl_right);
          least = omega arith;
          most = omega arith;
          long = j.kept.long;
          same = λ a off. j.kept.same a (off_item a (inorder l) x (inorder r) off);
        };
        level = λ near. refl;
      }

module _ {K V : Type 0} where
  -- the trees that stand at the links of a side and of the other one
  near_stands : (s : Side) (xs : List (Node K V)) (x : Item K V) (near far : ℕ) (l r : Tree K V) → Room xs x (links_of s near far) l r → Stands xs near (tree_on s l r)
  near_stands Left xs x near far l r room = room.on_left
  near_stands Right xs x near far l r room = room.on_right

  far_stands : (s : Side) (xs : List (Node K V)) (x : Item K V) (near far : ℕ) (l r : Tree K V) → Room xs x (links_of s near far) l r → Stands xs far (tree_on (across s) l r)
  far_stands Left xs x near far l r room = room.on_right
  far_stands Right xs x near far l r room = room.on_left

  -- the heights of two trees, by a side and the other one
  pub record Heights (a b : ℕ) (l r : Tree K V) : Type 0 where
    pub high : max a b ≡ max (tall l) (tall r)
    pub left_low : (a - b) + (b - a) ≤ 1 → tall l ≤ tall r + 1
    pub right_low : (a - b) + (b - a) ≤ 1 → tall r ≤ tall l + 1

  heights : (s : Side) (a b : ℕ) (l r : Tree K V) → a ≡ tall (tree_on s l r) → b ≡ tall (tree_on (across s) l r) → Heights a b l r
  heights Left a b l r e f = record { high = omega arith; left_low = λ h. omega arith; right_low = λ h. omega arith }
  heights Right a b l r e f = record { high = omega arith; left_low = λ h. omega arith; right_low = λ h. omega arith }

  -- a tree can be put on a side of the node n, whose record m is read once more
  module _ (xs : List (Node K V)) (at : ℕ) (s o : Side) (near far : ℕ) (n m : Node K V) (l r : Tree K V) (f : Refit xs at s near n l r) (read : slice_get xs at ≡ Some m) (other : o ≡ across s) (side : far ≡ link_on o m.links) where
    same_node : m ≡ n
    same_node = same_some m n (sym read ∙ f.held)

    same_far : far ≡ link_on (across s) n.links
    same_far = side ∙ (λ i. link_on (other i) (same_node i).links)

    pub on_near : Stands xs near (tree_on s l r)
    on_near = near_stands s xs _ near _ l r f.room

    pub on_far : Stands xs far (tree_on (across s) l r)
    on_far = rw same_far (far_stands s xs _ near _ l r f.room)

    pub turned : (zs : List (Node K V)) (j : ℕ) (x : Item K V) (links : Links) → x ≡ item at m.key m.value → links ≡ links_of s near far → (Room xs x links l r → Uneven l r → Balanced xs zs j x l r) → Balanced xs zs j (item at n.key n.value) l r
    turned zs j x links x-is links-is balances =
        let x-same : x ≡ item at n.key n.value = x-is ∙ ap (λ (q : Node K V). item at q.key q.value) same_node in
        let links-same : links ≡ links_of s near (link_on (across s) n.links) = links-is ∙ ap (links_of s near) same_far in
        let room : Room xs x links l r = rw (x-same, links-same) f.room in
        subst (λ (y : Item K V). Balanced xs zs j y l r) x-same (balances room f.uneven)

    pub leveled : (zs : List (Node K V)) (a b most gap : ℕ) → a ≡ tall (tree_on s l r) → b ≡ tall (tree_on (across s) l r) → most ≡ max a b → gap ≡ (a - b) + (b - a) → gap ≤ 1 → zs ≡ set xs at (cell_of (item at n.key n.value) (links_of s near (link_on (across s) n.links)) (most + 1)) → (w : Balanced xs zs at (item at n.key n.value) l r) × (most + 1 ≡ m.height → tall w.mended.tree ≡ n.height)
    leveled zs a b most gap a-is b-is most-is gap-is low e =
        let h = heights s a b l r a-is b-is in
        let x : Item K V = item at n.key n.value in
        let high : most + 1 ≡ max (tall l) (tall r) + 1 = omega (arith, h.high) in
        let left : tall l ≤ tall r + 1 = h.left_low (omega arith) in
        let right : tall r ≤ tall l + 1 = h.right_low (omega arith) in
        let j : Joined xs zs at x l r = rw e (joined xs x _ (most + 1) l r f.room high) in
        let w = from_join xs zs at x l r f.uneven left right j in
        (w, λ kept. w.level (left, right) ∙ sym high ∙ kept ∙ ap (λ (q : Node K V). q.height) same_node)
