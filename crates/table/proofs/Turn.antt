-- The turns at a node of which one side is two taller, by the side that is.
use Rattle.std.proofs.Common.{◌≡◌, ℕ, ◌+◌, ◌<◌, ◌≤◌, max, ◌≢◌, List, ◌∷◌, ◌++◌, length, Some, sym, refl, ap, ◌∙◌, subst, append_assoc, arith}
use Rattle.std.specs.List.{slice_get}
use Rattle.std.proofs.lemmas.Option.{slice_get_within}
use Rattle.table.specs.declared.node.Node.{Node}
use Rattle.table.specs.Side.{Side, Left, Right, Links, across, links_of, link_on}
use Rattle.table.specs.Tree.{Item, Tree, node, none, tall, inorder, one, uses, Near, Avl, Stands}
use Rattle.table.specs.Edit.{item, Room, Changed, Joined, Mended, Heavy, tree_on}
use Rattle.table.proofs.Model.{uses_node, one_at, rep_frame, opened, link_within, empty_tall}

-- Of two trees the near one stands on a side, and the far one on the other.
abbrev pub node_on : {K V : Type 0} → Side → Item K V → Tree K V → Tree K V → Tree K V
node_on Left x near far = node x near far
node_on Right x near far = node x far near

abbrev pub row_on : {K V : Type 0} → Side → List (Item K V) → Item K V → List (Item K V) → List (Item K V)
row_on Left near x far = near ++ x ∷ far
row_on Right near x far = far ++ x ∷ near

abbrev pub RoomOn : {K V : Type 0} → Side → List (Node K V) → Item K V → ℕ → ℕ → Tree K V → Tree K V → Type 0
RoomOn Left xs x near far n f = Room xs x (links_of Left near far) n f
RoomOn Right xs x near far n f = Room xs x (links_of Right near far) f n

abbrev pub JoinedOn : {K V : Type 0} → Side → List (Node K V) → List (Node K V) → ℕ → Item K V → Tree K V → Tree K V → Type 0
JoinedOn Left xs ys link x n f = Joined xs ys link x n f
JoinedOn Right xs ys link x n f = Joined xs ys link x f n

-- what a test of two read heights says of the trees
pub no_taller : (a b x y : ℕ) → a ≡ x → b ≡ y → a ≤ b → x ≤ y
no_taller a b x y e f h = omega arith

pub taller : (a b x y : ℕ) → a ≡ x → b ≡ y → b < a → y < x
taller a b x y e f h = omega arith

pub one_taller : (a b x y : ℕ) → a ≡ x → b ≡ y → a ≤ b + 1 → x ≤ y + 1
one_taller a b x y e f h = omega arith

module _ {K V : Type 0} where
  -- a tree off the place that changed still stands
  pub still : (xs ys : List (Node K V)) (at link : ℕ) (t : Tree K V) → Changed xs ys at → uses at (inorder t) ≡ 0 → Stands xs link t → Stands ys link t
  still xs ys at link t ch off s =
      record {
        held = rep_frame xs ys t (λ j u. ch.same j (λ e. let o : uses j (inorder t) ≡ 0 = ap (λ (k : ℕ). uses k (inorder t)) e ∙ off in omega arith)) s.held;
        root = s.root;
      }

  -- a place that is not used is not an item's
  pub off_item : (j : ℕ) (a : List (Item K V)) (x : Item K V) (b : List (Item K V)) → uses j (a ++ x ∷ b) ≡ 0 → j ≢ x.at
  off_item j a x b off e =
      let here : one j x.at ≡ 1 = rw e (one_at x.at) in
      omega (arith, uses_node j x a b)

  -- what both sides have in common: the two trees, and a place over them that neither uses
  pub record Pieces (xs : List (Node K V)) (x : Item K V) (near far : ℕ) (n f : Tree K V) : Type 0 where
    pub on_near : Stands xs near n
    pub on_far : Stands xs far f
    pub within : x.at < length xs
    pub linkable : x.at < none
    pub once : (j : ℕ) → uses j (inorder n) + one j x.at + uses j (inorder f) ≤ 1
    pub low_near : tall n ≤ 100
    pub low_far : tall f ≤ 100

  pub pieces : (s : Side) (xs : List (Node K V)) (x : Item K V) (near far : ℕ) (n f : Tree K V) → RoomOn s xs x near far n f → Pieces xs x near far n f
  pieces Left xs x near far n f room = record { on_near = room.on_left; on_far = room.on_right; within = room.within; linkable = room.linkable; once = λ j. omega (arith, room.once j, uses_node j x (inorder n) (inorder f)); low_near = room.low_left; low_far = room.low_right }
  pieces Right xs x near far n f room = record { on_near = room.on_right; on_far = room.on_left; within = room.within; linkable = room.linkable; once = λ j. omega (arith, room.once j, uses_node j x (inorder f) (inorder n)); low_near = room.low_right; low_far = room.low_left }

  pub placed : (s : Side) (xs : List (Node K V)) (x : Item K V) (near far : ℕ) (n f : Tree K V) → Pieces xs x near far n f → RoomOn s xs x near far n f
  placed Left xs x near far n f p = record { on_left = p.on_near; on_right = p.on_far; within = p.within; linkable = p.linkable; once = λ j. omega (arith, p.once j, uses_node j x (inorder n) (inorder f)); low_left = p.low_near; low_right = p.low_far }
  placed Right xs x near far n f p = record { on_left = p.on_far; on_right = p.on_near; within = p.within; linkable = p.linkable; once = λ j. omega (arith, p.once j, uses_node j x (inorder f) (inorder n)); low_left = p.low_far; low_right = p.low_near }

  pub joined_stands : (s : Side) (xs ys : List (Node K V)) (i : ℕ) (x : Item K V) (n f : Tree K V) → JoinedOn s xs ys i x n f → Stands ys i (node_on s x n f)
  joined_stands Left xs ys i x n f j = j.stands
  joined_stands Right xs ys i x n f j = j.stands

  pub joined_kept : (s : Side) (xs ys : List (Node K V)) (i : ℕ) (x : Item K V) (n f : Tree K V) → JoinedOn s xs ys i x n f → Changed xs ys x.at
  joined_kept Left xs ys i x n f j = j.kept
  joined_kept Right xs ys i x n f j = j.kept

  -- from the left and the right to a side and the other one, and back
  pub entered : (s o : Side) (xs : List (Node K V)) (x : Item K V) (links : Links) (near far : ℕ) (l r : Tree K V) → o ≡ across s → near ≡ link_on s links → far ≡ link_on o links → Room xs x links l r → RoomOn s xs x near far (tree_on s l r) (tree_on (across s) l r)
  entered Left o xs x links near far l r e a b room = rw (a, b, e) room
  entered Right o xs x links near far l r e a b room = rw (a, b, e) room

  pub left_at : (s : Side) (xs : List (Node K V)) (x : Item K V) (links : Links) (near far : ℕ) (n f : Tree K V) → links ≡ links_of s near far → RoomOn s xs x near far n f → Room xs x links (tree_on s n f) (tree_on (across s) n f)
  left_at Left xs x links near far n f e room = rw e room
  left_at Right xs x links near far n f e room = rw e room

  pub joined_on : (s : Side) (xs ys : List (Node K V)) (i : ℕ) (x : Item K V) (n f : Tree K V) → Joined xs ys i x (tree_on s n f) (tree_on (across s) n f) → JoinedOn s xs ys i x n f
  joined_on Left xs ys i x n f j = j
  joined_on Right xs ys i x n f j = j

  pub mended_on : (s : Side) (xs ys : List (Node K V)) (i : ℕ) (x : Item K V) (l r : Tree K V) (high : ℕ) → Mended xs ys i (row_on s (inorder (tree_on s l r)) x (inorder (tree_on (across s) l r))) high → Mended xs ys i (inorder l ++ x ∷ inorder r) high
  mended_on Left xs ys i x l r high m = m
  mended_on Right xs ys i x l r high m = m

  pub row_is : (s : Side) (x : Item K V) (n f : Tree K V) → inorder (node_on s x n f) ≡ row_on s (inorder n) x (inorder f)
  row_is Left x n f = refl
  row_is Right x n f = refl

  pub tall_on : (s : Side) (x : Item K V) (n f : Tree K V) → tall (node_on s x n f) ≡ max (tall n) (tall f) + 1
  tall_on Left x n f = refl
  tall_on Right x n f = omega arith

  uses_on : (s : Side) (j : ℕ) (x : Item K V) (n f : Tree K V) → uses j (inorder (node_on s x n f)) ≡ uses j (inorder n) + one j x.at + uses j (inorder f)
  uses_on Left j x n f = omega (arith, uses_node j x (inorder n) (inorder f))
  uses_on Right j x n f = omega (arith, uses_node j x (inorder f) (inorder n))

  pub uses_row : (s : Side) (j : ℕ) (x : Item K V) (a b : List (Item K V)) → uses j (row_on s a x b) ≡ uses j a + one j x.at + uses j b
  uses_row Left j x a b = omega (arith, uses_node j x a b)
  uses_row Right j x a b = omega (arith, uses_node j x b a)

  pub avl_on : (s : Side) (x : Item K V) (n f : Tree K V) → Near (tall n) (tall f) → Avl n → Avl f → Avl (node_on s x n f)
  avl_on Left x n f near p q = (near, p, q)
  avl_on Right x n f near p q = ((near.1, near.0), q, p)

  pub avl_off : (s : Side) (x : Item K V) (n f : Tree K V) → Avl (node_on s x n f) → Near (tall n) (tall f) × Avl n × Avl f
  avl_off Left x n f h = h
  avl_off Right x n f h = ((h.0.1, h.0.0), h.2, h.1)

  single_row : (s : Side) (x y : Item K V) (o i l : Tree K V) → inorder (node_on s y o (node_on s x i l)) ≡ row_on s (inorder (node_on s y o i)) x (inorder l)
  single_row Left x y o i l = sym (append_assoc (inorder o) (y ∷ inorder i) (x ∷ inorder l))
  single_row Right x y o i l = append_assoc (inorder l) (x ∷ inorder i) (y ∷ inorder o)

  double_row : (s : Side) (x y z : Item K V) (a b c d : Tree K V) → inorder (node_on s z (node_on s y a b) (node_on s x c d)) ≡ row_on s (inorder (node_on s y a (node_on s z b c))) x (inorder d)
  double_row Left x y z a b c d = simp append_assoc
  double_row Right x y z a b c d = simp append_assoc

  -- a tree with a node, opened by sides
  pub record OpenedOn (s : Side) (xs : List (Node K V)) (link : ℕ) (n : Node K V) (t : Tree K V) : Type 0 where
    pub near : Tree K V
    pub far : Tree K V
    pub is : t ≡ node_on s (item link n.key n.value) near far
    pub on_near : Stands xs (link_on s n.links) near
    pub on_far : Stands xs (link_on (across s) n.links) far
    pub linkable : link < none
    pub within : link < length xs

  pub opened_on : (s : Side) (xs : List (Node K V)) (link : ℕ) (n : Node K V) (t : Tree K V) → Stands xs link t → link ≢ none → slice_get xs link ≡ Some n → OpenedOn s xs link n t
  opened_on Left xs link n t st ne e = let o = opened xs link n t st ne e in record { near = o.l; far = o.r; is = o.is; on_near = o.on_left; on_far = o.on_right; linkable = o.linkable; within = slice_get_within xs link n e }
  opened_on Right xs link n t st ne e = let o = opened xs link n t st ne e in record { near = o.r; far = o.l; is = o.is; on_near = o.on_right; on_far = o.on_left; linkable = o.linkable; within = slice_get_within xs link n e }

  pub heavy_link : (s : Side) (xs : List (Node K V)) (x : Item K V) (heavy light : ℕ) (h l : Tree K V) → RoomOn s xs x heavy light h l → Heavy h l → heavy ≢ none
  heavy_link s xs x heavy light h l room big e = omega (arith, big.gap, empty_tall xs heavy h (pieces s xs x heavy light h l room).on_near e)

  pub heavy_within : (s : Side) (xs : List (Node K V)) (x : Item K V) (heavy light : ℕ) (h l : Tree K V) → RoomOn s xs x heavy light h l → Heavy h l → heavy < length xs
  heavy_within s xs x heavy light h l room big = link_within xs heavy h (pieces s xs x heavy light h l room).on_near (heavy_link s xs x heavy light h l room big)

  -- The double turn: x stands over (a y (b z c)) and d.
  pub record Double (s : Side) (xs : List (Node K V)) (x y z : Item K V) (outer near far light : ℕ) (a h d : Tree K V) : Type 0 where
    pub b : Tree K V
    pub c : Tree K V
    pub first : RoomOn s xs y outer near a b
    pub second : (ys : List (Node K V)) (i : ℕ) → JoinedOn s xs ys i y a b → RoomOn s ys x far light c d
    pub third : (ys zs : List (Node K V)) (i k : ℕ) → JoinedOn s xs ys i y a b → JoinedOn s ys zs k x c d → RoomOn s zs z i k (node_on s y a b) (node_on s x c d)
    pub done : (ys zs ws : List (Node K V)) (i k u : ℕ) → JoinedOn s xs ys i y a b → JoinedOn s ys zs k x c d → JoinedOn s zs ws u z (node_on s y a b) (node_on s x c d) → Mended xs ws u (row_on s (inorder h) x (inorder d)) (tall h)

  module _ (s : Side) (xs : List (Node K V)) (x y : Item K V) (outer light : ℕ) (a d : Tree K V) (on-a : Stands xs outer a) (on-d : Stands xs light d) (x-within : x.at < length xs) (x-linkable : x.at < none) (y-within : y.at < length xs) (y-linkable : y.at < none) (a-avl : Avl a) (d-avl : Avl d) where
    -- the single turn: x stands over (a y i) and d
    module _ (inner : ℕ) (i : Tree K V) (on-i : Stands xs inner i) (i-avl : Avl i) (once : (j : ℕ) → uses j (inorder a) + one j y.at + uses j (inorder i) + one j x.at + uses j (inorder d) ≤ 1) (near : Near (tall a) (tall i)) (gap : max (tall a) (tall i) + 1 ≡ tall d + 2) (low : max (tall a) (tall i) + 1 ≤ 100) where
      single_low : RoomOn s xs x inner light i d
      single_low = placed s xs x inner light i d (record { on_near = on-i; on_far = on-d; within = x-within; linkable = x-linkable; once = λ j. omega (arith, once j); low_near = omega arith; low_far = omega arith })

      single_top : (ys : List (Node K V)) (k : ℕ) → JoinedOn s xs ys k x i d → RoomOn s ys y outer k a (node_on s x i d)
      single_top ys k j1 =
          let kept = joined_kept s xs ys k x i d j1 in
          placed s ys y outer k a (node_on s x i d)
          (record {
            on_near = still xs ys x.at outer a kept (omega (arith, once x.at, one_at x.at)) on-a;
            on_far = joined_stands s xs ys k x i d j1;
            within = rw kept.long y-within;
            linkable = y-linkable;
            once = λ j. omega (arith, once j, uses_on s j x i d);
            low_near = omega arith;
            low_far = omega (arith, tall_on s x i d);
          })

      single_done : (ys zs : List (Node K V)) (k u : ℕ) → tall i ≤ tall a → JoinedOn s xs ys k x i d → JoinedOn s ys zs u y a (node_on s x i d) → Mended xs zs u (row_on s (inorder (node_on s y a i)) x (inorder d)) (tall (node_on s y a i))
      single_done ys zs k u test j1 j2 =
          let first = joined_kept s xs ys k x i d j1 in
          let next = joined_kept s ys zs u y a (node_on s x i d) j2 in
          let high = tall_on s y a i in
          let low-is = tall_on s x i d in
          let top-is = tall_on s y a (node_on s x i d) in
          record {
            tree = node_on s y a (node_on s x i d);
            stands = joined_stands s ys zs u y a (node_on s x i d) j2;
            order = single_row s x y a i d;
            avl = avl_on s y a (node_on s x i d) (omega (arith, low-is)) a-avl (avl_on s x i d (omega arith) i-avl d-avl);
            least = omega arith;
            most = omega arith;
            long = next.long ∙ first.long;
            same = λ j off.
                let count : uses j (inorder a) + one j y.at + uses j (inorder i) + one j x.at + uses j (inorder d) ≡ 0 = omega (arith, off, uses_row s j x (inorder (node_on s y a i)) (inorder d), uses_on s j y a i) in
                next.same j (λ e. omega (arith, ap (λ (q : ℕ). one q y.at) e, one_at y.at)) ∙ first.same j (λ e. omega (arith, ap (λ (q : ℕ). one q x.at) e, one_at x.at));
          }

    -- the double turn
    module _ (z : Item K V) (near far : ℕ) (b c : Tree K V) (on-b : Stands xs near b) (on-c : Stands xs far c) (z-within : z.at < length xs) (z-linkable : z.at < none) (b-avl : Avl b) (c-avl : Avl c) (once : (j : ℕ) → uses j (inorder a) + one j y.at + uses j (inorder b) + one j z.at + uses j (inorder c) + one j x.at + uses j (inorder d) ≤ 1) (near-1 : Near (tall a) (max (tall b) (tall c) + 1)) (near-2 : Near (tall b) (tall c)) (gap : max (tall a) (max (tall b) (tall c) + 1) + 1 ≡ tall d + 2) (low : max (tall a) (max (tall b) (tall c) + 1) + 1 ≤ 100) where
      double_first : RoomOn s xs y outer near a b
      double_first = placed s xs y outer near a b (record { on_near = on-a; on_far = on-b; within = y-within; linkable = y-linkable; once = λ j. omega (arith, once j); low_near = omega arith; low_far = omega arith })

      double_second : (ys : List (Node K V)) (i : ℕ) → JoinedOn s xs ys i y a b → RoomOn s ys x far light c d
      double_second ys i j1 =
          let kept = joined_kept s xs ys i y a b j1 in
          let all = once y.at in
          let here = one_at y.at in
          placed s ys x far light c d
          (record {
            on_near = still xs ys y.at far c kept (omega arith) on-c;
            on_far = still xs ys y.at light d kept (omega arith) on-d;
            within = rw kept.long x-within;
            linkable = x-linkable;
            once = λ j. omega (arith, once j);
            low_near = omega arith;
            low_far = omega arith;
          })

      double_third : (ys zs : List (Node K V)) (i k : ℕ) → JoinedOn s xs ys i y a b → JoinedOn s ys zs k x c d → RoomOn s zs z i k (node_on s y a b) (node_on s x c d)
      double_third ys zs i k j1 j2 =
          let first = joined_kept s xs ys i y a b j1 in
          let next = joined_kept s ys zs k x c d j2 in
          placed s zs z i k (node_on s y a b) (node_on s x c d)
          (record {
            on_near = still ys zs x.at i (node_on s y a b) next (omega (arith, once x.at, one_at x.at, uses_on s x.at y a b)) (joined_stands s xs ys i y a b j1);
            on_far = joined_stands s ys zs k x c d j2;
            within = rw (next.long, first.long) z-within;
            linkable = z-linkable;
            once = λ j. omega (arith, once j, uses_on s j y a b, uses_on s j x c d);
            low_near = omega (arith, tall_on s y a b);
            low_far = omega (arith, tall_on s x c d);
          })

      double_done : (ys zs ws : List (Node K V)) (i k u : ℕ) → tall a < max (tall b) (tall c) + 1 → JoinedOn s xs ys i y a b → JoinedOn s ys zs k x c d → JoinedOn s zs ws u z (node_on s y a b) (node_on s x c d) → Mended xs ws u (row_on s (inorder (node_on s y a (node_on s z b c))) x (inorder d)) (tall (node_on s y a (node_on s z b c)))
      double_done ys zs ws i k u test j1 j2 j3 =
          let first = joined_kept s xs ys i y a b j1 in
          let next = joined_kept s ys zs k x c d j2 in
          let final = joined_kept s zs ws u z (node_on s y a b) (node_on s x c d) j3 in
          let on-y = tall_on s y a b in
          let on-x = tall_on s x c d in
          let on-z = tall_on s z b c in
          let was = tall_on s y a (node_on s z b c) in
          let top-is = tall_on s z (node_on s y a b) (node_on s x c d) in
          record {
            tree = node_on s z (node_on s y a b) (node_on s x c d);
            stands = joined_stands s zs ws u z (node_on s y a b) (node_on s x c d) j3;
            order = double_row s x y z a b c d;
            avl = avl_on s z (node_on s y a b) (node_on s x c d) (omega arith) (avl_on s y a b (omega arith) a-avl b-avl) (avl_on s x c d (omega arith) c-avl d-avl);
            least = omega arith;
            most = omega arith;
            long = final.long ∙ next.long ∙ first.long;
            same = λ j off.
                let count : uses j (inorder a) + one j y.at + uses j (inorder b) + one j z.at + uses j (inorder c) + one j x.at + uses j (inorder d) ≡ 0 = omega (arith, off, uses_row s j x (inorder (node_on s y a (node_on s z b c))) (inorder d), uses_on s j y a (node_on s z b c), uses_on s j z b c) in
                final.same j (λ e. omega (arith, ap (λ (q : ℕ). one q z.at) e, one_at z.at))
                ∙ next.same j (λ e. omega (arith, ap (λ (q : ℕ). one q x.at) e, one_at x.at))
                ∙ first.same j (λ e. omega (arith, ap (λ (q : ℕ). one q y.at) e, one_at y.at));
          }

  -- A turn once the top of the heavy side is read: what its calls ask, and what they come to.
  pub record Turning (s : Side) (xs : List (Node K V)) (x y : Item K V) (light outer inner : ℕ) (h l : Tree K V) : Type 0 where
    pub o : Tree K V
    pub i : Tree K V
    pub on_outer : Stands xs outer o
    pub on_inner : Stands xs inner i
    pub low : RoomOn s xs x inner light i l
    pub top : (ys : List (Node K V)) (k : ℕ) → JoinedOn s xs ys k x i l → RoomOn s ys y outer k o (node_on s x i l)
    pub single : (ys zs : List (Node K V)) (k u : ℕ) → tall i ≤ tall o → JoinedOn s xs ys k x i l → JoinedOn s ys zs u y o (node_on s x i l) → Mended xs zs u (row_on s (inorder h) x (inorder l)) (tall h)
    pub inner_within : tall o < tall i → inner < length xs
    pub double : tall o < tall i → (m : Node K V) → slice_get xs inner ≡ Some m → (near far : ℕ) → near ≡ link_on s m.links → far ≡ link_on (across s) m.links → (z : Item K V) → z ≡ item inner m.key m.value → Double s xs x y z outer near far light o h l

  module _ (s : Side) (xs : List (Node K V)) (x : Item K V) (heavy light : ℕ) (n : Node K V) (h l : Tree K V) (room : RoomOn s xs x heavy light h l) (big : Heavy h l) (read : slice_get xs heavy ≡ Some n) where
    at_top : (o i : Tree K V) → h ≡ node_on s (item heavy n.key n.value) o i → Stands xs (link_on s n.links) o → Stands xs (link_on (across s) n.links) i → heavy < none → Turning s xs x (item heavy n.key n.value) light (link_on s n.links) (link_on (across s) n.links) h l
    at_top o i is on-o on-i linkable =
        let y : Item K V = item heavy n.key n.value in
        let p = pieces s xs x heavy light h l room in
        let avl = avl_off s y o i (subst Avl is big.avl_heavy) in
        let high : tall h ≡ max (tall o) (tall i) + 1 = ap tall is ∙ tall_on s y o i in
        let once : (j : ℕ) → uses j (inorder o) + one j y.at + uses j (inorder i) + one j x.at + uses j (inorder l) ≤ 1 = λ j. omega (arith, p.once j, ap (λ (t : Tree K V). uses j (inorder t)) is, uses_on s j y o i) in
        let gap : max (tall o) (tall i) + 1 ≡ tall l + 2 = sym high ∙ big.gap in
        let low : max (tall o) (tall i) + 1 ≤ 100 = omega (arith, p.low_near) in
        let y-within : heavy < length xs = slice_get_within xs heavy n read in
        let back : (zs : List (Node K V)) (u : ℕ) (t : Tree K V) → h ≡ t → Mended xs zs u (row_on s (inorder t) x (inorder l)) (tall t) → Mended xs zs u (row_on s (inorder h) x (inorder l)) (tall h) = λ zs u t e m. subst (λ (q : Tree K V). Mended xs zs u (row_on s (inorder q) x (inorder l)) (tall q)) (sym e) m in
        record {
          o = o;
          i = i;
          on_outer = on-o;
          on_inner = on-i;
          low = single_low s xs x y (link_on s n.links) light o l on-o p.on_far p.within p.linkable y-within linkable avl.1 big.avl_light (link_on (across s) n.links) i on-i avl.2 once avl.0 gap low;
          top = single_top s xs x y (link_on s n.links) light o l on-o p.on_far p.within p.linkable y-within linkable avl.1 big.avl_light (link_on (across s) n.links) i on-i avl.2 once avl.0 gap low;
          single = λ ys zs k u test j1 j2. back zs u (node_on s y o i) is (single_done s xs x y (link_on s n.links) light o l on-o p.on_far p.within p.linkable y-within linkable avl.1 big.avl_light (link_on (across s) n.links) i on-i avl.2 once avl.0 gap low ys zs k u test j1 j2);
          inner_within = λ test. link_within xs (link_on (across s) n.links) i on-i (λ e. omega (arith, test, empty_tall xs (link_on (across s) n.links) i on-i e));
          double = λ test m e near far near-is far-is z-2 z-is.
              let k = opened_on s xs (link_on (across s) n.links) m i on-i (λ e. omega (arith, test, empty_tall xs (link_on (across s) n.links) i on-i e)) e in
              let z : Item K V = item (link_on (across s) n.links) m.key m.value in
              let inner-avl = avl_off s z k.near k.far (subst Avl k.is avl.2) in
              let inner-high : tall i ≡ max (tall k.near) (tall k.far) + 1 = ap tall k.is ∙ tall_on s z k.near k.far in
              let on-b : Stands xs near k.near = rw near-is k.on_near in
              let on-c : Stands xs far k.far = rw far-is k.on_far in
              let once-2 : (j : ℕ) → uses j (inorder o) + one j y.at + uses j (inorder k.near) + one j z.at + uses j (inorder k.far) + one j x.at + uses j (inorder l) ≤ 1 = λ j. omega (arith, once j, ap (λ (t : Tree K V). uses j (inorder t)) k.is, uses_on s j z k.near k.far) in
              let near-1 : Near (tall o) (max (tall k.near) (tall k.far) + 1) = subst (Near (tall o)) inner-high avl.0 in
              let gap-2 : max (tall o) (max (tall k.near) (tall k.far) + 1) + 1 ≡ tall l + 2 = subst (λ (q : ℕ). max (tall o) q + 1 ≡ tall l + 2) inner-high gap in
              let low-2 : max (tall o) (max (tall k.near) (tall k.far) + 1) + 1 ≤ 100 = subst (λ (q : ℕ). max (tall o) q + 1 ≤ 100) inner-high low in
              let is-2 : h ≡ node_on s y o (node_on s z k.near k.far) = is ∙ ap (λ (t : Tree K V). node_on s y o t) k.is in
              rw z-is (record {
                b = k.near;
                c = k.far;
                first = double_first s xs x y (link_on s n.links) light o l on-o p.on_far p.within p.linkable y-within linkable avl.1 big.avl_light z near far k.near k.far on-b on-c k.within k.linkable inner-avl.1 inner-avl.2 once-2 near-1 inner-avl.0 gap-2 low-2;
                second = double_second s xs x y (link_on s n.links) light o l on-o p.on_far p.within p.linkable y-within linkable avl.1 big.avl_light z near far k.near k.far on-b on-c k.within k.linkable inner-avl.1 inner-avl.2 once-2 near-1 inner-avl.0 gap-2 low-2;
                third = double_third s xs x y (link_on s n.links) light o l on-o p.on_far p.within p.linkable y-within linkable avl.1 big.avl_light z near far k.near k.far on-b on-c k.within k.linkable inner-avl.1 inner-avl.2 once-2 near-1 inner-avl.0 gap-2 low-2;
                done = λ ys zs ws a b u j1 j2 j3. back ws u (node_on s y o (node_on s z k.near k.far)) is-2 (double_done s xs x y (link_on s n.links) light o l on-o p.on_far p.within p.linkable y-within linkable avl.1 big.avl_light z near far k.near k.far on-b on-c k.within k.linkable inner-avl.1 inner-avl.2 once-2 near-1 inner-avl.0 gap-2 low-2 ys zs ws a b u (omega (arith, test, inner-high)) j1 j2 j3);
              });
        }

    pub turning : (outer inner : ℕ) → outer ≡ link_on s n.links → inner ≡ link_on (across s) n.links → (y : Item K V) → y ≡ item heavy n.key n.value → Turning s xs x y light outer inner h l
    turning outer inner e f y y-is =
        let k = opened_on s xs heavy n h (pieces s xs x heavy light h l room).on_near (heavy_link s xs x heavy light h l room big) read in
        rw (e, f, y-is) (at_top k.near k.far k.is k.on_near k.on_far k.linkable)
