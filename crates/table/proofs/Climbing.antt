-- The way back up: a node over the tree that is new below, and then the next one, until nothing changes above.
use Rattle.std.proofs.Common.{◌≡◌, ℕ, ◌+◌, ◌<◌, ◌≤◌, max, List, [], ◌∷◌, ◌++◌, length, Some, None, Option, MatchOption, Bor, sym, refl, ap, ◌∙◌, subst, append_assoc, append-nil, length-append, arith}
use Rattle.std.specs.List.{slice_get}
use Rattle.std.specs.Option.{option_copied}
use Rattle.std.proofs.lemmas.Bool.{cases_lt}
use Rattle.std.proofs.lemmas.List.{same_from_push}
use Rattle.std.proofs.lemmas.Option.{slice_get_within}
use Rattle.table.specs.declared.node.Node.{Node}
use Rattle.table.specs.declared.tree.path.Step.{Step}
use Rattle.table.specs.Side.{Side, Left, Right, across, links_of, link_on}
use Rattle.table.specs.Tree.{Item, Tree, ptr, tall, inorder, one, uses, cell, Near, Avl, Stands}
use Rattle.table.specs.Edit.{item, cell_of, Once, Uneven, Mended, Balanced, Refit, Refitted, tree_on}
use Rattle.table.specs.Path.{Frame, on, front, back, top, Lvl, Along, root_of, steps, Climb, Climbed, Progress}
use Rattle.table.proofs.Model.{nth_some, uses_append, uses_node, one_at, rep_frame, same_some}
use Rattle.table.proofs.Turn.{node_on, row_on, RoomOn, placed, left_at, row_is, uses_row, tall_on, avl_on}

-- h is the height that the side had, t the one that it has, o the other side's, and m that of the two joined
pub level_near : (h t o m : ℕ) → Near h t → Near h o → max t o ≤ m → m ≤ max t o + 1 → (Near t o → m ≡ max t o + 1) → Near (max h o + 1) m
level_near h t o m a b c d e = grind (arith, cases_lt t (o + 2), cases_lt o (t + 2))

-- a way without a last step has none
pub emptied : (path : List Step) → (0 < length path → ⊥) → path ≡ []
emptied [] h = refl
emptied (s ∷ path) h = absurd (h (omega arith))

no_step : (path : List Step) (step : Step) → path ++ step ∷ [] ≡ [] → ⊥
no_step path step e = let k : length path + 1 ≡ 0 = sym (length-append path (step ∷ [])) ∙ ap length e in omega (arith, k)

far_is : (s : Side) (near far : ℕ) → link_on (across s) (links_of s near far) ≡ far
far_is Left near far = refl
far_is Right near far = refl

-- another step at the end of a way leaves its first one
first_same : (path : List Step) (a b : Step) → slice_get ((path ++ a ∷ []) ++ b ∷ []) 0 ≡ slice_get (path ++ a ∷ []) 0
first_same [] a b = refl
first_same (c ∷ path) a b = refl

-- what a call of `first` on a way gives
pub first_root : (o : Option (Bor Step)) (P : Bor Step → Type 0) (root link : ℕ) (path : List Step) (first : Step) → MatchOption o (root ≡ link) P → ((x : Bor Step) → P x → root ≡ x.now.at) → option_copied o ≡ slice_get path 0 → slice_get path 0 ≡ Some first → root ≡ first.at
first_root None P root link path first m p value e = cc
first_root (Some x) P root link path first m p value e = p x m ∙ ap (λ (q : Step). q.at) (same_some x.now first (value ∙ e))

module _ {K V : Type 0} where
  pub top_le : (fs : List (Frame K V)) (h : ℕ) → h ≤ top fs h
  top_le [] h = omega arith
  top_le (on s x o ∷ fs) h = omega (arith, top_le fs (max h (tall o) + 1))

  -- the places around the end of the way, with one node more
  frame_uses : (j : ℕ) (s : Side) (x : Item K V) (o : Tree K V) (fs : List (Frame K V)) → uses j (front (on s x o ∷ fs)) + uses j (back (on s x o ∷ fs)) ≡ uses j (front fs) + one j x.at + uses j (inorder o) + uses j (back fs)
  frame_uses j Left x o fs = omega (arith, uses_append j (inorder o) (back fs))
  frame_uses j Right x o fs = omega (arith, uses_append j (front fs) (inorder o ++ x ∷ []), uses_node j x (inorder o) [])

  -- the items around a node, and around one of its sides
  pub frame_row : (s : Side) (x : Item K V) (t o : Tree K V) (fs : List (Frame K V)) → front fs ++ (inorder (node_on s x t o) ++ back fs) ≡ front (on s x o ∷ fs) ++ (inorder t ++ back (on s x o ∷ fs))
  frame_row Left x t o fs = simp append_assoc
  frame_row Right x t o fs = simp append_assoc

  pub along_frame : (xs ys : List (Node K V)) (link h : ℕ) (fs : List (Frame K V)) → ((j : ℕ) → 1 ≤ uses j (front fs) + uses j (back fs) → slice_get ys j ≡ slice_get xs j) → Along xs link h fs → Along ys link h fs
  along_frame xs ys link h [] same al = tt
  along_frame xs ys link h (on s x o ∷ fs) same al = (
    al.0,
    same x.at (omega (arith, one_at x.at, frame_uses x.at s x o fs)) ∙ al.1,
    rep_frame xs ys o (λ j u. same j (omega (arith, frame_uses j s x o fs))) al.2,
    along_frame xs ys x.at (max h (tall o) + 1) fs (λ j u. same j (omega (arith, frame_uses j s x o fs))) al.3,
  )

  -- a tree with these items and of this height stands at a link
  record Grown (xs : List (Node K V)) (link : ℕ) (items : List (Item K V)) (h : ℕ) : Type 0 where
    pub tree : Tree K V
    pub stands : Stands xs link tree
    pub order : inorder tree ≡ items
    pub avl : Avl tree
    pub high : tall tree ≡ h

  -- a tree of the height and at the link that the record of a node has for it stands under the node
  under : (xs : List (Node K V)) (link h : ℕ) (s : Side) (x : Item K V) (t o : Tree K V) (fs : List (Frame K V)) → Stands xs link t → tall t ≡ h → Along xs link h (on s x o ∷ fs) → Stands xs x.at (node_on s x t o)
  under xs link h Left x t o fs st e al =
      let high : max h (tall o) + 1 ≡ max (tall t) (tall o) + 1 = omega arith in
      let full : cell_of x (links_of Left link (ptr o)) (max h (tall o) + 1) ≡ cell x t o = λ i. cell_of x (links_of Left (st.root i) (ptr o)) (high i) in
      record { held = (al.0, al.1 ∙ ap Some full, st.held, al.2); root = refl }
  under xs link h Right x t o fs st e al =
      let high : max h (tall o) + 1 ≡ max (tall o) (tall t) + 1 = omega arith in
      let full : cell_of x (links_of Right link (ptr o)) (max h (tall o) + 1) ≡ cell x o t = λ i. cell_of x (links_of Right (st.root i) (ptr o)) (high i) in
      record { held = (al.0, al.1 ∙ ap Some full, al.2, st.held); root = refl }

  -- so the whole tree stands, and nothing above the end of the way has to change
  whole : (xs : List (Node K V)) (link h : ℕ) (fs : List (Frame K V)) (t : Tree K V) → Stands xs link t → tall t ≡ h → Avl t → Lvl fs h → Along xs link h fs → Grown xs (root_of link fs) (front fs ++ (inorder t ++ back fs)) (top fs h)
  whole xs link h [] t st e avl lvl al =
      record { tree = t; stands = st; order = sym (append-nil (inorder t)); avl = avl; high = e }
  whole xs link h (on s x o ∷ fs) t st e avl lvl al =
      let over = under xs link h s x t o fs st e al in
      let high : tall (node_on s x t o) ≡ max h (tall o) + 1 = tall_on s x t o ∙ ap (λ (a : ℕ). max a (tall o) + 1) e in
      let level : Avl (node_on s x t o) = avl_on s x t o (rw e lvl.0) avl lvl.1 in
      let k = whole xs x.at (max h (tall o) + 1) fs (node_on s x t o) over high level lvl.2 al.3 in
      record { tree = k.tree; stands = k.stands; order = k.order ∙ frame_row s x t o fs; avl = k.avl; high = k.high }

  -- what `balance` asks and gives, by a side and the other one
  record BalancedOn (s : Side) (xs ys : List (Node K V)) (link : ℕ) (x : Item K V) (n f : Tree K V) : Type 0 where
    pub mended : Mended xs ys link (row_on s (inorder n) x (inorder f)) (max (tall n) (tall f))
    pub level : Near (tall n) (tall f) → tall mended.tree ≡ max (tall n) (tall f) + 1

  uneven_on : (s : Side) (n f : Tree K V) → Uneven n f → Uneven (tree_on s n f) (tree_on (across s) n f)
  uneven_on Left n f u = u
  uneven_on Right n f u = record { avl_left = u.avl_right; avl_right = u.avl_left; gap_left = u.gap_right; gap_right = u.gap_left }

  balanced_on : (s : Side) (xs ys : List (Node K V)) (link : ℕ) (x : Item K V) (n f : Tree K V) → Balanced xs ys link x (tree_on s n f) (tree_on (across s) n f) → BalancedOn s xs ys link x n f
  balanced_on Left xs ys link x n f b = record { mended = b.mended; level = b.level }
  balanced_on Right xs ys link x n f b =
      let m = b.mended in
      record {
        mended = record { tree = m.tree; stands = m.stands; order = m.order; avl = m.avl; least = omega (arith, m.least); most = omega (arith, m.most); long = m.long; same = m.same };
        level = λ near. omega (arith, b.level (near.1, near.0));
      }

  same_tall : (s : Side) (xs ys : List (Node K V)) (link : ℕ) (x : Item K V) (n f : Tree K V) (b : Balanced xs ys link x (tree_on s n f) (tree_on (across s) n f)) (h : ℕ) → tall b.mended.tree ≡ h → tall (balanced_on s xs ys link x n f b).mended.tree ≡ h
  unfolding balanced_on
  same_tall Left xs ys link x n f b h e = e
  same_tall Right xs ys link x n f b h e = e

  -- the last step of a way, which fitted a tree of height h
  record Pop (xs : List (Node K V)) (h : ℕ) (fs : List (Frame K V)) (path : List Step) (step : Step) : Type 0 where
    pub n : Node K V
    pub o : Tree K V
    pub rest : List (Frame K V)
    pub held : slice_get xs step.at ≡ Some n
    pub is : fs ≡ on step.side (item step.at n.key n.value) o ∷ rest
    pub noted : path ≡ steps rest
    pub side : link_on (across step.side) n.links ≡ ptr o
    pub high : n.height ≡ max h (tall o) + 1

  pop : (xs : List (Node K V)) (path : List Step) (step : Step) (link h : ℕ) (fs : List (Frame K V)) → Along xs link h fs → path ++ step ∷ [] ≡ steps fs → Pop xs h fs path step
  pop xs path step link h [] al e = absurd (no_step path step e)
  pop xs path step link h (on s x o ∷ fs) al e =
      let st = same_from_push path (steps fs) step _ e in
      let high : ℕ = max h (tall o) + 1 in
      subst (Pop xs h (on s x o ∷ fs) path) (sym st.1)
      (record {
        n = cell_of x (links_of s link (ptr o)) high;
        o = o;
        rest = fs;
        held = al.1;
        is = refl;
        noted = st.0;
        side = far_is s link (ptr o);
        high = refl;
      })

  -- the first step of a way leaves the root
  first_at : (s : Side) (x : Item K V) (o : Tree K V) (fs : List (Frame K V)) (first : Step) → slice_get (steps (on s x o ∷ fs)) 0 ≡ Some first → first.at ≡ root_of x.at fs
  first_at s x o [] first e = ap (λ (q : Step). q.at) (sym (same_some _ _ e))
  first_at s x o (on s2 x2 o2 ∷ fs) first e = first_at s2 x2 o2 fs first (sym (first_same (steps fs) _ _) ∙ e)

  root_begins : (root : ℕ) (path : List Step) (fs : List (Frame K V)) → path ≡ steps fs → ((first : Step) → slice_get path 0 ≡ Some first → root ≡ first.at) → root ≡ root_of root fs
  root_begins root path [] noted begins = refl
  root_begins root path (on s x o ∷ fs) noted begins =
      let long : length path ≡ length (steps fs) + 1 = ap length noted ∙ length-append (steps fs) _ in
      let first = nth_some path 0 (omega (arith, long)) in
      begins first.0 first.1 ∙ first_at s x o fs first.0 (ap (λ (q : List Step). slice_get q 0) (sym noted) ∙ first.1)

  -- the root of what is left of a way
  root_left : (root at : ℕ) (fs : List (Frame K V)) → root ≡ root_of at fs → root ≡ root_of root fs
  root_left root at [] e = refl
  root_left root at (on s x o ∷ fs) e = e

  module _ (xs : List (Node K V)) (path rest : List Step) (link : ℕ) (s : Side) (x : Item K V) (o : Tree K V) (fs : List (Frame K V)) (t : Tree K V) (h : ℕ) (noted : rest ≡ steps fs) (cl : Climb xs path link (on s x o ∷ fs) t h) where
    climb_uses : (j : ℕ) → uses j (front (on s x o ∷ fs) ++ (inorder t ++ back (on s x o ∷ fs))) ≡ uses j (front fs) + uses j (inorder t) + one j x.at + uses j (inorder o) + uses j (back fs)
    climb_uses j = omega (arith, uses_append j (front (on s x o ∷ fs)) (inorder t ++ back (on s x o ∷ fs)), uses_append j (inorder t) (back (on s x o ∷ fs)), frame_uses j s x o fs)

    climb_room : (other : ℕ) → other ≡ ptr o → RoomOn s xs x link other t o
    climb_room other e =
        placed s xs x link other t o
        (record {
          on_near = cl.stands;
          on_far = record { held = cl.along.2; root = e };
          within = slice_get_within xs x.at _ cl.along.1;
          linkable = cl.along.0;
          once = λ j. omega (arith, cl.once j, climb_uses j);
          low_near = omega (arith, cl.near, cl.low, top_le fs (max h (tall o) + 1));
          low_far = omega (arith, cl.low, top_le fs (max h (tall o) + 1));
        })

    climb_uneven : Uneven t o
    climb_uneven = record { avl_left = cl.avl; avl_right = cl.lvl.1; gap_left = omega (arith, cl.near, cl.lvl.0); gap_right = omega (arith, cl.near, cl.lvl.0) }

    module _ (ys : List (Node K V)) (j : ℕ) (b : BalancedOn s xs ys j x t o) where
      next_order : front fs ++ (inorder b.mended.tree ++ back fs) ≡ front (on s x o ∷ fs) ++ (inorder t ++ back (on s x o ∷ fs))
      next_order = ap (λ (a : List (Item K V)). front fs ++ (a ++ back fs)) (b.mended.order ∙ sym (row_is s x t o)) ∙ frame_row s x t o fs

      next_same : (k : ℕ) → uses k (inorder t) + one k x.at + uses k (inorder o) ≡ 0 → slice_get ys k ≡ slice_get xs k
      next_same k off = b.mended.same k (omega (arith, uses_row s k x (inorder t) (inorder o)))

      next_along : Along ys x.at (max h (tall o) + 1) fs
      next_along = along_frame xs ys x.at (max h (tall o) + 1) fs (λ k u. next_same k (omega (arith, cl.once k, climb_uses k))) cl.along.3

      climb_next : (root : ℕ) → root ≡ root_of x.at fs → Progress xs ys rest j root (front (on s x o ∷ fs) ++ (inorder t ++ back (on s x o ∷ fs))) (top (on s x o ∷ fs) h)
      climb_next root root-is =
          let m = b.mended in
          let once : Once (front (on s x o ∷ fs) ++ (inorder t ++ back (on s x o ∷ fs))) = cl.once in
          record {
            fs = fs;
            tree = m.tree;
            h = max h (tall o) + 1;
            climb = record {
              stands = m.stands;
              old = x.at;
              along = next_along;
              noted = noted;
              once = rw next_order once;
              avl = m.avl;
              lvl = cl.lvl.2;
              near = level_near h (tall t) (tall o) (tall m.tree) cl.near cl.lvl.0 m.least m.most b.level;
              low = cl.low;
            };
            root_is = root_left root x.at fs root-is;
            order = next_order;
            high_is = refl;
            long = m.long;
            same = λ k off. next_same k (omega (arith, off, climb_uses k));
          }

    -- the node stands at its place, and is as tall as the way has it
    climb_stops : (ys : List (Node K V)) (b : BalancedOn s xs ys x.at x t o) → tall b.mended.tree ≡ max h (tall o) + 1 → Climbed xs ys (root_of x.at fs) (front (on s x o ∷ fs) ++ (inorder t ++ back (on s x o ∷ fs))) (top (on s x o ∷ fs) h)
    climb_stops ys b high =
        let m = b.mended in
        let w = whole ys x.at (max h (tall o) + 1) fs m.tree m.stands high m.avl cl.lvl.2 (next_along ys x.at b) in
        record {
          tree = w.tree;
          stands = w.stands;
          order = w.order ∙ next_order ys x.at b;
          avl = w.avl;
          near = omega (arith, w.high);
          long = m.long;
          same = λ k off. next_same ys x.at b k (omega (arith, off, climb_uses k));
        }

  -- one turn of the climb: what it asks, and what it comes to where it goes on and where it stops
  pub record Ready (xs ys : List (Node K V)) (path : List Step) (link root : ℕ) (items : List (Item K V)) (high : ℕ) (step : Step) (t : Tree K V) : Type 0 where
    pub n : Node K V
    pub o : Tree K V
    pub refit : Refit ys step.at step.side link n (tree_on step.side t o) (tree_on (across step.side) t o)
    pub next : (zs : List (Node K V)) (j : ℕ) → Refitted ys zs step.at n (tree_on step.side t o) (tree_on (across step.side) t o) (Some j) → Progress xs zs path j root items high
    pub stops : (zs : List (Node K V)) → Refitted ys zs step.at n (tree_on step.side t o) (tree_on (across step.side) t o) None → Climbed xs zs root items high

  module _ (xs ys : List (Node K V)) (path rest : List Step) (link root : ℕ) (items : List (Item K V)) (high : ℕ) (p : Progress xs ys path link root items high) (step : Step) (popped : path ≡ rest ++ step ∷ []) where
    onward : (zs : List (Node K V)) (j : ℕ) → Progress ys zs rest j root (front p.fs ++ (inorder p.tree ++ back p.fs)) (top p.fs p.h) → Progress xs zs rest j root items high
    onward zs j q =
        record {
          fs = q.fs;
          tree = q.tree;
          h = q.h;
          climb = q.climb;
          root_is = q.root_is;
          order = q.order ∙ p.order;
          high_is = q.high_is ∙ p.high_is;
          long = q.long ∙ p.long;
          same = λ k off. q.same k (ap (uses k) p.order ∙ off) ∙ p.same k off;
        }

    over : (zs : List (Node K V)) → Climbed ys zs root (front p.fs ++ (inorder p.tree ++ back p.fs)) (top p.fs p.h) → Climbed xs zs root items high
    over zs q =
        record {
          tree = q.tree;
          stands = q.stands;
          order = q.order ∙ p.order;
          avl = q.avl;
          near = rw (← p.high_is) q.near;
          long = q.long ∙ p.long;
          same = λ k off. q.same k (ap (uses k) p.order ∙ off) ∙ p.same k off;
        }

    pub ready : Ready xs ys rest link root items high step p.tree
    ready =
        let k = pop ys rest step p.climb.old p.h p.fs p.climb.along (sym popped ∙ p.climb.noted) in
        let s = step.side in
        let x : Item K V = item step.at k.n.key k.n.value in
        let P : List (Frame K V) → Type 0 = λ fs. Climb ys path link fs p.tree p.h in
        let cl : P (on s x k.o ∷ k.rest) = subst P k.is p.climb in
        let root-is : root ≡ root_of root (on s x k.o ∷ k.rest) = subst (λ (fs : List (Frame K V)). root ≡ root_of root fs) k.is p.root_is in
        let Q : List (Frame K V) → Type 0 = λ fs. (zs : List (Node K V)) (j : ℕ) → BalancedOn s ys zs j x p.tree k.o → Progress ys zs rest j root (front fs ++ (inorder p.tree ++ back fs)) (top fs p.h) in
        let next : Q p.fs = subst Q (sym k.is) (λ zs j b. climb_next ys path rest link s x k.o k.rest p.tree p.h k.noted cl zs j b root root-is) in
        let R : List (Frame K V) → Type 0 = λ fs. (zs : List (Node K V)) (b : BalancedOn s ys zs x.at x p.tree k.o) → tall b.mended.tree ≡ max p.h (tall k.o) + 1 → Climbed ys zs (root_of root fs) (front fs ++ (inorder p.tree ++ back fs)) (top fs p.h) in
        let stops : R p.fs = subst R (sym k.is) (climb_stops ys path rest link s x k.o k.rest p.tree p.h k.noted cl) in
        record {
          n = k.n;
          o = k.o;
          refit = record {
            held = k.held;
            room = left_at s ys x _ link _ p.tree k.o refl (climb_room ys path rest link s x k.o k.rest p.tree p.h k.noted cl _ k.side);
            uneven = uneven_on s p.tree k.o (climb_uneven ys path rest link s x k.o k.rest p.tree p.h k.noted cl);
          };
          next = λ zs j b. onward zs j (next zs j (balanced_on s ys zs j x p.tree k.o b));
          stops = λ zs b. over zs (rw p.root_is (stops zs (balanced_on s ys zs x.at x p.tree k.o b.0) (same_tall s ys zs x.at x p.tree k.o b.0 _ (b.1 ∙ k.high))));
        }

  -- the climb begins
  pub begun : (xs : List (Node K V)) (path : List Step) (link root : ℕ) (fs : List (Frame K V)) (t : Tree K V) (h : ℕ) → ((first : Step) → slice_get path 0 ≡ Some first → root ≡ first.at) → Climb xs path link fs t h → Progress xs xs path link root (front fs ++ (inorder t ++ back fs)) (top fs h)
  begun xs path link root fs t h begins cl = record { fs = fs; tree = t; h = h; climb = cl; root_is = root_begins root path fs cl.noted begins; order = refl; high_is = refl; long = refl; same = λ j off. refl }

  -- the climb is over
  ended : (xs ys : List (Node K V)) (path : List Step) (link : ℕ) (items : List (Item K V)) (high : ℕ) (fs : List (Frame K V)) (t : Tree K V) (h : ℕ) → path ≡ [] → Climb ys path link fs t h → front fs ++ (inorder t ++ back fs) ≡ items → top fs h ≡ high → length ys ≡ length xs → ((j : ℕ) → uses j items ≡ 0 → slice_get ys j ≡ slice_get xs j) → Climbed xs ys link items high
  ended xs ys path link items high [] t h low cl order high_is long same =
      record { tree = t; stands = cl.stands; order = sym (append-nil (inorder t)) ∙ order; avl = cl.avl; near = rw (← high_is) cl.near; long = long; same = same }
  ended xs ys path link items high (on s x o ∷ fs) t h low cl order high_is long same = absurd (no_step (steps fs) _ (sym cl.noted ∙ low))

  pub done : (xs ys : List (Node K V)) (path : List Step) (link root : ℕ) (items : List (Item K V)) (high : ℕ) → path ≡ [] → Progress xs ys path link root items high → Climbed xs ys link items high
  done xs ys path link root items high low p = ended xs ys path link items high p.fs p.tree p.h low p.climb p.order p.high_is p.long p.same
