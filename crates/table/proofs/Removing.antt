-- Nodes that are taken out.
use Rattle.std.proofs.Common.{◌≡◌, ℕ, ◌+◌, ◌<◌, ◌≤◌, max, Bool, true, ◌≢◌, List, [], ◌∷◌, ◌++◌, length, Some, sym, refl, ap, ◌∙◌, subst, append_assoc, append-nil, arith}
use Rattle.std.specs.List.{slice_get}
use Rattle.std.proofs.lemmas.Option.{slice_get_within}
use Rattle.table.specs.declared.node.Node.{Node}
use Rattle.table.specs.declared.tree.path.Step.{Step}
use Rattle.table.specs.Side.{Left}
use Rattle.table.specs.Tree.{Item, Tree, leaf, node, none, tall, inorder, one, uses, Avl, Stands}
use Rattle.table.specs.Edit.{item, Once, Room, Uneven, Balanced}
use Rattle.table.specs.Path.{Frame, front, back, top, Climb, Climbed}
use Rattle.table.specs.Search.{Sorted, Whole, Became, Way, Walk, Descent, Under, Over}
use Rattle.table.specs.Change.{Absent, Present}
use Rattle.table.specs.Remove.{Stem, Leftward, MinTaken, Lifted}
use Rattle.table.proofs.Model.{uses_append, uses_node, one_at, rep_frame, same_some, opened}
use Rattle.table.proofs.Climbing.{along_frame, top_le, level_near}
use Rattle.table.proofs.Descending.{each_append, each_map, cut, way_on, way_starts}
use Rattle.table.proofs.Lists.{sorted_less}
use Rattle.table.proofs.Inserting.{empty_leaf}

module _ {K V : Type 0} where
  pub left_starts : (xs : List (Node K V)) (path : List Step) (root : ℕ) (t : Tree K V) → path ≡ [] → Stem xs root t → Leftward xs path root t
  left_starts xs path root t empty s = rw empty (record { fs = []; sub = t; way = way_starts xs root t s.stands s.avl s.low; some = s.some; first = refl })

  module _ (xs : List (Node K V)) (path : List Step) (link : ℕ) (t : Tree K V) (n : Node K V) (lw : Leftward xs path link t) (read : slice_get xs link ≡ Some n) where
    pub left_within : length path < 14
    left_within =
        let o = opened xs link n lw.sub lw.way.stands lw.some read in
        omega (arith, lw.way.space, ap tall o.is)

    pub left_step : n.links.left ≢ none → Leftward xs (path ++ record { at = link; side = Left } ∷ []) n.links.left t
    left_step more =
        let o = opened xs link n lw.sub lw.way.stands lw.some read in
        let w = subst (λ (s : Tree K V). Way xs path link t lw.fs s) o.is lw.way in
        record { fs = _; sub = o.l; way = way_on xs path link t n read o.linkable lw.fs Left o.l o.r o.on_left o.on_right w; some = more; first = lw.first }

  -- a way that a call has noted
  pub left_noted : (xs : List (Node K V)) (path path-2 : List Step) (link : ℕ) (t : Tree K V) → path-2 ≡ path → Leftward xs path link t → Leftward xs path-2 link t
  left_noted xs path path-2 link t e d = rw e d

  -- the first node, with only a right side
  pub record MinReady (xs : List (Node K V)) (path : List Step) (link : ℕ) (t : Tree K V) (n : Node K V) (fs : List (Frame K V)) : Type 0 where
    pub rest : Tree K V
    pub climb : Climb xs path n.links.right fs rest (max 0 (tall rest) + 1)
    pub next : (ys : List (Node K V)) (i : ℕ) → Climbed xs ys i (front fs ++ (inorder rest ++ back fs)) (top fs (max 0 (tall rest) + 1)) → MinTaken xs ys link i t

  module _ (xs : List (Node K V)) (path : List Step) (link root : ℕ) (t : Tree K V) (n : Node K V) (stem : Stem xs root t) (read : slice_get xs link ≡ Some n) where
    min_at : (fs : List (Frame K V)) (r : Tree K V) → Stands xs n.links.right r → front fs ≡ [] → Way xs path link t fs (node (item link n.key n.value) leaf r) → MinReady xs path link t n fs
    min_at fs r on_right first w =
        let x : Item K V = item link n.key n.value in
        let all : (j : ℕ) → uses j (front fs) + one j link + uses j (inorder r) + uses j (back fs) ≡ uses j (inorder t) = λ j. omega (arith, ap (uses j) w.order, uses_node j x (front fs) (inorder r ++ back fs), uses_append j (inorder r) (back fs)) in
        let parts : (j : ℕ) → uses j (front fs ++ (inorder r ++ back fs)) ≡ uses j (front fs) + uses j (inorder r) + uses j (back fs) = λ j. omega (arith, uses_append j (front fs) (inorder r ++ back fs), uses_append j (inorder r) (back fs)) in
        record {
          rest = r;
          climb = record {
            stands = on_right;
            old = link;
            along = w.along;
            noted = w.noted;
            once = λ j. omega (arith, stem.once j, all j, parts j);
            avl = w.avl.2;
            lvl = w.lvl;
            near = omega arith;
            low = omega (arith, w.high, stem.low);
          };
          next = λ ys i k.
              let whole : inorder t ≡ x ∷ (inorder r ++ back fs) = sym w.order ∙ ap (λ (q : List (Item K V)). q ++ (x ∷ (inorder r ++ back fs))) first in
              let left : inorder k.tree ≡ inorder r ++ back fs = k.order ∙ ap (λ (q : List (Item K V)). q ++ (inorder r ++ back fs)) first in
              record {
                n = n;
                held = k.same link (omega (arith, stem.once link, all link, parts link, one_at link)) ∙ read;
                linkable = w.stands.held.0;
                tree = k.tree;
                stands = k.stands;
                order = whole ∙ ap (λ (q : List (Item K V)). x ∷ q) (sym left);
                avl = k.avl;
                near = rw (← w.high) k.near;
                long = k.long;
                same = λ j off. k.same j (omega (arith, off, all j, parts j));
              };
        }

    pub min_ready : (lw : Leftward xs path link t) → n.links.left ≡ none → MinReady xs path link t n lw.fs
    min_ready lw e =
        let o = opened xs link n lw.sub lw.way.stands lw.some read in
        let is : lw.sub ≡ node (item link n.key n.value) leaf o.r = o.is ∙ ap (λ (l : Tree K V). node (item link n.key n.value) l o.r) (empty_leaf xs n.links.left o.l o.on_left e) in
        min_at lw.fs o.r o.on_right lw.first (subst (λ (s : Tree K V). Way xs path link t lw.fs s) is lw.way)

  module _ (xs : List (Node K V)) (root : ℕ) (t : Tree K V) (n : Node K V) (stem : Stem xs root t) (read : slice_get xs root ≡ Some n) where
    pub lift_leaf : n.links.right ≡ none → Lifted xs xs root n.links.left t
    lift_leaf e =
        let o = opened xs root n t stem.stands stem.some read in
        let is : t ≡ node (item root n.key n.value) o.l leaf = o.is ∙ ap (λ (r : Tree K V). node (item root n.key n.value) o.l r) (empty_leaf xs n.links.right o.r o.on_right e) in
        let avl = subst Avl is stem.avl in
        record {
          n = n;
          held = read;
          a = inorder o.l;
          b = [];
          cut = ap inorder is;
          tree = o.l;
          stands = o.on_left;
          order = sym (append-nil (inorder o.l));
          avl = avl.1;
          near = omega (arith, avl.0, ap tall is);
          long = refl;
          same = λ j off. refl;
        }

    -- the right side has a node
    pub record RightReady (l r : Tree K V) : Type 0 where
      pub stem_right : Stem xs n.links.right r
      pub room : (ys : List (Node K V)) (at rest : ℕ) (m : Node K V) (k : MinTaken xs ys at rest r) → slice_get ys at ≡ Some m → Room ys (item at m.key m.value) (record { left = n.links.left; right = rest }) l k.tree
      pub uneven : (ys : List (Node K V)) (at rest : ℕ) (k : MinTaken xs ys at rest r) → Uneven l k.tree
      pub next : (ys zs : List (Node K V)) (at rest i : ℕ) (m : Node K V) (k : MinTaken xs ys at rest r) → slice_get ys at ≡ Some m → Balanced ys zs i (item at m.key m.value) l k.tree → Lifted xs zs root i t

    lift_at : (l r : Tree K V) → t ≡ node (item root n.key n.value) l r → n.links.right ≢ none → Stands xs n.links.left l → Stands xs n.links.right r → RightReady l r
    lift_at l r is some on_left on_right =
        let x : Item K V = item root n.key n.value in
        let avl = subst Avl is stem.avl in
        let high : tall t ≡ max (tall r) (tall l) + 1 = ap tall is ∙ (let e : max (tall l) (tall r) + 1 ≡ max (tall r) (tall l) + 1 = omega arith in e) in
        let all : (j : ℕ) → uses j (inorder l) + one j root + uses j (inorder r) ≡ uses j (inorder t) = λ j. omega (arith, ap (λ (s : Tree K V). uses j (inorder s)) is, uses_node j x (inorder l) (inorder r)) in
        let swap : (ys : List (Node K V)) (at rest : ℕ) (m : Node K V) (k : MinTaken xs ys at rest r) → slice_get ys at ≡ Some m → inorder r ≡ item at m.key m.value ∷ inorder k.tree =
        λ ys at rest m k e. k.order ∙ ap (λ (q : Node K V). item at q.key q.value ∷ inorder k.tree) (same_some k.n m (sym k.held ∙ e)) in
        record {
          stem_right = record { stands = on_right; some = some; avl = avl.2; once = λ j. omega (arith, stem.once j, all j); low = omega (arith, stem.low) };
          room = λ ys at rest m k e.
              record {
                on_left = record { held = rep_frame xs ys l (λ j u. k.same j (omega (arith, stem.once j, all j))) on_left.held; root = on_left.root };
                on_right = k.stands;
                within = slice_get_within ys at m e;
                linkable = k.linkable;
                once = λ j. omega (arith, stem.once j, all j, ap (uses j) (swap ys at rest m k e), uses_node j (item at m.key m.value) (inorder l) (inorder k.tree));
                low_left = omega (arith, stem.low);
                low_right = omega (arith, stem.low, k.near);
              };
          uneven = λ ys at rest k. record { avl_left = avl.1; avl_right = k.avl; gap_left = omega (arith, avl.0, k.near); gap_right = omega (arith, avl.0, k.near) };
          next = λ ys zs at rest i m k e b.
              let done = b.mended in
              record {
                n = n;
                held = read;
                a = inorder l;
                b = inorder r;
                cut = ap inorder is;
                tree = done.tree;
                stands = done.stands;
                order = done.order ∙ ap (λ (q : List (Item K V)). inorder l ++ q) (sym (swap ys at rest m k e));
                avl = done.avl;
                near = rw high (level_near (tall r) (tall k.tree) (tall l) (tall done.tree) k.near (avl.0.1, avl.0.0) (omega (arith, done.least)) (omega (arith, done.most)) (λ near. omega (arith, b.level (near.1, near.0))));
                long = done.long ∙ k.long;
                same = λ j off. done.same j (omega (arith, off, uses_append j (inorder l) (inorder r), ap (uses j) (swap ys at rest m k e), uses_node j (item at m.key m.value) (inorder l) (inorder k.tree))) ∙ k.same j (omega (arith, off, uses_append j (inorder l) (inorder r)));
              };
        }

    pub lift_ready : n.links.right ≢ none → (l : Tree K V) × (r : Tree K V) × RightReady l r
    lift_ready some =
        let o = opened xs root n t stem.stands stem.some read in
        (o.l, o.r, lift_at o.l o.r o.is some o.on_left o.on_right)

  module _ (before : K → K → Bool) (key : K) (xs : List (Node K V)) (path : List Step) (link root : ℕ) (t : Tree K V) (whole : Whole before xs root t) (low : tall t ≤ 14) (d : Descent before (Under before key) (Over before key) xs path link t) where
    -- the key is not there
    pub absent : link ≡ none → Absent before key (inorder t)
    absent e =
        let w = subst (λ (s : Tree K V). Walk before (Under before key) (Over before key) xs path link t d.fs s) (empty_leaf xs link d.sub d.walk.way.stands e) d.walk in
        record { a = front d.fs; b = back d.fs; parts = sym w.way.order; early = w.early; late = w.late }

    all : (j : ℕ) → uses j (front d.fs) + uses j (inorder d.sub) + uses j (back d.fs) ≡ uses j (inorder t)
    all j = omega (arith, ap (uses j) d.walk.way.order, uses_append j (front d.fs) (inorder d.sub ++ back d.fs), uses_append j (inorder d.sub) (back d.fs))

    pub sub_stem : link ≢ none → Stem xs link d.sub
    sub_stem some =
        record {
          stands = d.walk.way.stands;
          some = some;
          avl = d.walk.way.avl;
          once = λ j. omega (arith, whole.once j, all j);
          low = omega (arith, d.walk.way.high, low, top_le d.fs (tall d.sub));
        }

    -- the key is at the end of the way, at the item x between a and b
    module _ (x : Item K V) (a b : List (Item K V)) (cut_is : inorder d.sub ≡ a ++ x ∷ b) (same_key : x.key ≡ key) where
      here : (front d.fs ++ a) ++ x ∷ (b ++ back d.fs) ≡ inorder t
      here =
          let regroup : (front d.fs ++ a) ++ x ∷ (b ++ back d.fs) ≡ front d.fs ++ ((a ++ x ∷ b) ++ back d.fs) = simp append_assoc in
          regroup ∙ ap (λ (q : List (Item K V)). front d.fs ++ (q ++ back d.fs)) (sym cut_is) ∙ d.walk.way.order

      pub present : link ≡ x.at → Present before key link (inorder t)
      present place =
          let E : Item K V → Type 0 = λ y. Under before key y.key in
          let L : Item K V → Type 0 = λ y. Over before key y.key in
          let k = cut before a x b (rw cut_is at d.walk.sorted) in
          record {
            a = front d.fs ++ a;
            x = x;
            b = b ++ back d.fs;
            parts = sym here;
            early = each_append E (front d.fs) a d.walk.early (each_map _ E a (λ y h. subst (λ (q : K). before y.key q ≡ true) same_key h) k.below);
            late = each_append L b (back d.fs) (each_map _ L b (λ y h. subst (λ (q : K). before q y.key ≡ true) same_key h) k.above) d.walk.late;
            keyed = same_key;
            place = place;
          }

    module _ (ys : List (Node K V)) (i : ℕ) (f : Lifted xs ys link i d.sub) where
      pub lifted_climb : Climb ys path i d.fs f.tree (tall d.sub)
      lifted_climb =
          let cut-uses : (j : ℕ) → uses j (inorder d.sub) ≡ uses j f.a + (one j link + uses j f.b) = λ j. ap (uses j) f.cut ∙ uses_node j (item link f.n.key f.n.value) f.a f.b in
          let left-uses : (j : ℕ) → uses j (inorder f.tree) ≡ uses j f.a + uses j f.b = λ j. ap (uses j) f.order ∙ uses_append j f.a f.b in
          record {
            stands = f.stands;
            old = link;
            along = along_frame xs ys link (tall d.sub) d.fs (λ j u. f.same j (omega (arith, whole.once j, all j, cut-uses j, uses_append j f.a f.b))) d.walk.way.along;
            noted = d.walk.way.noted;
            once = λ j. omega (arith, whole.once j, all j, cut-uses j, left-uses j, uses_append j (front d.fs) (inorder f.tree ++ back d.fs), uses_append j (inorder f.tree) (back d.fs));
            avl = f.avl;
            lvl = d.walk.way.lvl;
            near = f.near;
            low = omega (arith, d.walk.way.high, low);
          }

      pub lifted_done : f.n.key ≡ key → (zs : List (Node K V)) (r : ℕ) → Climbed ys zs r (front d.fs ++ (inorder f.tree ++ back d.fs)) (top d.fs (tall d.sub)) → (p : Present before key link (inorder t)) × Became before xs zs r (p.a ++ p.b)
      unfolding present
      lifted_done same_key zs r k =
          let fs = d.fs in
          let x : Item K V = item link f.n.key f.n.value in
          let shut : front fs ++ ((f.a ++ f.b) ++ back fs) ≡ (front fs ++ f.a) ++ (f.b ++ back fs) = simp append_assoc in
          let left : front fs ++ (inorder f.tree ++ back fs) ≡ (front fs ++ f.a) ++ (f.b ++ back fs) = ap (λ (q : List (Item K V)). front fs ++ (q ++ back fs)) f.order ∙ shut in
          let once : Once (front fs ++ (inorder f.tree ++ back fs)) = lifted_climb.once in
          let sorted : Sorted before ((front fs ++ f.a) ++ (f.b ++ back fs)) = sorted_less before (front fs ++ f.a) x (f.b ++ back fs) (rw (here x f.a f.b f.cut same_key) whole.sorted) in (
            present x f.a f.b f.cut same_key refl,
            record {
              tree = k.tree;
              whole = record { stands = k.stands; avl = k.avl; once = rw k.order once; sorted = rw (k.order, left) sorted };
              order = k.order ∙ left;
              long = k.long ∙ f.long;
              same = λ j off. k.same j (ap (uses j) left ∙ off) ∙ f.same j (omega (arith, off, uses_append j (front fs ++ f.a) (f.b ++ back fs), uses_append j (front fs) f.a, uses_append j f.b (back fs), uses_append j f.a f.b));
            },
          )

    -- what `seek` came to has the key
    module _ (n : Node K V) (some : link ≢ none) (read : slice_get xs link ≡ Some n) (same_key : n.key ≡ key) where
      pub there : Present before key link (inorder t)
      there =
          let o = opened xs link n d.sub d.walk.way.stands some read in
          present (item link n.key n.value) (inorder o.l) (inorder o.r) (ap inorder o.is) same_key refl
