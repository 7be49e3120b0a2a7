-- A new node at the end of a way.
use Rattle.std.proofs.Common.{◌≡◌, ℕ, ◌+◌, ◌≤◌, Bool, ◌≢◌, List, ◌∷◌, ◌++◌, sym, refl, ap, ◌∙◌, subst, ⊎_elim, arith}
use Rattle.std.proofs.lemmas.Bool.{cases_eq}
use Rattle.table.specs.declared.node.Node.{Node}
use Rattle.table.specs.declared.tree.path.Step.{Step}
use Rattle.table.specs.Tree.{Item, Tree, leaf, node, none, tall, inorder, one, uses, Stands}
use Rattle.table.specs.Edit.{Once, Room, Joined}
use Rattle.table.specs.Path.{Frame, front, back, top, Climb, Climbed}
use Rattle.table.specs.Search.{Sorted, Whole, Free, Became, Walk, Descent, Under, Over}
use Rattle.table.specs.Change.{Absent}
use Rattle.table.proofs.Model.{uses_append, uses_node, one_at, one_off}
use Rattle.table.proofs.Turn.{off_item}
use Rattle.table.proofs.Climbing.{along_frame}
use Rattle.table.proofs.Lists.{sorted_more}

module _ {K V : Type 0} where
  pub empty_leaf : (xs : List (Node K V)) (link : ℕ) (t : Tree K V) → Stands xs link t → link ≡ none → t ≡ leaf
  empty_leaf xs link leaf s e = refl
  empty_leaf xs link (node x l r) s e = absurd (omega (arith, s.root, s.held.0, e))

  pub lone : (xs : List (Node K V)) (x : Item K V) (t : Tree K V) → Free xs x.at t → Room xs x (record { left = none; right = none }) leaf leaf
  lone xs x t f =
      record {
        on_left = record { held = tt; root = refl };
        on_right = record { held = tt; root = refl };
        within = f.within;
        linkable = f.linkable;
        once = λ j. ⊎_elim (λ e. omega (arith, ap (λ (k : ℕ). one k x.at) e, one_at x.at)) (λ ne. omega (arith, one_off j x.at ne)) (cases_eq j x.at);
        low_left = omega arith;
        low_right = omega arith;
      }

  module _ (before : K → K → Bool) (x : Item K V) (xs ys : List (Node K V)) (path : List Step) (root i : ℕ) (t : Tree K V) (whole : Whole before xs root t) (free : Free xs x.at t) (low : tall t ≤ 14) (j1 : Joined xs ys i x leaf leaf) where
    at_end : (fs : List (Frame K V)) → Walk before (Under before x.key) (Over before x.key) xs path none t fs leaf → Climb ys path i fs (node x leaf leaf) 0
    at_end fs w =
        let all : (j : ℕ) → uses j (front fs) + uses j (back fs) ≡ uses j (inorder t) = λ j. sym (uses_append j (front fs) (back fs)) ∙ ap (uses j) w.way.order in
        let off : (j : ℕ) → 1 ≤ uses j (front fs) + uses j (back fs) → j ≢ x.at = λ j u e. let same : uses j (inorder t) ≡ uses x.at (inorder t) = ap (λ (k : ℕ). uses k (inorder t)) e in omega (arith, all j, free.unused) in
        record {
          stands = j1.stands;
          old = none;
          along = along_frame xs ys none 0 fs (λ j u. j1.kept.same j (off j u)) w.way.along;
          noted = w.way.noted;
          once = λ j. ⊎_elim
              (λ e. let same : uses j (inorder t) ≡ uses x.at (inorder t) = ap (λ (k : ℕ). uses k (inorder t)) e in omega (arith, ap (λ (k : ℕ). one k x.at) e, one_at x.at, uses_node j x (front fs) (back fs), all j, free.unused))
              (λ ne. omega (arith, one_off j x.at ne, uses_node j x (front fs) (back fs), all j, whole.once j))
              (cases_eq j x.at);
          avl = (omega arith, tt, tt);
          lvl = w.way.lvl;
          near = omega arith;
          low = omega (arith, w.way.high, low);
        }

    pub hung : (d : Descent before (Under before x.key) (Over before x.key) xs path none t) → Climb ys path i d.fs (node x leaf leaf) 0
    hung d = at_end d.fs (subst (λ (s : Tree K V). Walk before (Under before x.key) (Over before x.key) xs path none t d.fs s) (empty_leaf xs none d.sub d.walk.way.stands refl) d.walk)

    finish : (zs : List (Node K V)) (link : ℕ) (fs : List (Frame K V)) → Walk before (Under before x.key) (Over before x.key) xs path none t fs leaf → Climbed ys zs link (front fs ++ (x ∷ back fs)) (top fs 0) → (s : Absent before x.key (inorder t)) × Became before xs zs link (s.a ++ x ∷ s.b)
    finish zs link fs w k =
        let once : Once (front fs ++ x ∷ back fs) = (at_end fs w).once in
        let sorted : Sorted before (front fs ++ x ∷ back fs) = sorted_more before (front fs) x (back fs) (rw w.way.order whole.sorted) w.early w.late in (
          record { a = front fs; b = back fs; parts = sym w.way.order; early = w.early; late = w.late },
          record {
            tree = k.tree;
            whole = record { stands = k.stands; avl = k.avl; once = rw k.order once; sorted = rw k.order sorted };
            order = k.order;
            long = k.long ∙ j1.kept.long;
            same = λ j off. k.same j off ∙ j1.kept.same j (off_item j (front fs) x (back fs) off);
          },
        )

    pub finished : (d : Descent before (Under before x.key) (Over before x.key) xs path none t) (zs : List (Node K V)) (link : ℕ) → Climbed ys zs link (front d.fs ++ (x ∷ back d.fs)) (top d.fs 0) → (s : Absent before x.key (inorder t)) × Became before xs zs link (s.a ++ x ∷ s.b)
    finished d zs link k = finish zs link d.fs (subst (λ (s : Tree K V). Walk before (Under before x.key) (Over before x.key) xs path none t d.fs s) (empty_leaf xs none d.sub d.walk.way.stands refl) d.walk) k
