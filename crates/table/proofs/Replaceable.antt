-- Where a key can take the place of another: the search for the new key finds the node of the other beside it.
use Rattle.std.proofs.Common.{rules, ◌≡◌, ℕ, ◌≤◌, Bool, true, false, not, ◌&&◌, ◌⊎◌, List, [], ◌∷◌, ◌++◌, length, Option, sym, refl, ap, ◌∙◌, subst, inl, inr, append_assoc, arith}
use Rattle.std.specs.Prelude.{MatchOption}
use Rattle.std.specs.Bool.{then_some}
use Rattle.std.specs.List.{slice_get}
use Rattle.std.proofs.lemmas.Bool.{both_ways}
use Rattle.std.proofs.lemmas.Option.{slice_get_past}
use Rattle.table.specs.declared.node.Node.{Node}
use Rattle.table.specs.declared.node.Entry.{Entry}
use Rattle.table.specs.Order.{Order}
use Rattle.table.specs.Pairs.{Each, alike}
use Rattle.table.specs.Tree.{Item, Tree, none, inorder}
use Rattle.table.specs.Search.{Sorted, Whole, Under, Over}
use Rattle.table.specs.Change.{Replaceable, FindsReplaceable}
use Rattle.table.specs.Parts.{front_at, final, NotUnder, Parted}
use Rattle.table.proofs.Model.{nth_some}
use Rattle.table.proofs.Descending.{each_append, each_left, each_right, each_map, cut}
use Rattle.table.proofs.Searching.{final_end}
use Rattle.table.proofs.Pairs.{one_way}
use Rattle.table.proofs.Calls.{Reads, reads}

-- a list is empty or has a last element
pub last_cut : {A : Type 0} (a : List A) → (a ≡ []) ⊎ ((b : List A) × (x : A) × (a ≡ b ++ x ∷ []))
last_cut [] = inl refl
last_cut {A = A} (x ∷ a) = inr (go x a)
  where
    go : (x : A) (a : List A) → (b : List A) × (y : A) × (x ∷ a ≡ b ++ y ∷ [])
    go x [] = ([], x, refl)
    go x (y ∷ a) = let k = go y a in (x ∷ k.0, k.1, ap (λ (q : List A). x ∷ q) k.2)

module _ {K : Type 0} (before : K → K → Bool) (o : Order before) where
  pub alike_is : (a b : K) → alike before a b ≡ true → a ≡ b
  alike_is a b e = o.total a b (first (before a b) (before b a) e) (second (before a b) (before b a) e)
    where
      first : (p q : Bool) → (not p && not q) ≡ true → p ≡ false
      first p q e = grind rules

      second : (p q : Bool) → (not p && not q) ≡ true → q ≡ false
      second p q e = grind rules

  alike_self : (a : K) → alike before a a ≡ true
  alike_self a = on (before a a) (o.irreflexive a)
    where
      on : (p : Bool) → p ≡ false → (not p && not p) ≡ true
      on p e = grind rules

module _ {K V : Type 0} (before : K → K → Bool) (o : Order before) where
  sorted_right : (a b : List (Item K V)) → Sorted before (a ++ b) → Sorted before b
  sorted_right [] b s = s
  sorted_right (x ∷ a) b s = sorted_right a b s.1

  -- a list is cut at a key in one way
  cut_same : (key : K) (a b c d : List (Item K V)) → a ++ b ≡ c ++ d → Each (λ (x : Item K V). Under before key x.key) a → Each (λ (x : Item K V). Under before key x.key) c →
      Each (λ (x : Item K V). NotUnder before key x.key) b → Each (λ (x : Item K V). NotUnder before key x.key) d → (a ≡ c) × (b ≡ d)
  cut_same key [] b [] d e ea ec eb ed = (refl, e)
  cut_same key [] b (y ∷ c) d e ea ec eb ed =
      let f : Each (λ (x : Item K V). NotUnder before key x.key) (y ∷ (c ++ d)) = subst (Each (λ (x : Item K V). NotUnder before key x.key)) e eb in
      absurd (both_ways (before y.key key) f.0 ec.0)
  cut_same key (x ∷ a) b [] d e ea ec eb ed =
      let f : Each (λ (x : Item K V). NotUnder before key x.key) (x ∷ (a ++ b)) = subst (Each (λ (x : Item K V). NotUnder before key x.key)) (sym e) ed in
      absurd (both_ways (before x.key key) f.0 ea.0)
  cut_same key (x ∷ a) b (y ∷ c) d e ea ec eb ed =
      let same : x ≡ y = cc in
      let rest : a ++ b ≡ c ++ d = cc in
      let k = cut_same key a b c d rest ea.1 ec.1 eb ed in
      (λ i. same i ∷ k.0 i, k.1)

  module _ (xs : List (Node K V)) (short : length xs ≤ 1024) (key new : K) where
    at_item : (x : Item K V) → Reads xs x → (P : Type 0) (Q : Node K V → Type 0) → MatchOption (slice_get xs x.at) P Q → (n : Node K V) × (n.key ≡ x.key) × Q n
    at_item x r P Q m =
        let n = nth_some xs x.at r.within in
        (n.0, ap (λ (e : Entry K V). e.key) (r.has_pair n.0 n.1), subst (λ (q : Option (Node K V)). MatchOption q P Q) n.1 m)

    at_none : (P : Type 0) (Q : Node K V → Type 0) → MatchOption (slice_get xs none) P Q → P
    at_none P Q m = subst (λ (q : Option (Node K V)). MatchOption q P Q) (slice_get_past xs none (omega arith)) m

    -- the new key comes before all that follow it, as it comes before the first of them
    comes_is : (b : List (Item K V)) → Each (Reads xs) b → Sorted before b → MatchOption (slice_get xs (front_at b)) (true ≡ true) (λ n. true ≡ before new n.key) → Each (λ (x : Item K V). Over before new x.key) b
    comes_is [] r s m = tt
    comes_is (y ∷ b) r s m =
        let n = at_item y r.0 _ _ m in
        let here : before new y.key ≡ true = ap (before new) (sym n.1) ∙ sym n.2 in
        (here, each_map _ _ b (λ x h. o.transitive new y.key x.key here h) s.0)

    comes_not : (b : List (Item K V)) → Each (Reads xs) b → MatchOption (slice_get xs (front_at b)) (false ≡ true) (λ n. false ≡ before new n.key) → Each (λ (x : Item K V). Over before new x.key) b → ⊥
    comes_not [] r m h = both_ways false refl (at_none _ _ m)
    comes_not (y ∷ b) r m h =
        let n = at_item y r.0 _ _ m in
        both_ways (before new y.key) (ap (before new) (sym n.1) ∙ sym n.2) h.0

    -- the node at a place has the key
    key_is : (x : Item K V) → Reads xs x → MatchOption (slice_get xs x.at) (true ≡ false) (λ n. true ≡ alike before key n.key) → x.key ≡ key
    key_is x r m =
        let n = at_item x r _ _ m in
        sym (alike_is before o key n.0.key (sym n.2) ∙ n.1)

    key_not : (x : Item K V) → Reads xs x → MatchOption (slice_get xs x.at) (false ≡ false) (λ n. false ≡ alike before key n.key) → x.key ≡ key → ⊥
    key_not x r m e =
        let n = at_item x r _ _ m in
        both_ways (alike before key key) (sym (ap (alike before key) (n.1 ∙ e)) ∙ sym n.2) (alike_self before o key)

    module _ (link : ℕ) (t : Tree K V) (w : Whole before xs link t) (below past : ℕ) (q : Parted before new below past (inorder t)) where
      all : Each (Reads xs) (q.a ++ q.b)
      all = subst (Each (Reads xs)) q.parts (reads xs t w.stands.held)

      sorted : Sorted before (q.a ++ q.b)
      sorted = subst (Sorted before) q.parts w.sorted

      -- the new key lies behind the other: the other is the last before it
      module _ (behind : before key new ≡ true) where
        cut_behind : (at : ℕ) (s : Replaceable before key new at (inorder t)) → (s.present.a ++ s.present.x ∷ [] ≡ q.a) × (s.present.b ≡ q.b)
        cut_behind at s =
            let p = s.present in
            let group : (p.a ++ p.x ∷ []) ++ p.b ≡ p.a ++ p.x ∷ p.b = simp append_assoc in
            cut_same new (p.a ++ p.x ∷ []) p.b q.a q.b (group ∙ sym p.parts ∙ q.parts)
            (each_append _ p.a (p.x ∷ []) s.early (ap (λ (k : K). before k new) p.keyed ∙ behind, tt)) q.early
            (each_map _ _ p.b (λ y h. one_way before o new y.key h) s.late) q.late

        none_follows : MatchOption (slice_get xs past) (false ≡ true) (λ n. false ≡ before new n.key) → (at : ℕ) → Replaceable before key new at (inorder t) → ⊥
        none_follows m at s =
            comes_not q.b (each_right (Reads xs) q.a q.b all) (subst (λ (i : ℕ). MatchOption (slice_get xs i) (false ≡ true) (λ n. false ≡ before new n.key)) q.past_is m)
            (subst (Each (λ (x : Item K V). Over before new x.key)) (cut_behind at s).1 s.late)

        not_last : MatchOption (slice_get xs below) (false ≡ false) (λ n. false ≡ alike before key n.key) → (at : ℕ) → Replaceable before key new at (inorder t) → ⊥
        not_last m at s =
            let p = s.present in
            let place : below ≡ p.x.at = q.below_is ∙ ap final (sym (cut_behind at s).0) ∙ final_end p.a p.x in
            key_not p.x (each_right (Reads xs) p.a (p.x ∷ p.b) (subst (Each (Reads xs)) p.parts (reads xs t w.stands.held))).0
            (subst (λ (i : ℕ). MatchOption (slice_get xs i) (false ≡ false) (λ n. false ≡ alike before key n.key)) place m) p.keyed

        last_replaceable : MatchOption (slice_get xs past) (true ≡ true) (λ n. true ≡ before new n.key) → MatchOption (slice_get xs below) (true ≡ false) (λ n. true ≡ alike before key n.key) → Replaceable before key new below (inorder t)
        last_replaceable after m = go (last_cut q.a)
          where
            late : Each (λ (x : Item K V). Over before new x.key) q.b
            late =
                let rest : Sorted before q.b = sorted_right q.a q.b sorted in
                comes_is q.b (each_right (Reads xs) q.a q.b all) rest (subst (λ (i : ℕ). MatchOption (slice_get xs i) (true ≡ true) (λ n. true ≡ before new n.key)) q.past_is after)

            go : (q.a ≡ []) ⊎ ((b : List (Item K V)) × (x : Item K V) × (q.a ≡ b ++ x ∷ [])) → Replaceable before key new below (inorder t)
            go (inl empty) =
                absurd (both_ways true ((at_none _ _ (subst (λ (i : ℕ). MatchOption (slice_get xs i) (true ≡ false) (λ n. true ≡ alike before key n.key)) (q.below_is ∙ ap final empty) m))) refl)
            go (inr k) =
                let a = k.0 in
                let x = k.1 in
                let group : (a ++ x ∷ []) ++ q.b ≡ a ++ x ∷ q.b = simp append_assoc in
                let parts : inorder t ≡ a ++ x ∷ q.b = q.parts ∙ ap (λ (z : List (Item K V)). z ++ q.b) k.2 ∙ group in
                let place : below ≡ x.at = q.below_is ∙ ap final k.2 ∙ final_end a x in
                let c = cut before a x q.b (subst (Sorted before) parts w.sorted) in
                let here = (each_right (Reads xs) a (x ∷ q.b) (subst (Each (Reads xs)) parts (reads xs t w.stands.held))).0 in
                let keyed : x.key ≡ key = key_is x here (subst (λ (i : ℕ). MatchOption (slice_get xs i) (true ≡ false) (λ n. true ≡ alike before key n.key)) place m) in
                record {
                  present = record {
                    a = a;
                    x = x;
                    b = q.b;
                    parts = parts;
                    early = subst (λ (z : K). Each (λ (y : Item K V). Under before z y.key) a) keyed c.below;
                    late = subst (λ (z : K). Each (λ (y : Item K V). Over before z y.key) q.b) keyed c.above;
                    keyed = keyed;
                    place = place;
                  };
                  early = each_left _ a (x ∷ []) (subst (Each (λ (y : Item K V). Under before new y.key)) k.2 q.early);
                  late = late;
                }

        pub found_behind : (h f : Bool) → MatchOption (slice_get xs below) (h ≡ false) (λ n. h ≡ alike before key n.key) → MatchOption (slice_get xs past) (f ≡ true) (λ n. f ≡ before new n.key) →
            FindsReplaceable before key new (inorder t) (then_some (h && f) below)
        found_behind true true m after = last_replaceable after m
        found_behind true false m after = none_follows after
        found_behind false f m after = not_last m

      -- the new key is the other, or lies before it: the other is the first that does not come before it
      module _ (ahead : before key new ≡ false) where
        cut_ahead : (at : ℕ) (s : Replaceable before key new at (inorder t)) → (s.present.a ≡ q.a) × (s.present.x ∷ s.present.b ≡ q.b)
        cut_ahead at s =
            let p = s.present in
            cut_same new p.a (p.x ∷ p.b) q.a q.b (sym p.parts ∙ q.parts) s.early q.early
            (ap (λ (k : K). before k new) p.keyed ∙ ahead, each_map _ _ p.b (λ y h. one_way before o new y.key h) s.late) q.late

        not_first : MatchOption (slice_get xs past) (false ≡ false) (λ n. false ≡ alike before key n.key) → (at : ℕ) → Replaceable before key new at (inorder t) → ⊥
        not_first m at s =
            let p = s.present in
            let place : past ≡ p.x.at = q.past_is ∙ ap front_at (sym (cut_ahead at s).1) in
            key_not p.x (each_right (Reads xs) p.a (p.x ∷ p.b) (subst (Each (Reads xs)) p.parts (reads xs t w.stands.held))).0
            (subst (λ (i : ℕ). MatchOption (slice_get xs i) (false ≡ false) (λ n. false ≡ alike before key n.key)) place m) p.keyed

        first_replaceable : MatchOption (slice_get xs past) (true ≡ false) (λ n. true ≡ alike before key n.key) → Replaceable before key new past (inorder t)
        first_replaceable m = go q.b refl
          where
            over : (y : K) → before key y ≡ true → before new y ≡ true
            over y h = side (before new key) refl
              where
                side : (v : Bool) → before new key ≡ v → before new y ≡ true
                side true e = o.transitive new key y e h
                side false e = ap (λ (z : K). before z y) (o.total new key e ahead) ∙ h

            go : (b : List (Item K V)) → q.b ≡ b → Replaceable before key new past (inorder t)
            go [] empty =
                absurd (both_ways true ((at_none _ _ (subst (λ (i : ℕ). MatchOption (slice_get xs i) (true ≡ false) (λ n. true ≡ alike before key n.key)) (q.past_is ∙ ap front_at empty) m))) refl)
            go (x ∷ b) is =
                let parts : inorder t ≡ q.a ++ x ∷ b = q.parts ∙ ap (λ (z : List (Item K V)). q.a ++ z) is in
                let place : past ≡ x.at = q.past_is ∙ ap front_at is in
                let c = cut before q.a x b (subst (Sorted before) parts w.sorted) in
                let here = (each_right (Reads xs) q.a (x ∷ b) (subst (Each (Reads xs)) parts (reads xs t w.stands.held))).0 in
                let keyed : x.key ≡ key = key_is x here (subst (λ (i : ℕ). MatchOption (slice_get xs i) (true ≡ false) (λ n. true ≡ alike before key n.key)) place m) in
                let above : Each (λ (y : Item K V). Over before key y.key) b = subst (λ (z : K). Each (λ (y : Item K V). Over before z y.key) b) keyed c.above in
                record {
                  present = record {
                    a = q.a;
                    x = x;
                    b = b;
                    parts = parts;
                    early = subst (λ (z : K). Each (λ (y : Item K V). Under before z y.key) q.a) keyed c.below;
                    late = above;
                    keyed = keyed;
                    place = place;
                  };
                  early = q.early;
                  late = each_map _ _ b (λ y h. over y.key h) above;
                }

        pub found_ahead : (h : Bool) → MatchOption (slice_get xs past) (h ≡ false) (λ n. h ≡ alike before key n.key) → FindsReplaceable before key new (inorder t) (then_some h past)
        found_ahead true m = first_replaceable m
        found_ahead false m = not_first m
