-- What each call of a table leaves in sound records, and what it answers.
use Rattle.std.proofs.Common.{rules, ◌≡◌, ℕ, ◌+◌, ◌-◌, ◌<◌, ◌≤◌, Bool, true, false, not, ◌&&◌, ltb, ◌≢◌, List, [], ◌∷◌, ◌++◌, map, length, set, Some, None, sym, refl, ap, ◌∙◌, subst, ⊎_elim, arith, length-append}
use lib.ListN.{length-map}
use Rattle.std.specs.List.{slice_get}
use Rattle.std.proofs.lemmas.Option.{slice_get_past, slice_get_within}
use Rattle.std.proofs.lemmas.List.{length-set}
use Rattle.std.proofs.lemmas.Bool.{cases_eq, lt-ltb, le-ltb}
use Rattle.table.specs.declared.node.Node.{Node}
use Rattle.table.specs.declared.node.Heads.{Heads}
use Rattle.table.specs.declared.node.Entry.{Entry}
use Rattle.table.specs.Order.{Order}
use Rattle.table.specs.Pairs.{Each, pair, has, find, put, without, under, from, first, last, Inserts, Removes}
use Rattle.table.specs.Tree.{Item, Tree, leaf, node, none, inorder, one, uses, cell, Rep}
use Rattle.table.specs.Edit.{item}
use Rattle.table.specs.Search.{Free, Became, Under, Over}
use Rattle.table.specs.Change.{Absent, Present}
use Rattle.table.specs.Parts.{front_at, final, NotUnder, Parted}
use Rattle.table.specs.Sound.{given, spare, Chain, Holds, entry, entry_at}
use Rattle.table.proofs.Model.{nth_some, nth_set_other, one_at, one_off, uses_append, uses_node, same_some}
use Rattle.table.proofs.Turn.{still}
use Rattle.table.proofs.Descending.{each_append, each_left, each_right}
use Rattle.table.proofs.Unused.{chain_frame, chain_more}
use Rattle.table.proofs.Soundness.{all_counted}
use Rattle.table.proofs.Pairs.{put_between, key_absent, key_present, key_parts, pairs_append, pairs_each}

and_off : (p q : Bool) → q ≡ false → false ≡ (p && q)
and_off p q e = grind rules

module _ {K V : Type 0} where
  -- the record of an item has its key and its value
  pub record Reads (xs : List (Node K V)) (x : Item K V) : Type 0 where
    pub linkable : x.at < none
    pub within : x.at < length xs
    pub has_pair : (n : Node K V) → slice_get xs x.at ≡ Some n → pair n.key n.value ≡ entry x

  pub reads : (xs : List (Node K V)) (t : Tree K V) → Rep xs t → Each (Reads xs) (inorder t)
  reads xs leaf h = tt
  reads xs (node x l r) h =
      each_append (Reads xs) (inorder l) (x ∷ inorder r) (reads xs l h.2) (
        record {
          linkable = h.0;
          within = slice_get_within xs x.at _ h.1;
          has_pair = λ n e. ap (λ (m : Node K V). pair m.key m.value) (same_some n (cell x l r) (sym e ∙ h.1));
        },
        reads xs r h.3,
      )

  pub entry_first : (xs : List (Node K V)) (b : List (Item K V)) → length xs ≤ none → Each (Reads xs) b → entry_at xs (front_at b) ≡ first (map entry b)
  entry_first xs [] short h = ap (given None (λ n. Some (pair n.key n.value))) (slice_get_past xs none short)
  entry_first xs (x ∷ b) short h =
      let n = nth_some xs x.at h.0.within in
      ap (given None (λ n. Some (pair n.key n.value))) n.1 ∙ ap Some (h.0.has_pair n.0 n.1)

  pub entry_final : (xs : List (Node K V)) (a : List (Item K V)) → length xs ≤ none → Each (Reads xs) a → entry_at xs (final a) ≡ last (map entry a)
  entry_final xs [] short h = entry_first xs [] short tt
  entry_final xs (x ∷ []) short h = entry_first xs (x ∷ []) short h
  entry_final xs (x ∷ y ∷ a) short h = entry_final xs (y ∷ a) short h.1

  -- the pairs of a list that is cut at an item
  pub pairs_cut : (a : List (Item K V)) (x : Item K V) (b : List (Item K V)) → map entry (a ++ x ∷ b) ≡ map entry a ++ entry x ∷ map entry b
  pairs_cut a x b = pairs_append a (x ∷ b)

  pub started : (before : K → K → Bool) (xs : List (Node K V)) (unused : ℕ) (us : List (Item K V)) → length xs ≡ 1024 → Chain xs us → unused ≡ front_at us → ((j : ℕ) → j < length xs → uses j us ≡ 1) → Holds before xs (record { root = none; unused = unused; len = 0 }) leaf us
  started before xs unused us size chained begins all =
      record {
        size = size;
        whole = record { stands = record { held = tt; root = refl }; avl = tt; once = λ j. omega arith; sorted = tt };
        chained = chained;
        begins = begins;
        shared = λ j h. all j (omega (arith, size));
        count = refl;
      }

  no_chain : (xs : List (Node K V)) (us : List (Item K V)) → Chain xs us → none ≡ front_at us → length us ≡ 0
  no_chain xs [] h e = refl
  no_chain xs (x ∷ us) h e = absurd (omega (arith, h.0))

  -- the first record of the chain
  pub record Front (us : List (Item K V)) (at : ℕ) : Type 0 where
    pub u : Item K V
    pub rest : List (Item K V)
    pub is : us ≡ u ∷ rest
    pub place : at ≡ u.at

  front_of : (us : List (Item K V)) (at : ℕ) → at ≢ none → at ≡ front_at us → Front us at
  front_of [] at ne e = absurd (ne e)
  front_of (u ∷ us) at ne e = record { u = u; rest = us; is = refl; place = e }

  module _ {before : K → K → Bool} {xs : List (Node K V)} {heads : Heads} {t : Tree K V} {us : List (Item K V)} (h : Holds before xs heads t us) where
    short : length xs ≤ none
    short = omega (arith, h.size)

    all_reads : Each (Reads xs) (inorder t)
    all_reads = reads xs t h.whole.stands.held

    -- no record is unused
    pub full : (key : K) (value : V) → heads.unused ≡ none → Inserts before (map entry (inorder t)) (map entry (inorder t)) (pair key value) false
    full key value e =
        let count : length (map entry (inorder t)) ≡ 1024 = length-map (inorder t) entry ∙ (let n : length (inorder t) ≡ 1024 = omega (arith, all_counted h, no_chain xs us h.chained (sym e ∙ h.begins)) in n) in
        record { takes = and_off _ _ (le-ltb (length (map entry (inorder t))) 1024 (omega (arith, count))); leaves = refl }

    -- the key is there
    pub occupied : Order before → (key : K) (value : V) (at : ℕ) → Present before key at (inorder t) → Inserts before (map entry (inorder t)) (map entry (inorder t)) (pair key value) false
    occupied o key value at p =
        let there : has before key (map entry (inorder t)) ≡ true = ap (λ (q : List (Item K V)). has before key (map entry q)) p.parts ∙ ap (has before key) (pairs_cut p.a p.x p.b) ∙ (key_present before key (map entry p.a) (entry p.x) (map entry p.b) (pairs_each (Under before key) p.a p.early) (ap (before key) p.keyed ∙ o.irreflexive key) (ap (λ (q : K). before q key) p.keyed ∙ o.irreflexive key)).0 in
        record { takes = sym (ap (λ (q : Bool). not q && ltb (length (map entry (inorder t))) 1024) there); leaves = refl }

    -- a record is unused, and goes into the tree
    pub record Spare : Type 0 where
      pub within : heads.unused < length xs
      pub free : Free xs heads.unused t
      pub fewer : heads.len < 1024
      pub rest : List (Item K V)
      pub next : (n : Node K V) → slice_get xs heads.unused ≡ Some n → (ys : List (Node K V)) (root : ℕ) (key : K) (value : V) (s : Absent before key (inorder t)) (b : Became before xs ys root (s.a ++ item heads.unused key value ∷ s.b)) → Holds before ys (record { root = root; unused = n.links.left; len = heads.len + 1 }) b.tree rest

    spare_at : (u : Item K V) (rest : List (Item K V)) → us ≡ u ∷ rest → heads.unused ≡ u.at → Spare
    spare_at u rest is place =
        let chained : Chain xs (u ∷ rest) = subst (Chain xs) is h.chained in
        let all : (j : ℕ) → uses j (inorder t) + (one j u.at + uses j rest) ≡ uses j (inorder t ++ us) = λ j. sym (ap (λ (q : List (Item K V)). uses j (inorder t ++ q)) is ∙ uses_append j (inorder t) (u ∷ rest)) in
        let in-range : u.at < length xs = slice_get_within xs u.at _ chained.1 in
        let unused : uses u.at (inorder t) ≡ 0 = omega (arith, all u.at, h.shared u.at (omega (arith, h.size)), one_at u.at) in
        let count : length us ≡ length rest + 1 = ap length is ∙ (let e : length (u ∷ rest) ≡ length rest + 1 = omega arith in e) in
        record {
          within = rw place in-range;
          free = record { within = rw place in-range; linkable = rw place chained.0; unused = rw place unused };
          fewer = omega (arith, all_counted h, h.count);
          rest = rest;
          next = λ n read ys root key value s b.
              let x : Item K V = item heads.unused key value in
              let at-is : (j : ℕ) → one j x.at ≡ one j u.at = λ j. ap (one j) place in
              let items : (j : ℕ) → uses j (s.a ++ x ∷ s.b) ≡ uses j (inorder t) + one j u.at = λ j. omega (arith, uses_node j x s.a s.b, ap (uses j) s.parts, uses_append j s.a s.b, at-is j) in
              let same : (j : ℕ) → 1 ≤ uses j rest → j < 1024 → slice_get ys j ≡ slice_get xs j = λ j m low. b.same j (omega (arith, items j, all j, h.shared j low)) in
              let low-rest : (j : ℕ) → 1 ≤ uses j rest → j < 1024 = λ j m. subst (λ (q : ℕ). j < q) h.size (used_within xs rest chained.2 j m) in
              record {
                size = b.long ∙ h.size;
                whole = b.whole;
                chained = chain_frame xs ys rest (λ j m. same j m (low-rest j m)) chained.2;
                begins = ap (λ (m : Node K V). m.links.left) (same_some n _ (sym read ∙ ap (slice_get xs) place ∙ chained.1));
                shared = λ j low. uses_append j (inorder b.tree) rest ∙ (omega (arith, ap (uses j) b.order, items j, all j, h.shared j low));
                count = ap (λ (q : ℕ). q + 1) h.count ∙ (omega (arith, ap length b.order, length-append s.a (x ∷ s.b), ap length s.parts, length-append s.a s.b));
              };
        }
      where
        used_within : (xs : List (Node K V)) (vs : List (Item K V)) → Chain xs vs → (j : ℕ) → 1 ≤ uses j vs → j < length xs
        used_within xs [] c j m = absurd (omega (arith, m))
        used_within xs (v ∷ vs) c j m =
            ⊎_elim
            (λ e. rw e (slice_get_within xs v.at _ c.1))
            (λ ne. used_within xs vs c.2 j (omega (arith, one_off j v.at ne)))
            (cases_eq j v.at)

    pub spare_ready : heads.unused ≢ none → Spare
    spare_ready ne = let f = front_of us heads.unused ne h.begins in spare_at f.u f.rest f.is f.place

    -- the pairs after an insertion
    pub inserted : Order before → (key : K) (value : V) (at : ℕ) (qs : List (Entry K V)) → heads.len < 1024 → (s : Absent before key (inorder t)) → qs ≡ map entry (s.a ++ item at key value ∷ s.b) → Inserts before (map entry (inorder t)) qs (pair key value) true
    inserted o key value at qs fewer s is =
        let early = pairs_each (Under before key) s.a s.early in
        let late = pairs_each (Over before key) s.b s.late in
        let parts : map entry (inorder t) ≡ map entry s.a ++ map entry s.b = ap (map entry) s.parts ∙ pairs_append s.a s.b in
        let off : has before key (map entry (inorder t)) ≡ false = ap (has before key) parts ∙ (key_absent before key (map entry s.a) (map entry s.b) early late).0 in
        let room : ltb (length (map entry (inorder t))) 1024 ≡ true = lt-ltb (length (map entry (inorder t))) 1024 (rw (length-map (inorder t) entry) (omega (arith, h.count, fewer))) in
        record {
          takes = sym (ap (λ (q : Bool). not q && ltb (length (map entry (inorder t))) 1024) off ∙ room);
          leaves = is ∙ pairs_cut s.a (item at key value) s.b ∙ sym (ap (put before (pair key value)) parts ∙ put_between before key o value (map entry s.a) (map entry s.b) early late);
        }

    -- the key is not there
    pub missing : (key : K) → Absent before key (inorder t) → Removes before (map entry (inorder t)) (map entry (inorder t)) key None
    missing key s =
        let parts : map entry (inorder t) ≡ map entry s.a ++ map entry s.b = ap (map entry) s.parts ∙ pairs_append s.a s.b in
        let k = key_absent before key (map entry s.a) (map entry s.b) (pairs_each (Under before key) s.a s.early) (pairs_each (Over before key) s.b s.late) in
        record { answers = sym (ap (find before key) parts ∙ k.1); leaves = parts ∙ sym (ap (without before key) parts ∙ k.2) }

    -- a record is taken out of the tree, and goes in front of the chain
    module _ (o : Order before) (key : K) (at : ℕ) (p : Present before key at (inorder t)) (ys : List (Node K V)) (root : ℕ) (b : Became before xs ys root (p.a ++ p.b)) where
      here : Reads xs p.x
      here = (each_right (Reads xs) p.a (p.x ∷ p.b) (subst (Each (Reads xs)) p.parts all_reads)).0

      items : (j : ℕ) → uses j (p.a ++ p.b) + one j p.x.at ≡ uses j (inorder t)
      items j = omega (arith, uses_node j p.x p.a p.b, ap (uses j) p.parts, uses_append j p.a p.b)

      off : uses at (p.a ++ p.b) ≡ 0
      off = rw p.place (omega (arith, items p.x.at, h.whole.once p.x.at, one_at p.x.at))

      pub taken_within : at < length ys
      taken_within = rw (p.place, b.long) here.within

      pub some_taken : 1 ≤ heads.len
      some_taken = omega (arith, h.count, ap length p.parts, length-append p.a (p.x ∷ p.b))

      set_back : (n : Node K V) → slice_get ys at ≡ Some n → Holds before (set ys at (spare n.key n.value heads.unused)) (record { root = root; unused = at; len = heads.len - 1 }) b.tree (item at n.key n.value ∷ us)
      set_back n read =
          let zs : List (Node K V) = set ys at (spare n.key n.value heads.unused) in
          let w = b.whole in
          let all : (j : ℕ) → uses j (inorder t ++ us) ≡ uses j (p.a ++ p.b) + one j at + uses j us = λ j. omega (arith, uses_append j (inorder t) us, items j, ap (one j) p.place) in
          let at_low : at < 1024 = omega (arith, taken_within, b.long, h.size) in
          let not-idle : uses at us ≡ 0 = omega (arith, all at, h.shared at at_low, one_at at) in
          let off-tree : uses at (inorder b.tree) ≡ 0 = ap (uses at) b.order ∙ off in
          record {
            size = length-set ys at _ ∙ b.long ∙ h.size;
            whole = record {
              stands = still ys zs at root b.tree (record { long = length-set ys at _; same = λ j ne. nth_set_other ys at j _ ne }) off-tree w.stands;
              avl = w.avl;
              once = w.once;
              sorted = w.sorted;
            };
            chained = chain_more ys at heads.unused n us read (rw p.place here.linkable) not-idle h.begins (chain_frame xs ys us (λ j m. b.same j (omega (arith, all j, h.shared j (idle_low us h.chained j m)))) h.chained);
            begins = refl;
            shared = λ j low. uses_append j (inorder b.tree) (item at n.key n.value ∷ us) ∙ (omega (arith, ap (uses j) b.order, all j, h.shared j low));
            count = ap (λ (q : ℕ). q - 1) h.count ∙ (omega (arith, ap length b.order, ap length p.parts, length-append p.a (p.x ∷ p.b), length-append p.a p.b));
          }
        where
          idle_low : (vs : List (Item K V)) → Chain xs vs → (j : ℕ) → 1 ≤ uses j vs → j < 1024
          idle_low [] c j m = absurd (omega (arith, m))
          idle_low (v ∷ vs) c j m =
              ⊎_elim
              (λ e. rw e (subst (λ (q : ℕ). v.at < q) h.size (slice_get_within xs v.at _ c.1)))
              (λ ne. idle_low vs c.2 j (omega (arith, one_off j v.at ne)))
              (cases_eq j v.at)

      pub given_back : (n : Node K V) (zs : List (Node K V)) → slice_get ys at ≡ Some n → zs ≡ set ys at (spare n.key n.value heads.unused) → Holds before zs (record { root = root; unused = at; len = heads.len - 1 }) b.tree (item at n.key n.value ∷ us)
      given_back n zs read is =
          let P : List (Node K V) → Type 0 = λ ws. Holds before ws (record { root = root; unused = at; len = heads.len - 1 }) b.tree (item at n.key n.value ∷ us) in
          subst P (sym is) (set_back n read)

      pub taken_out : (n : Node K V) (qs : List (Entry K V)) → slice_get ys at ≡ Some n → qs ≡ map entry (p.a ++ p.b) → Removes before (map entry (inorder t)) qs key (Some n.value)
      taken_out n qs read is =
          let parts : map entry (inorder t) ≡ map entry p.a ++ entry p.x ∷ map entry p.b = ap (map entry) p.parts ∙ pairs_cut p.a p.x p.b in
          let k = key_present before key (map entry p.a) (entry p.x) (map entry p.b) (pairs_each (Under before key) p.a p.early) (ap (before key) p.keyed ∙ o.irreflexive key) (ap (λ (q : K). before q key) p.keyed ∙ o.irreflexive key) in
          let was : slice_get xs p.x.at ≡ Some n = ap (slice_get xs) (sym p.place) ∙ sym (b.same at off) ∙ read in
          record {
            answers = ap (λ (q : Entry K V). Some q.value) (here.has_pair n was) ∙ sym (ap (find before key) parts ∙ k.1);
            leaves = is ∙ pairs_append p.a p.b ∙ sym (ap (without before key) parts ∙ k.2);
          }

    -- searches
    module _ (key : K) (below past : ℕ) (p : Parted before key below past (inorder t)) where
      both : Each (Reads xs) (p.a ++ p.b)
      both = subst (Each (Reads xs)) p.parts all_reads

      cut_pairs : map entry (inorder t) ≡ map entry p.a ++ map entry p.b
      cut_pairs = ap (map entry) p.parts ∙ pairs_append p.a p.b

      sides : (under before key (map entry (inorder t)) ≡ map entry p.a) × (from before key (map entry (inorder t)) ≡ map entry p.b)
      sides =
          let k = key_parts before key (map entry p.a) (map entry p.b) (pairs_each (Under before key) p.a p.early) (pairs_each (NotUnder before key) p.b p.late) in
          (ap (under before key) cut_pairs ∙ k.0, ap (from before key) cut_pairs ∙ k.1)

      pub lowest_is : entry_at xs past ≡ first (from before key (map entry (inorder t)))
      lowest_is = ap (entry_at xs) p.past_is ∙ entry_first xs p.b short (each_right (Reads xs) p.a p.b both) ∙ ap first (sym sides.1)

      pub highest_is : entry_at xs below ≡ last (under before key (map entry (inorder t)))
      highest_is = ap (entry_at xs) p.below_is ∙ entry_final xs p.a short (each_left (Reads xs) p.a p.b both) ∙ ap last (sym sides.0)

    pub last_is : entry_at xs (final (inorder t)) ≡ last (map entry (inorder t))
    last_is = entry_final xs (inorder t) short all_reads
