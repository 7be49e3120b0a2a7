-- What the definitions on sorted lists of pairs give where a list is cut at a key.
use Rattle.std.proofs.Common.{rules, ◌≡◌, Bool, true, false, not, ◌&&◌, ◌||◌, List, [], ◌∷◌, ◌++◌, map, Some, None, Option, cond, sym, refl, ap, ◌∙◌}
use Rattle.std.proofs.lemmas.Bool.{cond-true, cond-false, both_ways}
use Rattle.table.specs.declared.node.Entry.{Entry}
use Rattle.table.specs.Order.{Order}
use Rattle.table.specs.Pairs.{Each, pair, Ordered, alike, has, find, put, without, under, from, first}
use Rattle.table.specs.Tree.{Item}
use Rattle.table.specs.Search.{Sorted}
use Rattle.table.specs.Sound.{entry}
use Rattle.table.proofs.Descending.{each_map}

off_left : (p q : Bool) → p ≡ true → (not p && not q) ≡ false
off_left p q e = grind rules

off_right : (p q : Bool) → q ≡ true → (not p && not q) ≡ false
off_right p q e = grind rules

on_both : (p q : Bool) → p ≡ false → q ≡ false → (not p && not q) ≡ true
on_both p q e f = grind rules

or_off : (p q : Bool) → p ≡ false → (p || q) ≡ q
or_off p q e = grind rules

or_on : (p q : Bool) → p ≡ true → (p || q) ≡ true
or_on p q e = grind rules

-- of two keys at most one comes before the other
pub one_way : {K : Type 0} (before : K → K → Bool) → Order before → (a b : K) → before a b ≡ true → before b a ≡ false
one_way before o a b h = go (before b a) refl
  where
    go : (v : Bool) → before b a ≡ v → v ≡ false
    go false e = refl
    go true e = absurd (both_ways (before a a) (o.irreflexive a) (o.transitive a b a h e))

module _ {K V : Type 0} (before : K → K → Bool) (key : K) where
  -- a key between the pairs of a and those of b
  pub put_between : Order before → (v : V) (a b : List (Entry K V)) → Each (λ (x : Entry K V). before x.key key ≡ true) a → Each (λ (x : Entry K V). before key x.key ≡ true) b → put before (pair key v) (a ++ b) ≡ a ++ pair key v ∷ b
  put_between o v [] [] h k = refl
  put_between o v [] (y ∷ b) h k = cond-true (before key y.key) _ _ k.0
  put_between o v (y ∷ a) b h k = cond-false (before key y.key) _ _ (one_way before o y.key key h.0) ∙ ap (λ (q : List (Entry K V)). y ∷ q) (put_between o v a b h.1 k)

  past : (b : List (Entry K V)) → Each (λ (x : Entry K V). before key x.key ≡ true) b → (has before key b ≡ false) × (find before key b ≡ None) × (without before key b ≡ b)
  past [] k = (refl, refl, refl)
  past (y ∷ b) k =
      let off : alike before key y.key ≡ false = off_left (before key y.key) (before y.key key) k.0 in
      let rest = past b k.1 in
      (or_off _ _ off ∙ rest.0, cond-false _ _ _ off ∙ rest.1, cond-false _ _ _ off ∙ ap (λ (q : List (Entry K V)). y ∷ q) rest.2)

  -- pairs that come before the key are passed
  skip : (a b : List (Entry K V)) → Each (λ (x : Entry K V). before x.key key ≡ true) a → (has before key (a ++ b) ≡ has before key b) × (find before key (a ++ b) ≡ find before key b) × (without before key (a ++ b) ≡ a ++ without before key b)
  skip [] b h = (refl, refl, refl)
  skip (y ∷ a) b h =
      let off : alike before key y.key ≡ false = off_right (before key y.key) (before y.key key) h.0 in
      let rest = skip a b h.1 in
      (or_off _ _ off ∙ rest.0, cond-false _ _ _ off ∙ rest.1, cond-false _ _ _ off ∙ ap (λ (q : List (Entry K V)). y ∷ q) rest.2)

  pub key_absent : (a b : List (Entry K V)) → Each (λ (x : Entry K V). before x.key key ≡ true) a → Each (λ (x : Entry K V). before key x.key ≡ true) b → (has before key (a ++ b) ≡ false) × (find before key (a ++ b) ≡ None) × (without before key (a ++ b) ≡ a ++ b)
  key_absent a b h k =
      let s = skip a b h in
      let p = past b k in
      (s.0 ∙ p.0, s.1 ∙ p.1, s.2 ∙ ap (λ (q : List (Entry K V)). a ++ q) p.2)

  pub key_present : (a : List (Entry K V)) (x : Entry K V) (b : List (Entry K V)) → Each (λ (y : Entry K V). before y.key key ≡ true) a → before key x.key ≡ false → before x.key key ≡ false → (has before key (a ++ x ∷ b) ≡ true) × (find before key (a ++ x ∷ b) ≡ Some x.value) × (without before key (a ++ x ∷ b) ≡ a ++ b)
  key_present a x b h e f =
      let s = skip a (x ∷ b) h in
      let on : alike before key x.key ≡ true = on_both (before key x.key) (before x.key key) e f in
      (s.0 ∙ or_on _ _ on, s.1 ∙ cond-true _ _ _ on, s.2 ∙ ap (λ (q : List (Entry K V)). a ++ q) (cond-true _ _ _ on))

  -- the pairs before a key, and those not before it
  pub key_parts : (a b : List (Entry K V)) → Each (λ (x : Entry K V). before x.key key ≡ true) a → Each (λ (x : Entry K V). before x.key key ≡ false) b → (under before key (a ++ b) ≡ a) × (from before key (a ++ b) ≡ b)
  key_parts [] [] h k = (refl, refl)
  key_parts [] (y ∷ b) h k =
      let rest = key_parts [] b tt k.1 in
      (cond-false (before y.key key) _ _ k.0 ∙ rest.0, cond-false (before y.key key) _ _ k.0 ∙ ap (λ (q : List (Entry K V)). y ∷ q) rest.1)
  key_parts (y ∷ a) b h k =
      let rest = key_parts a b h.1 k in
      (cond-true (before y.key key) _ _ h.0 ∙ ap (λ (q : List (Entry K V)). y ∷ q) rest.0, cond-true (before y.key key) _ _ h.0 ∙ rest.1)

  -- the value of a pair with the key, where the pair does not come before it
  abbrev pub answer : Option (Entry K V) → Option V
  answer None = None
  answer (Some e) = cond (before key e.key) None (Some e.value)

  -- only the first pair that does not come before the key can have it
  lowest_has : Order before → (ps : List (Entry K V)) → Ordered before ps → find before key ps ≡ answer (first (from before key ps))
  lowest_has o [] s = refl
  lowest_has o (x ∷ ps) s = go (before x.key key) (before key x.key) refl refl (lowest_has o ps s.1)
    where
      go : (p q : Bool) → before x.key key ≡ p → before key x.key ≡ q → find before key ps ≡ answer (first (from before key ps)) → find before key (x ∷ ps) ≡ answer (first (from before key (x ∷ ps)))
      go true q e f rest = cond-false _ _ _ (off_right (before key x.key) (before x.key key) e) ∙ rest ∙ sym (ap (λ (r : List (Entry K V)). answer (first r)) (cond-true (before x.key key) _ _ e))
      go false true e f rest =
          let over = each_map _ _ ps (λ y h. o.transitive key x.key y.key f h) s.0 in
          cond-false _ _ _ (off_left (before key x.key) (before x.key key) f) ∙ (past ps over).1 ∙ sym (ap (λ (r : List (Entry K V)). answer (first r)) (cond-false (before x.key key) _ _ e) ∙ cond-true (before key x.key) _ _ f)
      go false false e f rest = cond-true _ _ _ (on_both (before key x.key) (before x.key key) f e) ∙ sym (ap (λ (r : List (Entry K V)). answer (first r)) (cond-false (before x.key key) _ _ e) ∙ cond-false (before key x.key) _ _ f)

  pub found_at : Order before → (ps : List (Entry K V)) → Ordered before ps → (r p : Option (Entry K V)) → r ≡ first (from before key ps) → r ≡ p → find before key ps ≡ answer p
  found_at o ps s r p lowest is = lowest_has o ps s ∙ ap answer (sym lowest ∙ is)

-- from items to their pairs
module _ {K V : Type 0} where
  pub pairs_append : (a b : List (Item K V)) → map entry (a ++ b) ≡ map entry a ++ map entry b
  pairs_append [] b = refl
  pairs_append (x ∷ a) b = ap (λ (q : List (Entry K V)). entry x ∷ q) (pairs_append a b)

  pub pairs_each : (P : K → Type 0) (a : List (Item K V)) → Each (λ (x : Item K V). P x.key) a → Each (λ (x : Entry K V). P x.key) (map entry a)
  pairs_each P [] h = tt
  pairs_each P (x ∷ a) h = (h.0, pairs_each P a h.1)

  pub pairs_ordered : (before : K → K → Bool) (a : List (Item K V)) → Sorted before a → Ordered before (map entry a)
  pairs_ordered before [] s = tt
  pairs_ordered before (x ∷ a) s = (pairs_each (λ k. before x.key k ≡ true) a s.0, pairs_ordered before a s.1)
