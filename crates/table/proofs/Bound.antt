-- A balanced tree in at most 1,024 records is at most 14 tall, by the list of the fewest nodes.
use Rattle.std.proofs.Common.{◌≡◌, ℕ, zero, suc, ◌+◌, ◌-◌, ◌<◌, ◌≤◌, max, List, [], ◌∷◌, length, get_or, Option, sym, refl, ap, ◌∙◌, subst, ⊎_elim, arith, length-append}
use Rattle.std.proofs.lemmas.Bool.{cases_eq, cases_lt, cases_order}
use Rattle.table.specs.declared.node.Node.{Node}
use Rattle.std.specs.List.{slice_get}
use Rattle.std.proofs.lemmas.Option.{slice_get-get_or, slice_get_past, slice_get_within}
use Rattle.table.specs.Least.{counts, Rising, Fewest}
use Rattle.table.specs.Tree.{Item, Tree, leaf, node, tall, inorder, one, uses, Rep, Near, Avl}
use Rattle.table.specs.Edit.{Once}
use Rattle.table.specs.Pairs.{Each}
use Rattle.table.proofs.Model.{one_at, one_off}
use Rattle.table.proofs.Descending.{each_append}
use Rattle.table.proofs.Listed.{by_rule}

-- the rule of the list, for every height
abbrev pub least : ℕ → ℕ
least zero = 0
least (suc zero) = 1
least (suc (suc n)) = least (suc n) + least n + 1

-- one test over the whole list
pub counted : (h : ℕ) → h < 16 → get_or counts h 0 ≡ least h
counted h low = by_rule least counts refl h low

pub rising : Rising counts
rising k h =
    let e : k + 2 ≡ suc (suc k) = omega arith in
    let f : k + 1 ≡ suc k = omega arith in
    counted (k + 2) h ∙ ap least e ∙ omega (arith, counted (k + 1) (omega arith), ap least f, counted k (omega arith))

least_up : (n : ℕ) → least n ≤ least (suc n)
least_up zero = omega arith
least_up (suc zero) = omega arith
least_up (suc (suc n)) = omega (arith, least_up (suc n), least_up n)

least_more : (a k : ℕ) → least a ≤ least (k + a)
least_more a zero = let e : 0 + a ≡ a = omega arith in rw e (omega arith)
least_more a (suc k) = let e : suc k + a ≡ suc (k + a) = omega arith in rw e (omega (arith, least_more a k, least_up (k + a)))

least_twice : (n : ℕ) → least (suc n) ≤ least n + least n + 1
least_twice zero = omega arith
least_twice (suc n) = omega (arith, least_up n)

least_node : (a b : ℕ) → Near a b → least (max a b + 1) ≤ least a + least b + 1
least_node a b near =
    ⊎_elim
    (λ e. let m : max a b + 1 ≡ suc a = omega arith in let f : least b ≡ least a = ap least (sym e) in rw m (omega (arith, least_twice a)))
    (⊎_elim
    (λ lt. let m : max a b + 1 ≡ suc (suc a) = omega (arith, near) in let f : least b ≡ least (suc a) = ap least (let s : b ≡ suc a = omega (arith, near) in s) in rw m (omega arith))
    (λ lt. let m : max a b + 1 ≡ suc (suc b) = omega (arith, near) in let f : least a ≡ least (suc b) = ap least (let s : a ≡ suc b = omega (arith, near) in s) in rw m (omega arith)))
    (cases_order a b)

module _ {K V : Type 0} where
  pub least_size : (t : Tree K V) → Avl t → least (tall t) ≤ length (inorder t)
  least_size leaf h = omega arith
  least_size (node x l r) h = omega (arith, least_node (tall l) (tall r) h.0, least_size l h.1, least_size r h.2, length-append (inorder l) (x ∷ inorder r))

  -- no balanced tree of a listed height has fewer nodes than the list says
  listed_size : (t : Tree K V) → Avl t → tall t < 16 → get_or counts (tall t) 0 ≤ length (inorder t)
  listed_size t h low = omega (arith, counted (tall t) low, least_size t h)

  -- nor has one of any height, where the list says nothing beyond its end
  pub fewest_nodes : (t : Tree K V) (n : Option ℕ) → Avl t → n ≡ slice_get counts (tall t) → Fewest n (length (inorder t))
  fewest_nodes t n h is =
      subst (λ (m : Option ℕ). Fewest m (length (inorder t))) (sym is)
      (⊎_elim
      (λ low. subst (λ (m : Option ℕ). Fewest m (length (inorder t))) (sym (slice_get-get_or counts (tall t) 0 low)) (listed_size t h low))
      (λ high. subst (λ (m : Option ℕ). Fewest m (length (inorder t))) (sym (slice_get_past counts (tall t) high)) tt)
      (cases_lt (tall t) 16))

  pub size_tall : (t : Tree K V) → Avl t → length (inorder t) ≤ 1024 → tall t ≤ 14
  size_tall t h few =
      ⊎_elim
      (λ lt. omega arith)
      (λ ge. let more : get_or counts 15 0 ≤ least (tall t) = let e : (tall t - 15) + 15 ≡ tall t = omega arith in omega (arith, counted 15 (omega arith), ap least e, least_more 15 (tall t - 15)) in absurd (omega (arith, least_size t h)))
      (cases_lt (tall t) 15)

  -- how many items stand at places below n
  pub upto : ℕ → List (Item K V) → ℕ
  upto zero items = 0
  upto (suc n) items = uses n items + upto n items

  upto_cons : (n : ℕ) (x : Item K V) (xs : List (Item K V)) → upto n (x ∷ xs) ≡ upto n (x ∷ []) + upto n xs
  unfolding upto
  upto_cons zero x xs = refl
  upto_cons (suc n) x xs = omega (arith, upto_cons n x xs)

  upto_none : (n : ℕ) (x : Item K V) → n ≤ x.at → upto n (x ∷ []) ≡ 0
  unfolding upto
  upto_none zero x h = refl
  upto_none (suc n) x h = omega (arith, upto_none n x (omega arith), one_off n x.at (λ e. omega arith))

  upto_one : (n : ℕ) (x : Item K V) → x.at < n → upto n (x ∷ []) ≡ 1
  unfolding upto
  upto_one zero x h = absurd (omega arith)
  upto_one (suc n) x h =
      ⊎_elim
      (λ e. omega (arith, upto_none n x (omega arith), ap (λ (k : ℕ). one k x.at) e, one_at x.at))
      (λ ne. omega (arith, one_off n x.at ne, upto_one n x (omega arith)))
      (cases_eq n x.at)

  upto_nil : (n : ℕ) (items : List (Item K V)) → items ≡ [] → upto n items ≡ 0
  unfolding upto
  upto_nil zero items e = refl
  upto_nil (suc n) items e = omega (arith, ap (uses n) e, upto_nil n items e)

  pub upto_all : (n : ℕ) (items : List (Item K V)) → Each (λ (x : Item K V). x.at < n) items → upto n items ≡ length items
  upto_all n [] h = upto_nil n [] refl
  upto_all n (x ∷ xs) h = omega (arith, upto_cons n x xs, upto_one n x h.0, upto_all n xs h.1)

  upto_le : (n : ℕ) (items : List (Item K V)) → Once items → upto n items ≤ n
  unfolding upto
  upto_le zero items once = omega arith
  upto_le (suc n) items once = omega (arith, once n, upto_le n items once)

  pub upto_full : (n : ℕ) (items : List (Item K V)) → ((j : ℕ) → j < n → uses j items ≡ 1) → upto n items ≡ n
  unfolding upto
  upto_full zero items h = refl
  upto_full (suc n) items h = omega (arith, h n (omega arith), upto_full n items (λ j k. h j (omega arith)))

  pub each_held : (xs : List (Node K V)) (t : Tree K V) → Rep xs t → Each (λ (x : Item K V). x.at < length xs) (inorder t)
  each_held xs leaf h = tt
  each_held xs (node x l r) h = each_append _ (inorder l) (x ∷ inorder r) (each_held xs l h.2) (slice_get_within xs x.at _ h.1, each_held xs r h.3)

  -- the items of a tree that a slice holds are no more than its records
  pub few_items : (xs : List (Node K V)) (t : Tree K V) → Rep xs t → Once (inorder t) → length (inorder t) ≤ length xs
  few_items xs t h once = omega (arith, upto_all (length xs) (inorder t) (each_held xs t h), upto_le (length xs) (inorder t) once)

  pub held_tall : (xs : List (Node K V)) (t : Tree K V) → Rep xs t → Once (inorder t) → Avl t → length xs ≤ 1024 → tall t ≤ 14
  held_tall xs t h once avl short = size_tall t avl (omega (arith, few_items xs t h once))
