-- The chain of unused records: kept where other records change, and lengthened by one record.
use Rattle.std.proofs.Common.{◌≡◌, ℕ, ◌+◌, ◌<◌, ◌≤◌, List, [], ◌∷◌, length, set, Some, refl, ap, ◌∙◌, ⊎_elim, arith}
use Rattle.std.specs.List.{slice_get}
use Rattle.std.proofs.lemmas.List.{length-set}
use Rattle.std.proofs.lemmas.Bool.{cases_eq}
use Rattle.std.proofs.lemmas.Option.{slice_get_within}
use Rattle.table.specs.declared.node.Node.{Node}
use Rattle.table.specs.Pairs.{Each}
use Rattle.table.specs.Tree.{Item, none, one, uses}
use Rattle.table.specs.Edit.{item}
use Rattle.table.specs.Parts.{front_at}
use Rattle.table.specs.Sound.{spare, Chain}
use Rattle.table.proofs.Model.{nth_set_same, nth_set_other, one_at, one_off}

module _ {K V : Type 0} where
  pub chain_frame : (xs ys : List (Node K V)) (us : List (Item K V)) → ((j : ℕ) → 1 ≤ uses j us → slice_get ys j ≡ slice_get xs j) → Chain xs us → Chain ys us
  chain_frame xs ys [] same h = tt
  chain_frame xs ys (x ∷ us) same h = (h.0, same x.at (omega (arith, one_at x.at)) ∙ h.1, chain_frame xs ys us (λ j u. same j (omega arith)) h.2)

  -- the places of a chain are within the records
  pub chain_held : (xs : List (Node K V)) (us : List (Item K V)) → Chain xs us → Each (λ (x : Item K V). x.at < length xs) us
  chain_held xs [] h = tt
  chain_held xs (x ∷ us) h = (slice_get_within xs x.at _ h.1, chain_held xs us h.2)

  module _ (xs : List (Node K V)) (at next : ℕ) (n : Node K V) (us : List (Item K V)) (read : slice_get xs at ≡ Some n) (linkable : at < none) (off : uses at us ≡ 0) (begins : next ≡ front_at us) (chained : Chain xs us) where
    pub chain_more : Chain (set xs at (spare n.key n.value next)) (item at n.key n.value ∷ us)
    chain_more =
        let m : Node K V = spare n.key n.value next in (
          linkable,
          nth_set_same xs at m (slice_get_within xs at n read) ∙ ap (λ (l : ℕ). Some (spare n.key n.value l)) begins,
          chain_frame xs (set xs at m) us (λ j u. nth_set_other xs at j m (λ e. omega (arith, ap (λ (i : ℕ). uses i us) e))) chained,
        )

  -- the records from i on are chained
  pub record Chaining (xs : List (Node K V)) (i unused : ℕ) : Type 0 where
    pub us : List (Item K V)
    pub chained : Chain xs us
    pub begins : unused ≡ front_at us
    pub within : i ≤ length xs
    pub low : (j : ℕ) → j < i → uses j us ≡ 0
    pub high : (j : ℕ) → i ≤ j → j < length xs → uses j us ≡ 1

  pub none_chained : (xs : List (Node K V)) → Chaining xs (length xs) none
  none_chained xs = record { us = []; chained = tt; begins = refl; within = omega arith; low = λ j h. refl; high = λ j h k. absurd (omega arith) }

  pub one_chained : (xs : List (Node K V)) (d i unused : ℕ) (n : Node K V) → d ≡ i + 1 → i < none → slice_get xs i ≡ Some n → Chaining xs d unused → Chaining (set xs i (spare n.key n.value unused)) i i
  one_chained xs d i unused n more linkable read h =
      record {
        us = item i n.key n.value ∷ h.us;
        chained = chain_more xs i unused n h.us read linkable (h.low i (omega arith)) h.begins h.chained;
        begins = refl;
        within = rw (length-set xs i (spare n.key n.value unused)) (omega (arith, h.within));
        low = λ j k. omega (arith, h.low j (omega arith), one_off j i (λ e. omega arith));
        high = λ j k l.
            let long : length (set xs i (spare n.key n.value unused)) ≡ length xs = length-set xs i _ in
            ⊎_elim
            (λ e. omega (arith, h.low j (omega arith), ap (λ (q : ℕ). one q i) e, one_at i))
            (λ ne. omega (arith, one_off j i ne, h.high j (omega (arith, ne)) (omega arith)))
            (cases_eq j i);
      }
