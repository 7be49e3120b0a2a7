-- The free extents that lie beside a sector.
use Rattle.std.proofs.Common.{◌≡◌, ℕ, ◌+◌, ◌-◌, ◌≤◌, Bool, true, false, Some, None, Option, ◌==◌, sym, refl, ap, ◌∙◌, subst, inl, inr, arith}
use Rattle.std.proofs.lemmas.Bool.{both_ways, cases_Bool, cases_eq, cases_lt}
use Rattle.std.proofs.lemmas.Bool.Decides.{nat_tests}
use Rattle.std.specs.Prelude.{MatchOption}
use Rattle.std.specs.Bool.{then_some}
use Rattle.space.specs.Extents.{Starts, free_of, Spaced, in_list}
use Rattle.space.specs.declared.run.SectorRun.{SectorRun}
use Rattle.space.specs.Tables.{Previous, LastBefore, Next, FirstFrom, LeftEdge, RightEdge}
use Rattle.space.proofs.Spaced.{lies, filled, holder}
use Rattle.space.proofs.Cutting.{past_previous, before_all}

module _ (size : ℕ) (es : Starts) (h : Spaced 0 size es) where
  pub right_some : (end : ℕ) (e : SectorRun) → Next es end e.start e.len → e.start ≡ end → RightEdge es end (e.start + e.len)
  right_some end e n meet =
      let some = (lies 0 size es h e.start e.len n.listed).some in
      let is : (e.start + e.len) - end ≡ e.len = omega arith in
      record {
        high = omega arith;
        listed = λ l. ap (λ k. in_list end k es) is ∙ ap (λ k. in_list k e.len es) (sym meet) ∙ n.listed;
        alone = λ s e off same. absurd (omega arith);
        alone_first = λ same z. absurd (omega arith);
      }

  pub right_none : (end : ℕ) → ((l : ℕ) → in_list end l es ≡ true → ⊥) → RightEdge es end end
  right_none end none =
      record {
        high = omega arith;
        listed = λ l. absurd (omega arith);
        alone = λ s e off same. elim (cases_Bool (free_of es end)) [
          | inl t ↦
              let x = holder es end t in
              let from = x.from in
              let to = x.to in
              elim (cases_eq x.start end) [
                | inl k ↦ absurd (none x.len (ap (λ z. in_list z x.len es) (sym k) ∙ x.listed))
                | inr k ↦ absurd (both_ways _ off (filled 0 size es h x.start x.len x.listed s (omega arith) (omega arith)))
              ]
          | inr g ↦ g
        ];
        alone_first = λ same z. elim (cases_Bool (free_of es end)) [
          | inl t ↦
              let x = holder es end t in
              let from = x.from in
              let k : x.start ≡ end = omega arith in
              absurd (none x.len (ap (λ z. in_list z x.len es) (sym k) ∙ x.listed))
          | inr g ↦ g
        ];
      }

  pub left_none : (start : ℕ) → ((s l : ℕ) → in_list s l es ≡ true → start ≤ s) → LeftEdge es start start
  left_none start none =
      record {
        low = omega arith;
        listed = λ l. absurd (omega arith);
        alone = λ off same s e. before_all size es h start none s (omega arith);
      }

  pub left_some : (start : ℕ) (e : SectorRun) → Previous es start e.start e.len → e.start + e.len ≡ start → LeftEdge es start e.start
  left_some start e p meet =
      let is : start - e.start ≡ e.len = omega arith in
      let before = p.before in
      record {
        low = omega arith;
        listed = λ l. ap (λ k. in_list e.start k es) is ∙ p.listed;
        alone = λ off same. absurd (omega arith);
      }

  pub left_apart : (start : ℕ) (e : SectorRun) → Previous es start e.start e.len → (e.start + e.len ≡ start → ⊥) → LeftEdge es start start
  left_apart start e p meet =
      let before = p.before in
      record {
        low = omega arith;
        listed = λ l. absurd (omega arith);
        alone = λ off same s k. elim (cases_lt start (e.start + e.len)) [
          | inl l ↦ absurd (both_ways _ off (filled 0 size es h e.start e.len p.listed start (omega arith) l))
          | inr l ↦ past_previous size es h start e p s (omega arith) (omega arith)
        ];
      }

  -- so the extent found on either side, where a test of it holds, says the edge
  pub left_is : (start : ℕ) (o kept : Option SectorRun) → LastBefore es start o →
      MatchOption o (kept ≡ None) (λ e. kept ≡ then_some ((e.start + e.len) == start) e) → (first : ℕ) →
      MatchOption kept (first ≡ start) (λ e. first ≡ e.start) → LeftEdge es start first
  left_is start None kept none k first is =
      let same : first ≡ start = subst (λ o. MatchOption o (first ≡ start) (λ e. first ≡ e.start)) k is in
      subst (LeftEdge es start) (sym same) (left_none start none)
  left_is start (Some e) kept p k first is = go ((e.start + e.len) == start) refl (subst (λ o. MatchOption o (first ≡ start) (λ x. first ≡ x.start)) k is)
    where
      go : (b : Bool) → ((e.start + e.len) == start) ≡ b → MatchOption (then_some b e) (first ≡ start) (λ x. first ≡ x.start) → LeftEdge es start first
      go true t is = subst (LeftEdge es start) (sym is) (left_some start e p (grind (arith, nat_tests)))
      go false t is = subst (LeftEdge es start) (sym is) (left_apart start e p (λ meet. grind (arith, nat_tests)))

  pub right_is : (end : ℕ) (o kept : Option SectorRun) → FirstFrom es end o →
      MatchOption o (kept ≡ None) (λ e. kept ≡ then_some (e.start == end) e) → (last : ℕ) →
      MatchOption kept (last ≡ end) (λ e. last ≡ e.start + e.len) → RightEdge es end last
  right_is end None kept none k last is =
      let same : last ≡ end = subst (λ o. MatchOption o (last ≡ end) (λ e. last ≡ e.start + e.len)) k is in
      subst (RightEdge es end) (sym same) (right_none end (λ l i. let below = none end l i in omega arith))
  right_is end (Some e) kept n k last is = go (e.start == end) refl (subst (λ o. MatchOption o (last ≡ end) (λ x. last ≡ x.start + x.len)) k is)
    where
      go : (b : Bool) → (e.start == end) ≡ b → MatchOption (then_some b e) (last ≡ end) (λ x. last ≡ x.start + x.len) → RightEdge es end last
      go true t is = subst (RightEdge es end) (sym is) (right_some end e n (grind (arith, nat_tests)))
      go false t is =
          let from = n.from in
          subst (RightEdge es end) (sym is) (right_none end (λ l i. let low = n.lowest end l i in let apart : e.start ≡ end → ⊥ = (λ meet. grind (arith, nat_tests)) in apart (omega arith)))
