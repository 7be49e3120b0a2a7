-- A run of sectors granted out of a free extent: whether there is one, and what the two ends that stay free are.
use Rattle.std.proofs.Common.{◌≡◌, ℕ, zero, suc, ◌+◌, ◌-◌, ◌<◌, ◌≤◌, Bool, true, false, ltb, leb, ◌⊎◌, Option, None, Some, length, sym, refl, ap, ◌∙◌, subst, inl, inr, arith}
use mathlib.Core.Path.{fun_ext}
use Rattle.std.proofs.lemmas.Bool.{or_left, or_right, cases_eq, cases_lt, cases_Bool, leb-true, leb-false}
use Rattle.std.proofs.lemmas.Bool.Decides.{nat_tests}
use Rattle.std.specs.Prelude.{MatchOption}
use Rattle.std.specs.Bool.{then_some}
use Rattle.slab_log.specs.Sectors.{Sectors, used, meets, runs}
use Rattle.slab_log.specs.Replay.{grant, give_back}
use Rattle.slab_log.proofs.Steps.{none_meets}
use Rattle.table.specs.Pairs.{pair, without}
use Rattle.space.specs.Extents.{Starts, free_of, Spaced, in_list}
use Rattle.space.specs.declared.run.SectorRun.{SectorRun}
use Rattle.space.specs.Tables.{Previous, LastBefore, Clear}
use Rattle.space.proofs.Spaced.{lies, filled, apart, holder, behind, same_len}
use Rattle.space.proofs.Changed.{with_extent, put_spaced, put_free, without_spaced, without_free, without_length}
use Rattle.space.proofs.Counted.{runs_free}
use Rattle.space.proofs.Lengths.{length_put}

-- a sector of the extent that is in the set
pub meets_some : (set : Sectors) (start n s : ℕ) → start ≤ s → s < start + n → set s ≡ true → meets set start n ≡ true
meets_some set start zero s p q h = absurd (omega arith)
meets_some set start (suc n) s p q h =
    elim (cases_eq s (start + n)) [
      | inl e ↦ or_left (set (start + n)) (meets set start n) (ap set (sym e) ∙ h)
      | inr ne ↦ or_right (set (start + n)) (meets set start n) (meets_some set start n s p (omega arith) h)
    ]

module _ (size : ℕ) (es : Starts) (h : Spaced 0 size es) where
  -- a sector is free exactly where the highest extent that begins at or before it reaches it
  pub past_previous : (sector : ℕ) (e : SectorRun) → Previous es sector e.start e.len → (s : ℕ) → e.start + e.len ≤ s → s < sector → free_of es s ≡ false
  past_previous sector e p s from below =
      elim (cases_Bool (free_of es s)) [
        | inl t ↦
            let x = holder es s t in
            let start-from = x.from in
            let start-to = x.to in
            let high = p.highest x.start x.len x.listed (omega arith) in
            elim (cases_eq x.start e.start) [
              | inl same ↦
                  let long = same_len 0 size es h x.start x.len e.start e.len x.listed p.listed same in
                  absurd (omega arith)
              | inr other ↦
                  let gap = behind 0 size es h x.start x.len e.start e.len x.listed p.listed (omega arith) in
                  absurd (omega arith)
            ]
        | inr f ↦ f
      ]

  pub before_all : (sector : ℕ) → ((s l : ℕ) → in_list s l es ≡ true → sector ≤ s) → (s : ℕ) → s < sector → free_of es s ≡ false
  before_all sector none s below =
      elim (cases_Bool (free_of es s)) [
        | inl t ↦
            let x = holder es s t in
            let from = x.from in
            let late = none x.start x.len x.listed in
            absurd (omega arith)
        | inr f ↦ f
      ]

  used_there : (s : ℕ) → s < size → free_of es s ≡ false → used size (free_of es) s ≡ true
  used_there s l f = grind (arith, nat_tests)

  -- no free extent begins at or before the run
  pub none_holds : (start len : ℕ) → 1 ≤ len → start + len ≤ size → ((s l : ℕ) → in_list s l es ≡ true → start + 1 ≤ s) →
      meets (used size (free_of es)) start len ≡ true
  none_holds start len some fits none =
      meets_some (used size (free_of es)) start len start (omega arith) (omega arith) (used_there start (omega arith) (before_all (start + 1) none start (omega arith)))

  -- the one that does ends before the run does
  pub short_holds : (start len : ℕ) (e : SectorRun) → 1 ≤ len → start + len ≤ size → Previous es (start + 1) e.start e.len → e.start + e.len < start + len →
      meets (used size (free_of es)) start len ≡ true
  short_holds start len e some fits p short =
      let at = p.before in
      elim (cases_lt start (e.start + e.len)) [
        | inl l ↦
            meets_some (used size (free_of es)) start len (e.start + e.len) (omega arith) short
            (used_there (e.start + e.len) (omega arith) (apart 0 size es h e.start e.len p.listed (e.start + e.len) (inr refl)))
        | inr l ↦
            meets_some (used size (free_of es)) start len start (omega arith) (omega arith)
            (used_there start (omega arith) (past_previous (start + 1) e p start l (omega arith)))
      ]

  -- so the last that begins at or before the run holds it, or a sector of the run is in use
  pub holds_is : (start len : ℕ) → 1 ≤ len → start + len ≤ size → (o kept : Option SectorRun) → LastBefore es (start + 1) o →
      MatchOption o (kept ≡ None) (λ e. kept ≡ then_some (leb (start + len) (e.start + e.len)) e) →
      MatchOption kept (meets (used size (free_of es)) start len ≡ true)
      (λ e. (in_list e.start e.len es ≡ true) × (e.start ≤ start) × (start + len ≤ e.start + e.len))
  holds_is start len some fits None kept none k = rw k (none_holds start len some fits none)
  holds_is start len some fits (Some e) kept p k = rw k (go (leb (start + len) (e.start + e.len)) refl)
    where
      go : (b : Bool) → leb (start + len) (e.start + e.len) ≡ b → MatchOption (then_some b e) (meets (used size (free_of es)) start len ≡ true)
          (λ x. (in_list x.start x.len es ≡ true) × (x.start ≤ start) × (start + len ≤ x.start + x.len))
      go true t = let before = p.before in (p.listed, omega arith, leb-true _ _ t)
      go false t = short_holds start len e some fits p (leb-false _ _ t)

  module _ (k v : ℕ) (i : in_list k v es ≡ true) (start len : ℕ) (some : 1 ≤ len) (low : k ≤ start) (high : start + len ≤ k + v) where
    inside : (s : ℕ) → k ≤ s → s < k + v → free_of es s ≡ true
    inside s p q = filled 0 size es h k v i s p q

    beside : (s : ℕ) → (s + 1 ≡ k) ⊎ (s ≡ k + v) → free_of es s ≡ false
    beside s b = apart 0 size es h k v i s b

    pub all_free : meets (used size (free_of es)) start len ≡ false
    all_free = none_meets (used size (free_of es)) start len (λ s p q. let t = inside s (omega arith) (omega arith) in grind (arith, nat_tests))

    abbrev pub emptied : Sectors
    emptied = grant (free_of es) k v

    abbrev pub with_front : Sectors
    with_front = give_back emptied k (start - k)

    pub front_clear : 1 ≤ start - k → Clear emptied k (start - k)
    front_clear one s p q =
        let off : s + 1 ≡ k → free_of es s ≡ false = λ e. beside s (inl e) in
        grind (arith, nat_tests)

    pub back_clear : 1 ≤ (k + v) - (start + len) → Clear with_front (start + len) ((k + v) - (start + len))
    back_clear one s p q =
        let off : s ≡ k + v → free_of es s ≡ false = λ e. beside s (inr e) in
        grind (arith, nat_tests)

    pub cut_is : give_back with_front (start + len) ((k + v) - (start + len)) ≡ grant (free_of es) start len
    cut_is = fun_ext (λ s. let t = inside s in grind (arith, nat_tests))

    -- with both ends left there is one extent more
    pub both_ends : k < start → start + len < k + v → runs (grant (free_of es) start len) size ≡ length es + 1
    both_ends front back =
        let at = lies 0 size es h k v i in
        let within = at.within in
        let none = without ltb k es in
        let one = with_extent k (start - k) none in
        let two = with_extent (start + len) ((k + v) - (start + len)) one in
        let none_free : free_of none ≡ emptied = fun_ext (without_free k v 0 size es h i) in
        let one_free : free_of one ≡ with_front = fun_ext (put_free k (start - k) none) ∙ ap (λ f. give_back f k (start - k)) none_free in
        let two-free : free_of two ≡ grant (free_of es) start len =
        fun_ext (put_free (start + len) ((k + v) - (start + len)) one) ∙ (ap (λ f. give_back f (start + len) ((k + v) - (start + len))) one_free ∙ cut_is) in
        let none-spaced : Spaced 0 size none = without_spaced k v 0 size es h in
        let one-spaced : Spaced 0 size one =
        put_spaced k (start - k) 0 size none none-spaced (omega arith) (omega arith) (omega arith) (subst (λ f. Clear f k (start - k)) (sym none_free) (front_clear (omega arith))) in
        let two-spaced : Spaced 0 size two =
        put_spaced (start + len) ((k + v) - (start + len)) 0 size one one-spaced (omega arith) (omega arith) (omega arith)
        (subst (λ f. Clear f (start + len) ((k + v) - (start + len))) (sym one_free) (back_clear (omega arith))) in
        let counts : runs (free_of two) size ≡ length two = runs_free 0 size two two-spaced in
        let a = length_put ltb (pair k (start - k)) none in
        let b = length_put ltb (pair (start + len) ((k + v) - (start + len))) one in
        let c = without_length k v 0 size es h i in
        ap (λ f. runs f size) (sym two-free) ∙ (counts ∙ omega arith)
