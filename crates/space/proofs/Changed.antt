-- One extent put into a list of extents with gaps between them, or taken out of it.
use Rattle.std.proofs.Common.{◌≡◌, ℕ, ◌+◌, ◌-◌, ◌<◌, ◌≤◌, Bool, true, false, cond, not, ◌&&◌, ◌||◌, eqb, ltb, ◌⊎◌, [], ◌∷◌, length, refl, inl, inr, arith}
use Rattle.std.proofs.lemmas.Bool.{ltb-true, ltb-false, both_ways}
use Rattle.std.proofs.lemmas.Bool.Decides.{nat_tests}
use Rattle.slab_log.specs.Sectors.{covers}
use Rattle.slab_log.specs.Replay.{grant, give_back}
use Rattle.table.specs.declared.node.Entry.{Entry}
use Rattle.table.specs.Pairs.{pair, put, without, alike}
use Rattle.space.specs.Extents.{Starts, free_of, total, Spaced, in_list}
use Rattle.space.specs.Tables.{Clear}
use Rattle.space.proofs.Spaced.{free_below, lower, lies, first_or_rest}

abbrev pub with_extent : ℕ → ℕ → Starts → Starts
with_extent start len es = put ltb (pair start len) es

module _ (a n : ℕ) where
  pub put_spaced : (low size : ℕ) (es : Starts) → Spaced low size es → low ≤ a → 1 ≤ n → a + n ≤ size → Clear (free_of es) a n → Spaced low size (with_extent a n es)
  put_spaced low size [] h l some fits clear = (l, some, fits, tt)
  put_spaced low size (e ∷ es) h l some fits clear = go (put_spaced (e.key + e.value + 1) size es h.3) (ltb a e.key) refl
    where
      rest : Clear (free_of es) a n
      rest s p q = let here = clear s p q in grind (arith, nat_tests)

      go : (e.key + e.value + 1 ≤ a → 1 ≤ n → a + n ≤ size → Clear (free_of es) a n → Spaced (e.key + e.value + 1) size (with_extent a n es)) →
          (b : Bool) → ltb a e.key ≡ b → Spaced low size (cond b (pair a n ∷ e ∷ es) (e ∷ with_extent a n es))
      go later true t =
          let before = ltb-true a e.key t in
          let first = clear e.key in
          let behind : a + n + 1 ≤ e.key = grind (arith, nat_tests) in
          (l, some, fits, (behind, h.1, h.2, h.3))
      go later false t =
          let from = ltb-false a e.key t in
          let there = clear a in
          let beside = clear (a - 1) in
          let behind : e.key + e.value + 1 ≤ a = grind (arith, nat_tests) in
          (h.0, h.1, h.2, later behind some fits rest)

  pub put_free : (es : Starts) (s : ℕ) → free_of (with_extent a n es) s ≡ give_back (free_of es) a n s
  put_free [] s = grind (arith, nat_tests)
  put_free (e ∷ es) s = go (ltb a e.key) (put_free es s)
    where
      go : (b : Bool) → free_of (with_extent a n es) s ≡ give_back (free_of es) a n s →
          free_of (cond b (pair a n ∷ e ∷ es) (e ∷ with_extent a n es)) s ≡ give_back (free_of (e ∷ es)) a n s
      go true ih = swap (covers a n s) (free_of (e ∷ es) s)
        where
          swap : (x y : Bool) → (x || y) ≡ (y || x)
          swap x y = grind arith
      go false ih = rw ih (regroup (covers e.key e.value s) (free_of es s) (covers a n s))
        where
          regroup : (x y z : Bool) → (x || (y || z)) ≡ ((x || y) || z)
          regroup x y z = grind arith

  pub put_total : (es : Starts) → total (with_extent a n es) ≡ total es + n
  put_total [] = omega arith
  put_total (e ∷ es) = go (ltb a e.key) (put_total es)
    where
      go : (b : Bool) → total (with_extent a n es) ≡ total es + n → total (cond b (pair a n ∷ e ∷ es) (e ∷ with_extent a n es)) ≡ total (e ∷ es) + n
      go true ih = omega arith
      go false ih = omega arith

  pub put_listed : (es : Starts) (start len : ℕ) → in_list start len (with_extent a n es) ≡ ((eqb start a && eqb len n) || in_list start len es)
  put_listed [] start len = refl
  put_listed (e ∷ es) start len = go (ltb a e.key) (put_listed es start len)
    where
      go : (b : Bool) → in_list start len (with_extent a n es) ≡ ((eqb start a && eqb len n) || in_list start len es) →
          in_list start len (cond b (pair a n ∷ e ∷ es) (e ∷ with_extent a n es)) ≡ ((eqb start a && eqb len n) || in_list start len (e ∷ es))
      go true ih = refl
      go false ih = rw ih (swap (eqb start e.key && eqb len e.value) (eqb start a && eqb len n) (in_list start len es))
        where
          swap : (x y z : Bool) → (x || (y || z)) ≡ (y || (x || z))
          swap x y z = grind arith

-- the first extent's start is the one, or an extent of that start is among the rest
module _ (a n : ℕ) where
  record Split (e : Entry ℕ ℕ) (es : Starts) : Type 0 where
    test : alike ltb a e.key ≡ false
    there : in_list a n es ≡ true

  split : (low size : ℕ) (e : Entry ℕ ℕ) (es : Starts) → Spaced low size (e ∷ es) → in_list a n (e ∷ es) ≡ true →
      ((alike ltb a e.key ≡ true) × (a ≡ e.key) × (n ≡ e.value)) ⊎ Split e es
  split low size e es h i =
      elim (first_or_rest a n e es i) [
        | inl here ↦ inl (grind (arith, nat_tests), here.0, here.1)
        | inr there ↦
            let at = lies (e.key + e.value + 1) size es h.3 a n there in
            let from = at.from in
            inr (record { test = grind (arith, nat_tests); there = there })
      ]

  pub without_spaced : (low size : ℕ) (es : Starts) → Spaced low size es → Spaced low size (without ltb a es)
  without_spaced low size [] h = tt
  without_spaced low size (e ∷ es) h = go (alike ltb a e.key) (without_spaced (e.key + e.value + 1) size es h.3)
    where
      go : (b : Bool) → Spaced (e.key + e.value + 1) size (without ltb a es) → Spaced low size (cond b es (e ∷ without ltb a es))
      go true ih = lower (e.key + e.value + 1) low size es (omega arith) h.3
      go false ih = (h.0, h.1, h.2, ih)

  pub without_free : (low size : ℕ) (es : Starts) → Spaced low size es → in_list a n es ≡ true → (s : ℕ) →
      free_of (without ltb a es) s ≡ grant (free_of es) a n s
  without_free low size [] h i s = absurd (both_ways false refl i)
  without_free low size (e ∷ es) h i s =
      elim (split low size e es h i) [
        | inl here ↦
            let off = free_below (e.key + e.value + 1) size es h.3 s in
            rw (here.0, here.1, here.2) (first off)
        | inr there ↦
            let ih = without_free (e.key + e.value + 1) size es h.3 there.there s in
            let at = lies (e.key + e.value + 1) size es h.3 a n there.there in
            rw (there.test, ih) (other at.from)
      ]
    where
      first : (s < e.key + e.value + 1 → free_of es s ≡ false) → free_of es s ≡ grant (free_of (e ∷ es)) e.key e.value s
      first off = grind (arith, nat_tests)

      other : e.key + e.value + 1 ≤ a → (covers e.key e.value s || grant (free_of es) a n s) ≡ grant (free_of (e ∷ es)) a n s
      other from = grind (arith, nat_tests)

  pub without_total : (low size : ℕ) (es : Starts) → Spaced low size es → in_list a n es ≡ true → total (without ltb a es) + n ≡ total es
  without_total low size [] h i = absurd (both_ways false refl i)
  without_total low size (e ∷ es) h i =
      elim (split low size e es h i) [
        | inl here ↦ rw here.0 (omega arith)
        | inr there ↦
            let ih = without_total (e.key + e.value + 1) size es h.3 there.there in
            rw there.test (omega arith)
      ]

  pub without_length : (low size : ℕ) (es : Starts) → Spaced low size es → in_list a n es ≡ true → length (without ltb a es) + 1 ≡ length es
  without_length low size [] h i = absurd (both_ways false refl i)
  without_length low size (e ∷ es) h i =
      elim (split low size e es h i) [
        | inl here ↦ rw here.0 (omega arith)
        | inr there ↦
            let ih = without_length (e.key + e.value + 1) size es h.3 there.there in
            rw there.test (omega arith)
      ]

  pub without_listed : (low size : ℕ) (es : Starts) → Spaced low size es → in_list a n es ≡ true → (start len : ℕ) →
      in_list start len (without ltb a es) ≡ (not (eqb start a && eqb len n) && in_list start len es)
  without_listed low size [] h i start len = absurd (both_ways false refl i)
  without_listed low size (e ∷ es) h i start len =
      elim (split low size e es h i) [
        | inl here ↦
            let none : in_list start len es ≡ true → e.key + e.value + 1 ≤ start = λ j. (lies (e.key + e.value + 1) size es h.3 start len j).from in
            rw (here.0, here.1, here.2) (first (in_list start len es) none)
        | inr there ↦
            let ih = without_listed (e.key + e.value + 1) size es h.3 there.there start len in
            let at = lies (e.key + e.value + 1) size es h.3 a n there.there in
            rw (there.test, ih) (other (in_list start len es) at.from)
      ]
    where
      first : (b : Bool) → (b ≡ true → e.key + e.value + 1 ≤ start) →
          b ≡ (not (eqb start e.key && eqb len e.value) && ((eqb start e.key && eqb len e.value) || b))
      first b none = grind (arith, nat_tests)

      other : (b : Bool) → e.key + e.value + 1 ≤ a →
          ((eqb start e.key && eqb len e.value) || (not (eqb start a && eqb len n) && b))
          ≡ (not (eqb start a && eqb len n) && ((eqb start e.key && eqb len e.value) || b))
      other b from = grind (arith, nat_tests)
