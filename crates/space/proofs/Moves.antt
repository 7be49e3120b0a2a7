-- One extent put into both lists of extents, or taken out of both: what holds of the lists then.
use Rattle.std.proofs.Common.{◌≡◌, ℕ, ◌+◌, ◌-◌, ◌<◌, ◌≤◌, Bool, true, false, cond, ltb, [], ◌∷◌, length, Option, sym, refl, ap, ◌∙◌, subst, inl, inr, zero-add, arith}
use mathlib.Core.Path.{fun_ext}
use Rattle.std.proofs.lemmas.Bool.{both_ways, or_cases, not_from_false, and_from, lt-ltb}
use Rattle.std.proofs.lemmas.Bool.Decides.{nat_tests}
use Rattle.slab_log.specs.Sectors.{whole}
use Rattle.slab_log.specs.Replay.{grant, give_back}
use Rattle.table.specs.Order.{shorter}
use Rattle.table.specs.Pairs.{Ordered, pair, put, without, find, alike, has, Inserts, Removes, Replaces}
use Rattle.space.specs.Extents.{Starts, Lengths, free_of, total, Spaced, in_list, span, Twins}
use Rattle.space.specs.Tables.{Clear}
use Rattle.space.proofs.Spaced.{filled}
use Rattle.space.proofs.Changed.{with_extent, put_spaced, put_free, put_total, without_spaced, without_free, without_total, without_length}
use Rattle.space.proofs.Lengths.{put_twins, without_twins, length_put, length_without}

-- what holds of the lists of a space
pub record Held (size free : ℕ) (es : Starts) (ls : Lengths) : Type 0 where
  pub spaced : Spaced 0 size es
  pub twins : Twins es ls
  pub level : length ls ≡ length es
  pub counted : free ≡ total es

-- a start of the list is a free sector
key_free : (low size : ℕ) (es : Starts) (a : ℕ) → Spaced low size es → has ltb a es ≡ true → free_of es a ≡ true
key_free low size [] a h i = absurd (both_ways false refl i)
key_free low size (e ∷ es) a h i =
    elim (or_cases (alike ltb a e.key) (has ltb a es) i) [
      | inl here ↦ grind (arith, nat_tests)
      | inr there ↦
          let ih = key_free (e.key + e.value + 1) size es a h.3 there in
          grind (arith, nat_tests)
    ]

not_true_false : (b : Bool) → (b ≡ true → ⊥) → b ≡ false
not_true_false true h = absurd (h refl)
not_true_false false h = refl

module _ (size free a n : ℕ) (es es' : Starts) (ls ls' : Lengths) (h : Held size free es ls) where
  pub record Put : Type 0 where
    pub held : Held size (free + n) es' ls'
    pub sectors : free_of es' ≡ give_back (free_of es) a n
    pub more : length es' ≡ length es + 1

  pub put_both : 1 ≤ n → a + n ≤ size → Clear (free_of es) a n → length es < 1024 → (b c : Bool) → Inserts ltb es es' (pair a n) b →
      Inserts shorter ls ls' (pair (span a n) tt) c → Put
  put_both some fits clear few b c x y =
      let empty : free_of es a ≡ false = clear a (omega arith) (omega arith) in
      let fresh : has ltb a es ≡ false = not_true_false _ (λ t. both_ways _ empty (key_free 0 size es a h.spaced t)) in
      let unlisted : in_list a n es ≡ false =
      not_true_false _ (λ t. both_ways _ empty (filled 0 size es h.spaced a n t a (omega arith) (omega arith))) in
      let level = h.level in
      let absent : has shorter (span a n) ls ≡ false = sym (h.twins a n) ∙ unlisted in
      let taken : b ≡ true = x.takes ∙ and_from _ _ (not_from_false _ fresh) (lt-ltb _ _ few) in
      let kept : c ≡ true = y.takes ∙ and_from _ _ (not_from_false _ absent) (lt-ltb _ _ (omega arith)) in
      let is : es' ≡ with_extent a n es = x.leaves ∙ ap (λ t. cond t (with_extent a n es) es) taken in
      let also : ls' ≡ put shorter (pair (span a n) tt) ls = y.leaves ∙ ap (λ t. cond t (put shorter (pair (span a n) tt) ls) ls) kept in
      let long : length es' ≡ length es + 1 = ap length is ∙ length_put ltb (pair a n) es in
      record {
        held = record {
          spaced = subst (Spaced 0 size) (sym is) (put_spaced a n 0 size es h.spaced (omega arith) some fits clear);
          twins = subst (λ u. Twins u ls') (sym is) (subst (Twins (with_extent a n es)) (sym also) (put_twins a n es ls tt h.twins));
          level = (ap length also ∙ length_put shorter (pair (span a n) tt) ls) ∙ (ap (λ k. k + 1) level ∙ sym long);
          counted = ap (λ k. k + n) h.counted ∙ (sym (put_total a n es) ∙ ap total (sym is));
        };
        sectors = ap free_of is ∙ fun_ext (put_free a n es);
        more = long;
      }

  pub record Taken : Type 0 where
    pub few : n ≤ free
    pub held : (k : ℕ) → k + n ≡ free → Held size k es' ls'
    pub sectors : free_of es' ≡ grant (free_of es) a n
    pub fewer : length es' + 1 ≡ length es

  pub take_both : in_list a n es ≡ true → Ordered shorter ls → (r : Option ℕ) (q : Option (Unit {0})) → Removes ltb es es' a r →
      Removes shorter ls ls' (span a n) q → Taken
  take_both i ordered r q x y =
      let is : es' ≡ without ltb a es = x.leaves in
      let also : ls' ≡ without shorter (span a n) ls = y.leaves in
      let sum = without_total a n 0 size es h.spaced i in
      let counted = h.counted in
      let level = h.level in
      let long : length es' + 1 ≡ length es = ap (λ u. length u + 1) is ∙ without_length a n 0 size es h.spaced i in
      let there : has shorter (span a n) ls ≡ true = sym (h.twins a n) ∙ i in
      let shorter-by : length ls' + 1 ≡ length ls = ap (λ u. length u + 1) also ∙ length_without (span a n) ls there in
      let left : total es' ≡ total (without ltb a es) = ap total is in
      record {
        few = omega arith;
        held = λ k e. record {
          spaced = subst (Spaced 0 size) (sym is) (without_spaced a n 0 size es h.spaced);
          twins = subst (λ u. Twins u ls') (sym is) (subst (Twins (without ltb a es)) (sym also) (without_twins 0 size a n es ls h.spaced ordered i h.twins));
          level = omega arith;
          counted = omega arith;
        };
        sectors = ap free_of is ∙ fun_ext (without_free a n 0 size es h.spaced i);
        fewer = long;
      }

-- one extent in place of another
module _ (size free a n b m : ℕ) (es es' : Starts) (ls mid ls' : Lengths) (h : Held size free es ls) where
  pub record Exchanged : Type 0 where
    pub few : n ≤ free
    pub held : Held size (free - n + m) es' ls'
    pub sectors : free_of es' ≡ give_back (grant (free_of es) a n) b m
    pub level : length es' ≡ length es

  pub exchange_both : in_list a n es ≡ true → Ordered shorter ls → length es ≤ 1024 → 1 ≤ m → b + m ≤ size → Clear (grant (free_of es) a n) b m → (t c : Bool) → t ≡ true →
      Replaces ltb es es' a (pair b m) t → (q : Option (Unit {0})) → Removes shorter ls mid (span a n) q → Inserts shorter mid ls' (pair (span b m) tt) c → Exchanged
  exchange_both i ordered most some fits clear t c took x q y z =
      let rest : Starts = without ltb a es in
      let out : Taken size free a n es rest ls mid h = take_both size free a n es rest ls mid h i ordered (find ltb a es) q (record { answers = refl; leaves = refl }) y in
      let few = out.few in
      let fewer = out.fewer in
      let held = out.held (free - n) (omega arith) in
      let apart = subst (λ f. Clear f b m) (sym out.sectors) clear in
      let empty : free_of rest b ≡ false = apart b (omega arith) (omega arith) in
      let fresh : has ltb b rest ≡ false = not_true_false _ (λ on. both_ways _ empty (key_free 0 size rest b held.spaced on)) in
      let room : length rest < 1024 = omega arith in
      let into : Inserts ltb rest es' (pair b m) true = record { takes = sym (and_from _ _ (not_from_false _ fresh) (lt-ltb _ _ room)); leaves = x.leaves ∙ ap (λ v. cond v (put ltb (pair b m) rest) es) took } in
      let put = put_both size (free - n) b m rest es' mid ls' held some fits apart room true c into z in
      let more = put.more in
      record { few = few; held = put.held; sectors = put.sectors ∙ ap (λ f. give_back f b m) out.sectors; level = omega arith }

-- the extent of a whole slab, put into empty lists
pub record Begun (n : ℕ) (es : Starts) (ls : Lengths) : Type 0 where
  pub held : Held n n es ls
  pub sectors : free_of es ≡ whole n

pub first_extent : (n : ℕ) (es es' : Starts) (ls ls' : Lengths) (b c : Bool) → 1 ≤ n → es ≡ [] → ls ≡ [] → Inserts ltb es es' (pair 0 n) b →
    Inserts shorter ls ls' (pair (span 0 n) tt) c → Begun n es' ls'
first_extent n es es' ls ls' b c some none also x y =
    let base : Held n 0 [] [] = record { spaced = tt; twins = λ s l. refl; level = refl; counted = refl } in
    let before : Held n 0 es ls = subst (λ u. Held n 0 u ls) (sym none) (subst (λ v. Held n 0 [] v) (sym also) base) in
    let off : (s : ℕ) → free_of es s ≡ false = λ s. ap (λ u. free_of u s) none in
    let p = put_both n 0 0 n es es' ls ls' before some (omega arith) (λ s k l. off s) (omega (arith, ap length none)) b c x y in
    let q = p.held in
    record {
      held = record { spaced = q.spaced; twins = q.twins; level = q.level; counted = sym (zero-add n) ∙ q.counted };
      sectors = p.sectors ∙ fun_ext (λ s. let f = off s in grind (arith, nat_tests));
    }
