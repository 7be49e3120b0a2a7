-- The words of each kind, counted word by word.
use Rattle.std.proofs.Common.{◌≡◌, ℕ, ◌+◌, ◌≤◌, Bool, true, false, cond, List, [], ◌∷◌, length, Ok, Err, Result, sym, ap, arith}
use Rattle.slab_log.specs.Words.{read}
use Rattle.slab_log.specs.declared.entry.Entry.{Entry}
use Rattle.slab_log.specs.declared.fault.Fault.{Fault}
use Rattle.disk_slab.specs.Audits.{Kind, is_entry, one, tally, allocating, freeing, debugging, Tallies, Tallied}
use Rattle.disk_slab.specs.declared.figures.Tally.{Tally}

one_most : (kind : Kind) (r : Result Entry Fault) → one kind r ≤ 1
one_most kind (Err f) = omega arith
one_most kind (Ok e) = go (is_entry kind e)
  where
    go : (b : Bool) → cond b 1 0 ≤ 1
    go true = omega arith
    go false = omega arith

-- what has been counted, with what is left, is the whole; and no more of a kind than words have gone
pub record Sofar (words left : List ℕ) (t : Tally) : Type 0 where
  pub allocated : t.allocating + tally allocating left ≡ tally allocating words
  pub freed : t.freeing + tally freeing left ≡ tally freeing words
  pub debugged : t.debug + tally debugging left ≡ tally debugging words
  pub few_allocated : t.allocating + length left ≤ length words
  pub few_freed : t.freeing + length left ≤ length words
  pub few_debugged : t.debug + length left ≤ length words

pub sofar_none : (words left : List ℕ) → left ≡ words → Sofar words left (record { allocating = 0; freeing = 0; debug = 0 })
sofar_none words left is =
    let same : (k : Kind) → tally k left ≡ tally k words = λ k. ap (tally k) is in
    let long = ap length is in
    record {
      allocated = omega (arith, same allocating);
      freed = omega (arith, same freeing);
      debugged = omega (arith, same debugging);
      few_allocated = omega arith;
      few_freed = omega arith;
      few_debugged = omega arith;
    }

module _ (words left rest : List ℕ) (w : ℕ) (t : Tally) (cut : left ≡ w ∷ rest) (s : Sofar words left t) where
  pub sofar_more : (after : Tally) → Tallied t w after → Sofar words rest after
  sofar_more after d =
      let part : (k : Kind) → one k (read w) + tally k rest ≡ tally k left = λ k. sym (ap (tally k) cut) in
      let long = ap length cut in
      record {
        allocated = omega (arith, part allocating, d.allocates, s.allocated);
        freed = omega (arith, part freeing, d.frees, s.freed);
        debugged = omega (arith, part debugging, d.debugs, s.debugged);
        few_allocated = omega (arith, d.allocates, one_most allocating (read w), s.few_allocated);
        few_freed = omega (arith, d.frees, one_most freeing (read w), s.few_freed);
        few_debugged = omega (arith, d.debugs, one_most debugging (read w), s.few_debugged);
      }

pub sofar_all : (words left : List ℕ) (t : Tally) → left ≡ [] → Sofar words left t → Tallies words t
sofar_all words left t none s =
    let nothing : (k : Kind) → tally k left ≡ 0 = λ k. ap (tally k) none in
    record {
      allocating_words = omega (arith, nothing allocating, s.allocated);
      freeing_words = omega (arith, nothing freeing, s.freed);
      debug_words = omega (arith, nothing debugging, s.debugged);
    }
