-- Lists of extents with gaps between them: what is free in them, and that their extents are the longest runs.
use Rattle.std.proofs.Common.{◌≡◌, ℕ, ◌+◌, ◌-◌, ◌<◌, ◌≤◌, true, false, ◌&&◌, eqb, ltb, leb, ◌⊎◌, [], ◌∷◌, sym, refl, ap, ◌∙◌, inl, inr, arith}
use Rattle.std.proofs.lemmas.Bool.{and_parts, and_from, or_cases, or_left, or_right, eqb-true, eq-eqb, ltb-true, leb-true, cases_order, both_ways}
use Rattle.std.proofs.lemmas.Bool.Decides.{nat_tests}
use Rattle.slab_log.specs.Sectors.{Run, covers}
use Rattle.slab_log.proofs.Steps.{from_T, to_T, to_not_T}
use Rattle.slab_log.proofs.Unique.{same_length}
use Rattle.table.specs.declared.node.Entry.{Entry}
use Rattle.space.specs.Extents.{Starts, free_of, total, Spaced, in_list}

-- nothing is free below the lowest start, or from the size on
pub free_below : (low size : ℕ) (es : Starts) → Spaced low size es → (s : ℕ) → s < low → free_of es s ≡ false
free_below low size [] h s l = refl
free_below low size (e ∷ es) h s l =
    let ih = free_below (e.key + e.value + 1) size es h.3 s (omega arith) in
    grind (arith, nat_tests)

pub free_past : (low size : ℕ) (es : Starts) → Spaced low size es → (s : ℕ) → size ≤ s → free_of es s ≡ false
free_past low size [] h s l = refl
free_past low size (e ∷ es) h s l =
    let ih = free_past (e.key + e.value + 1) size es h.3 s l in
    grind (arith, nat_tests)

pub lower : (low below size : ℕ) (es : Starts) → below ≤ low → Spaced low size es → Spaced below size es
lower low below size [] l h = tt
lower low below size (e ∷ es) l h = (omega arith, h.1, h.2, h.3)

-- where an extent of the list lies
pub record Lies (low size start len : ℕ) : Type 0 where
  pub from : low ≤ start
  pub some : 1 ≤ len
  pub within : start + len ≤ size

-- an extent of a list is its first, or one of the rest
pub first_or_rest : (start len : ℕ) (e : Entry ℕ ℕ) (es : Starts) → in_list start len (e ∷ es) ≡ true →
    ((start ≡ e.key) × (len ≡ e.value)) ⊎ (in_list start len es ≡ true)
first_or_rest start len e es h =
    elim (or_cases (eqb start e.key && eqb len e.value) (in_list start len es) h) [
      | inl here ↦ let both = and_parts (eqb start e.key) (eqb len e.value) here in inl (eqb-true _ _ both.0, eqb-true _ _ both.1)
      | inr there ↦ inr there
    ]

pub lies : (low size : ℕ) (es : Starts) → Spaced low size es → (start len : ℕ) → in_list start len es ≡ true → Lies low size start len
lies low size [] h start len i = absurd (both_ways false refl i)
lies low size (e ∷ es) h start len i =
    elim (first_or_rest start len e es i) [
      | inl here ↦ record { from = omega arith; some = omega arith; within = omega arith }
      | inr there ↦
          let ih = lies (e.key + e.value + 1) size es h.3 start len there in
          record { from = omega arith; some = ih.some; within = ih.within }
    ]

-- every sector of an extent of the list is free
pub filled : (low size : ℕ) (es : Starts) → Spaced low size es → (start len : ℕ) → in_list start len es ≡ true →
    (s : ℕ) → start ≤ s → s < start + len → free_of es s ≡ true
filled low size [] h start len i s p q = absurd (both_ways false refl i)
filled low size (e ∷ es) h start len i s p q =
    elim (first_or_rest start len e es i) [
      | inl here ↦ grind (arith, nat_tests)
      | inr there ↦
          let ih = filled (e.key + e.value + 1) size es h.3 start len there s p q in
          or_right (covers e.key e.value s) (free_of es s) ih
    ]

-- the sectors just before and after it are not
pub apart : (low size : ℕ) (es : Starts) → Spaced low size es → (start len : ℕ) → in_list start len es ≡ true →
    (s : ℕ) → (s + 1 ≡ start) ⊎ (s ≡ start + len) → free_of es s ≡ false
apart low size [] h start len i s b = refl
apart low size (e ∷ es) h start len i s b =
    elim (first_or_rest start len e es i) [
      | inl here ↦
          let off = free_below (e.key + e.value + 1) size es h.3 s in
          grind (arith, nat_tests)
      | inr there ↦
          let ih = apart (e.key + e.value + 1) size es h.3 start len there s b in
          let at = lies (e.key + e.value + 1) size es h.3 start len there in
          let from = at.from in
          grind (arith, nat_tests)
    ]

-- so it is a longest run
pub run_there : (low size : ℕ) (es : Starts) → Spaced low size es → (start len : ℕ) → in_list start len es ≡ true → Run (free_of es) start len
run_there low size es h start len i =
    record {
      some = (lies low size es h start len i).some;
      filled = λ s p q. to_T (filled low size es h start len i s p q);
      before = λ p e. to_not_T (apart low size es h start len i p (inl e));
      after = to_not_T (apart low size es h start len i (start + len) (inr refl));
    }

-- a free sector lies in an extent of the list
pub record Holder (es : Starts) (s : ℕ) : Type 0 where
  pub start : ℕ
  pub len : ℕ
  pub listed : in_list start len es ≡ true
  pub from : start ≤ s
  pub to : s < start + len

pub holder : (es : Starts) (s : ℕ) → free_of es s ≡ true → Holder es s
holder [] s h = absurd (both_ways false refl h)
holder (e ∷ es) s h =
    elim (or_cases (covers e.key e.value s) (free_of es s) h) [
      | inl here ↦
          let both = and_parts (leb e.key s) (ltb s (e.key + e.value)) here in
          record {
            start = e.key;
            len = e.value;
            listed = or_left _ (in_list e.key e.value es) (and_from _ _ (eq-eqb e.key e.key refl) (eq-eqb e.value e.value refl));
            from = leb-true _ _ both.0;
            to = ltb-true _ _ both.1;
          }
      | inr there ↦
          let ih = holder es s there in
          record { start = ih.start; len = ih.len; listed = or_right _ (in_list ih.start ih.len es) ih.listed; from = ih.from; to = ih.to }
    ]

-- and every longest run is an extent of the list
pub listed_run : (low size : ℕ) (es : Starts) → Spaced low size es → (start len : ℕ) → Run (free_of es) start len → in_list start len es ≡ true
listed_run low size es h start len r =
    let some : 0 < len = r.some in
    let x = holder es start (from_T (r.filled start (omega arith) (omega arith))) in
    let from = x.from in
    let to = x.to in
    let run : Run (free_of es) x.start x.len = run_there low size es h x.start x.len x.listed in
    let same : x.start ≡ start =
    elim (cases_order x.start start) [
      | inl e ↦ e
      | inr (inl l) ↦ absurd (r.before (start - 1) (omega arith) (run.filled (start - 1) (omega arith) (omega arith)))
      | inr (inr l) ↦ absurd (omega arith)
    ] in
    let long : x.len ≡ len = same_length (free_of es) x.start start x.len len same run r in
    ap (λ k. in_list k len es) (sym same) ∙ (ap (λ k. in_list x.start k es) (sym long) ∙ x.listed)

-- an extent that begins after another lies behind it, with a gap
pub behind : (low size : ℕ) (es : Starts) → Spaced low size es → (a n b m : ℕ) → in_list a n es ≡ true → in_list b m es ≡ true → a < b → a + n < b
behind low size es h a n b m i j l =
    let some = (lies low size es h b m j).some in
    elim (cases_order (a + n) b) [
      | inl e ↦ absurd (both_ways _ (apart low size es h a n i b (inr (sym e))) (filled low size es h b m j b (omega arith) (omega arith)))
      | inr (inl k) ↦ k
      | inr (inr k) ↦ absurd (both_ways _ (apart low size es h b m j (b - 1) (inl (omega arith))) (filled low size es h a n i (b - 1) (omega arith) (omega arith)))
    ]

-- two extents with one start are one
pub same_len : (low size : ℕ) (es : Starts) → Spaced low size es → (a n b m : ℕ) → in_list a n es ≡ true → in_list b m es ≡ true → a ≡ b → n ≡ m
same_len low size es h a n b m i j e =
    same_length (free_of es) a b n m e (run_there low size es h a n i) (run_there low size es h b m j)

-- the extents have no more sectors than the slab
pub total_most : (low size : ℕ) (es : Starts) → Spaced low size es → total es ≤ size - low
total_most low size [] h = omega arith
total_most low size (e ∷ es) h = let ih = total_most (e.key + e.value + 1) size es h.3 in omega arith
