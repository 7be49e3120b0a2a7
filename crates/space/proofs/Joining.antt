-- A run of sectors made free: it grows together with the free extents beside it.
use Rattle.std.proofs.Common.{◌≡◌, ℕ, ◌+◌, ◌-◌, ◌<◌, ◌≤◌, min, Bool, ◌||◌, true, false, ltb, Option, None, Some, length, sym, refl, ap, ◌∙◌, subst, inl, inr, arith}
use mathlib.Core.Path.{fun_ext}
use Rattle.std.proofs.lemmas.Bool.{cases_lt, cases_Bool, both_ways, lt-ltb, le-ltb, ltb-true, ltb-false}
use Rattle.std.proofs.lemmas.Bool.Decides.{nat_tests}
use Rattle.std.specs.Prelude.{MatchOption}
use Rattle.slab_log.specs.Sectors.{Sectors, Run, meets, runs}
use Rattle.slab_log.specs.Replay.{grant, give_back}
use Rattle.slab_log.proofs.Steps.{none_meets, meets_none, to_T, to_not_T}
use Rattle.table.specs.Pairs.{pair, without}
use Rattle.space.specs.Extents.{Starts, free_of, Spaced, in_list}
use Rattle.space.specs.declared.run.SectorRun.{SectorRun}
use Rattle.space.specs.Tables.{Previous, LastBefore, FirstFrom, Clear, LeftEdge, RightEdge}
use Rattle.space.proofs.Spaced.{lies, filled, apart, listed_run}
use Rattle.space.proofs.Changed.{with_extent, put_spaced, put_free, without_spaced, without_free, without_length}
use Rattle.space.proofs.Counted.{runs_free}
use Rattle.space.proofs.Lengths.{length_put}
use Rattle.space.proofs.Cutting.{meets_some, past_previous, before_all}

-- the list without an extent, unless that is empty
record Less (size : ℕ) (es : Starts) (a n : ℕ) : Type 0 where
  list : Starts
  spaced : Spaced 0 size list
  sectors : free_of list ≡ grant (free_of es) a n
  fewer : length list + min n 1 ≡ length es

less : (size : ℕ) (es : Starts) → Spaced 0 size es → (a n : ℕ) → (1 ≤ n → in_list a n es ≡ true) → Less size es a n
less size es h a n listed =
    elim (cases_lt 0 n) [
      | inl l ↦
          let i = listed l in
          let shorter = without_length a n 0 size es h i in
          record { list = without ltb a es; spaced = without_spaced a n 0 size es h; sectors = fun_ext (without_free a n 0 size es h i); fewer = omega arith }
      | inr l ↦ record { list = es; spaced = h; sectors = fun_ext (λ s. grind (arith, nat_tests)); fewer = omega arith }
    ]

module _ (size : ℕ) (es : Starts) (h : Spaced 0 size es) where
  -- a sector of a run is free exactly where the highest extent that begins before its end reaches into it
  pub reached : (start len : ℕ) (e : SectorRun) → 1 ≤ len → Previous es (start + len) e.start e.len → start < e.start + e.len → meets (free_of es) start len ≡ true
  reached start len e some p l =
      let at = p.before in
      let there = lies 0 size es h e.start e.len p.listed in
      elim (cases_lt start e.start) [
        | inl k ↦ meets_some (free_of es) start len e.start (omega arith) at (filled 0 size es h _ _ p.listed e.start (omega arith) (omega (arith, there.some)))
        | inr k ↦ meets_some (free_of es) start len start (omega arith) (omega arith) (filled 0 size es h _ _ p.listed start k l)
      ]

  pub unreached : (start len : ℕ) (e : SectorRun) → Previous es (start + len) e.start e.len → e.start + e.len ≤ start → meets (free_of es) start len ≡ false
  unreached start len e p l =
      none_meets (free_of es) start len (λ s a b. past_previous size es h (start + len) e p s (omega arith) b)

  pub nothing_reaches : (start len : ℕ) → ((s l : ℕ) → in_list s l es ≡ true → start + len ≤ s) → meets (free_of es) start len ≡ false
  nothing_reaches start len none = none_meets (free_of es) start len (λ s a b. before_all size es h (start + len) none s b)

  -- so a test of that extent says whether a sector of the run is free
  pub reaches_is : (start len : ℕ) → 1 ≤ len → (o : Option SectorRun) → LastBefore es (start + len) o → (b : Bool) →
      MatchOption o (b ≡ false) (λ e. b ≡ ltb start (e.start + e.len)) → b ≡ meets (free_of es) start len
  reaches_is start len some None none b is = is ∙ sym (nothing_reaches start len none)
  reaches_is start len some (Some e) p b is =
      elim (cases_lt start (e.start + e.len)) [
        | inl l ↦ is ∙ (lt-ltb _ _ l ∙ sym (reached start len e some p l))
        | inr l ↦ is ∙ (le-ltb _ _ l ∙ sym (unreached start len e p l))
      ]

  -- the first free extent from the run's start, where it does not begin in the run, is the first from its end
  begins_behind : (start len : ℕ) (f : Option SectorRun) → FirstFrom es start f → (y : Bool) → MatchOption f (y ≡ false) (λ e. y ≡ ltb e.start (start + len)) → y ≡ false →
      (s l : ℕ) → in_list s l es ≡ true → s < start + len → s < start
  begins_behind start len None none y is off s l i below = none s l i
  begins_behind start len (Some e) n y is off s l i below =
      elim (cases_lt s start) [
        | inl k ↦ k
        | inr k ↦ let low = n.lowest s l i k in let past = ltb-false e.start (start + len) (sym is ∙ off) in absurd (omega arith)
      ]

  last_to_end : (start len : ℕ) (b : Option SectorRun) → LastBefore es start b → ((s l : ℕ) → in_list s l es ≡ true → s < start + len → s < start) → LastBefore es (start + len) b
  last_to_end start len None none behind = λ s l i.
      elim (cases_lt s (start + len)) [ inl k ↦ let low = none s l i in let before = behind s l i k in absurd (omega arith) | inr k ↦ k ]
  last_to_end start len (Some e) p behind =
      let before = p.before in
      record { listed = p.listed; before = omega arith; highest = λ s l i k. p.highest s l i (behind s l i k) }

  first_from_end : (start len : ℕ) (f : Option SectorRun) → FirstFrom es start f → (y : Bool) → MatchOption f (y ≡ false) (λ e. y ≡ ltb e.start (start + len)) → y ≡ false →
      FirstFrom es (start + len) f
  first_from_end start len None none y is off = λ s l i. omega (arith, none s l i)
  first_from_end start len (Some e) n y is off =
      record { listed = n.listed; from = ltb-false e.start (start + len) (sym is ∙ off); lowest = λ s l i k. n.lowest s l i (omega arith) }

  begins_in : (start len : ℕ) (f : Option SectorRun) → FirstFrom es start f → (y : Bool) → MatchOption f (y ≡ false) (λ e. y ≡ ltb e.start (start + len)) → y ≡ true →
      meets (free_of es) start len ≡ true
  begins_in start len None none y is on = absurd (both_ways y is on)
  begins_in start len (Some e) n y is on =
      let there = lies 0 size es h e.start e.len n.listed in
      meets_some (free_of es) start len e.start n.from (ltb-true e.start (start + len) (sym is ∙ on))
      (filled 0 size es h _ _ n.listed e.start (omega arith) (omega (arith, there.some)))

  -- so the two extents beside the start of a run say what lies around the run
  module _ (start len : ℕ) (some : 1 ≤ len) (b f : Option SectorRun) (before : LastBefore es start b) (from : FirstFrom es start f) (x y : Bool)
      (x-is : MatchOption b (x ≡ false) (λ e. x ≡ ltb start (e.start + e.len))) (y-is : MatchOption f (y ≡ false) (λ e. y ≡ ltb e.start (start + len))) where
    pub met_is : (x || y) ≡ meets (free_of es) start len
    met_is = go y refl
      where
        go : (c : Bool) → y ≡ c → (x || c) ≡ meets (free_of es) start len
        go true on = (grind arith) ∙ sym (begins_in start len f from y y-is on)
        go false off = grind arith ∙ reaches_is start len some b (last_to_end start len b before (begins_behind start len f from y y-is off)) x x-is

    pub behind_is : meets (free_of es) start len ≡ false → FirstFrom es (start + len) f
    behind_is none =
        elim (cases_Bool y) [
          | inl on ↦ absurd (both_ways _ none (begins_in start len f from y y-is on))
          | inr off ↦ first_from_end start len f from y y-is off
        ]

  module _ (start len first last : ℕ) (some : 1 ≤ len) (fits : start + len ≤ size) (none : meets (free_of es) start len ≡ false)
      (left : LeftEdge es start first) (right : RightEdge es (start + len) last) where
    gap : (s : ℕ) → start ≤ s → s < start + len → free_of es s ≡ false
    gap s p q = meets_none (free_of es) start len none s p q

    -- the sectors beside the grown extent, and those in it
    before_it : (s : ℕ) → s + 1 ≡ first → free_of es s ≡ false
    before_it s e =
        elim (cases_lt first start) [
          | inl l ↦ apart 0 size es h first (start - first) (left.listed l) s (inl e)
          | inr l ↦ left.alone (gap start (omega arith) (omega arith)) (omega (arith, left.low)) s (omega (arith, left.low))
        ]

    after_it : free_of es last ≡ false
    after_it =
        elim (cases_lt (start + len) last) [
          | inl l ↦ apart 0 size es h (start + len) (last - (start + len)) (right.listed l) last (inr (omega arith))
          | inr l ↦ let is : last ≡ start + len = omega (arith, right.high) in ap (free_of es) is ∙ right.alone (start + len - 1) (omega arith) (gap (start + len - 1) (omega arith) (omega arith)) is
        ]

    on_left : (s : ℕ) → first ≤ s → s < start → free_of es s ≡ true
    on_left s p q = filled 0 size es h first (start - first) (left.listed (omega arith)) s p (omega (arith, left.low))

    on_right : (s : ℕ) → start + len ≤ s → s < last → free_of es s ≡ true
    on_right s p q = filled 0 size es h (start + len) (last - (start + len)) (right.listed (omega arith)) s p (omega (arith, right.high))

    abbrev pub without_left : Sectors
    without_left = grant (free_of es) first (start - first)

    abbrev pub without_both : Sectors
    without_both = grant without_left (start + len) (last - (start + len))

    pub right_stays : start + len < last → Run without_left (start + len) (last - (start + len))
    right_stays l =
        let low = left.low in
        record {
          some = omega arith;
          filled = λ s p q. let t = on_right s p (omega arith) in to_T (grind (arith, nat_tests));
          before = λ s e. let off = gap s (omega arith) (omega arith) in to_not_T (grind (arith, nat_tests));
          after = to_not_T (let is : start + len + (last - (start + len)) ≡ last = omega arith in ap without_left is ∙ grown after_it);
        }
      where
        grown : free_of es last ≡ false → without_left last ≡ false
        grown off = grind (arith, nat_tests)

    pub joined_clear : Clear without_both first (last - first)
    joined_clear s p q =
        let low = left.low in
        let high = right.high in
        let off = before_it s in
        let mid = gap s in
        let end : s ≡ last → free_of es s ≡ false = λ e. ap (free_of es) e ∙ after_it in
        grind (arith, nat_tests)

    pub joined_is : give_back without_both first (last - first) ≡ give_back (free_of es) start len
    joined_is =
        fun_ext (λ s.
        let low = left.low in
        let high = right.high in
        let l = on_left s in
        let r = on_right s in
        grind (arith, nat_tests))

    -- one free extent more, less those that it grows together with
    pub joined_count : runs (give_back (free_of es) start len) size + min (start - first) 1 + min (last - (start + len)) 1 ≡ length es + 1
    joined_count =
        let one = less size es h first (start - first) (λ l. left.listed (omega arith)) in
        let stays : 1 ≤ last - (start + len) → in_list (start + len) (last - (start + len)) one.list ≡ true =
        λ l. listed_run 0 size one.list one.spaced (start + len) (last - (start + len)) (subst (λ f. Run f (start + len) (last - (start + len))) (sym one.sectors) (right_stays (omega arith))) in
        let two = less size one.list one.spaced (start + len) (last - (start + len)) stays in
        let emptied : free_of two.list ≡ without_both = two.sectors ∙ ap (λ f. grant f (start + len) (last - (start + len))) one.sectors in
        let low = left.low in
        let high = right.high in
        let within : last ≤ size =
        elim (cases_lt (start + len) last) [ inl l ↦ omega (arith, (lies 0 size es h _ _ (right.listed l)).within) | inr l ↦ fits_in l fits ] in
        let new = with_extent first (last - first) two.list in
        let spaced : Spaced 0 size new =
        put_spaced first (last - first) 0 size two.list two.spaced (omega arith) (omega arith) (omega arith) (subst (λ f. Clear f first (last - first)) (sym emptied) joined_clear) in
        let new-free : free_of new ≡ give_back (free_of es) start len =
        fun_ext (put_free first (last - first) two.list) ∙ (ap (λ f. give_back f first (last - first)) emptied ∙ joined_is) in
        let counts : runs (give_back (free_of es) start len) size ≡ length new = ap (λ f. runs f size) (sym new-free) ∙ runs_free 0 size new spaced in
        let more = length_put ltb (pair first (last - first)) two.list in
        omega (arith, one.fewer, two.fewer)
      where
        fits_in : last ≤ start + len → start + len ≤ size → last ≤ size
        fits_in l f = omega arith
