-- The runs of used sectors, between the free extents.
use Rattle.std.proofs.Common.{◌≡◌, ℕ, zero, suc, ◌+◌, ◌-◌, ◌<◌, ◌≤◌, Bool, true, false, ltb, leb, ◌==◌, not, ◌&&◌, Option, None, Some, sym, refl, ap, ◌∙◌, inl, inr, arith}
use Rattle.std.proofs.lemmas.Bool.{cases_Bool, cases_lt, both_ways, ltb-true, ltb-false, leb-true, leb-false}
use Rattle.std.proofs.lemmas.Bool.Decides.{nat_tests}
use Rattle.std.specs.Prelude.{MatchOption}
use Rattle.std.specs.Bool.{then_some}
use Rattle.slab_log.specs.Sectors.{Sectors, Run, used, begins}
use Rattle.slab_log.proofs.Steps.{to_T, to_not_T, run_ends}
use Rattle.space.specs.Extents.{Starts, free_of, Spaced, in_list}
use Rattle.space.specs.declared.run.SectorRun.{SectorRun}
use Rattle.space.specs.Tables.{LastBefore, Next, FirstFrom, RightEdge, UsedFrom, FreeTo, UsedTo, Passes}
use Rattle.space.proofs.Cutting.{past_previous, before_all}
use Rattle.space.proofs.Edges.{right_is}
use Rattle.space.proofs.Spaced.{lies, filled, apart, holder}

pub begins_on : (set : Sectors) (s : ℕ) → begins set s ≡ true → set s ≡ true
begins_on set zero h = h
begins_on set (suc s) h = grind (arith, nat_tests)

pub begins_after : (set : Sectors) (s p : ℕ) → begins set s ≡ true → p + 1 ≡ s → set p ≡ false
begins_after set zero p h e = absurd (omega arith)
begins_after set (suc s) p h e = let is : p ≡ s = omega arith in ap set is ∙ last (set (suc s)) (set s) h
  where
    last : (a b : Bool) → (a && not b) ≡ true → b ≡ false
    last a b h = grind arith

off_begins : (set : Sectors) (s : ℕ) → set s ≡ false → begins set s ≡ false
off_begins set zero h = h
off_begins set (suc s) h = grind (arith, nat_tests)

-- a sector whose predecessor is in the set begins no run
after_begins : (set : Sectors) (s p : ℕ) → p + 1 ≡ s → set p ≡ true → begins set s ≡ false
after_begins set zero p e h = absurd (omega arith)
after_begins set (suc s) p e h = let on : set s ≡ true = ap set (omega arith) ∙ h in last (set (suc s)) (set s) on
  where
    last : (a b : Bool) → b ≡ true → (a && not b) ≡ false
    last a b h = grind arith

first_begins : (set : Sectors) (s p : ℕ) → p + 1 ≡ s → set s ≡ true → set p ≡ false → begins set s ≡ true
first_begins set zero p e on off = absurd (omega arith)
first_begins set (suc s) p e on off = let o : set s ≡ false = ap set (omega arith) ∙ off in rw (on, o)

module _ (size : ℕ) (es : Starts) (h : Spaced 0 size es) where
  abbrev inuse : Sectors
  inuse = used size (free_of es)

  free_not_used : (s : ℕ) → free_of es s ≡ true → inuse s ≡ false
  free_not_used s f = grind (arith, nat_tests)

  not_free_used : (s : ℕ) → s < size → free_of es s ≡ false → inuse s ≡ true
  not_free_used s l f = grind (arith, nat_tests)

  -- the run behind a free extent
  pub behind_free : (sector : ℕ) (k v : ℕ) → in_list k v es ≡ true → sector ≤ k + v →
      ((s : ℕ) → sector ≤ s → s < k → begins inuse s ≡ false) → UsedFrom inuse size sector (k + v)
  behind_free sector k v i from quiet =
      let some = (lies 0 size es h k v i).some in
      record {
        from = from;
        quiet = λ s p q. elim (cases_lt s k) [
          | inl l ↦ quiet s p l
          | inr l ↦ off_begins inuse s (free_not_used s (filled 0 size es h k v i s l q))
        ];
        here = λ l. first_begins inuse (k + v) (k + v - 1) (omega arith) (not_free_used (k + v) l (apart 0 size es h k v i (k + v) (inr refl)))
            (free_not_used (k + v - 1) (filled 0 size es h k v i (k + v - 1) (omega arith) (omega arith)));
      }

  -- from the first sector on
  pub at_zero : (last : ℕ) → RightEdge es 0 last → UsedFrom inuse size 0 last
  at_zero last right =
      elim (cases_lt 0 last) [
        | inl l ↦
            let b = behind_free 0 0 (last - 0) (right.listed l) (omega arith) (λ s p q. absurd (omega arith)) in
            let is : 0 + (last - 0) ≡ last = omega arith in
            rw is at b
        | inr l ↦
            let is : last ≡ 0 = omega arith in
            record {
              from = omega arith;
              quiet = λ s p q. absurd (omega arith);
              here = λ k. zeroth last is (not_free_used last k (ap (free_of es) is ∙ right.alone_first is refl));
            }
      ]
    where
      zeroth : (n : ℕ) → n ≡ 0 → inuse n ≡ true → begins inuse n ≡ true
      zeroth zero e on = on
      zeroth (suc n) e on = absurd (omega arith)

  -- with the sector before in use, and no free extent up to a bound, nothing begins up to it
  still : (sector bound : ℕ) → 1 ≤ sector → free_of es (sector - 1) ≡ false → ((s l : ℕ) → in_list s l es ≡ true → sector ≤ s → bound ≤ s) →
      (t : ℕ) → sector ≤ t + 1 → t < bound → free_of es t ≡ false
  still sector bound one off far t from below =
      elim (cases_Bool (free_of es t)) [
        | inl f ↦
            let x = holder es t f in
            let low = x.from in
            let high = x.to in
            elim (cases_lt x.start sector) [
              | inl l ↦ absurd (both_ways _ off (filled 0 size es h x.start x.len x.listed (sector - 1) (omega arith) (omega arith)))
              | inr l ↦ let past = far x.start x.len x.listed l in absurd (omega arith)
            ]
        | inr f ↦ f
      ]

  quiet_to : (sector bound : ℕ) → 1 ≤ sector → bound ≤ size → free_of es (sector - 1) ≡ false → ((s l : ℕ) → in_list s l es ≡ true → sector ≤ s → bound ≤ s) →
      (s : ℕ) → sector ≤ s → s < bound → begins inuse s ≡ false
  quiet_to sector bound one within off far s p q =
      after_begins inuse s (s - 1) (omega arith) (not_free_used (s - 1) (omega arith) (still sector bound one off far (s - 1) (omega arith) (omega arith)))

  pub after_next : (sector : ℕ) (e : SectorRun) → 1 ≤ sector → free_of es (sector - 1) ≡ false → Next es sector e.start e.len → UsedFrom inuse size sector (e.start + e.len)
  after_next sector e one off n =
      let at = lies 0 size es h e.start e.len n.listed in
      let from = n.from in
      behind_free sector e.start e.len n.listed (omega arith)
      (λ s p q. quiet_to sector e.start one (omega (arith, at.within)) off (λ a b i k. n.lowest a b i k) s p q)

  -- without a free extent from the sector on no run begins there
  quiet_from : (sector : ℕ) → 1 ≤ sector → free_of es (sector - 1) ≡ false → ((s l : ℕ) → in_list s l es ≡ true → s < sector) →
      (s : ℕ) → sector ≤ s → begins inuse s ≡ false
  quiet_from sector one off none s p =
      elim (cases_lt s size) [
        | inl l ↦ quiet_to sector size one (omega arith) off (λ a b i k. let z = none a b i in absurd (omega arith)) s p l
        | inr l ↦ off_begins inuse s (grind (arith, nat_tests))
      ]

  further : (sector : ℕ) → 1 ≤ sector → free_of es (sector - 1) ≡ false → (o : Option SectorRun) (end : Option ℕ) → FirstFrom es sector o →
      MatchOption o (end ≡ None) (λ e. end ≡ Some (e.start + e.len)) → FreeTo inuse size sector end
  further sector one off None end none is = rw is (quiet_from sector one off none)
  further sector one off (Some e) end n is = rw is (after_next sector e one off n)

  -- so the last free extent before the sector, where it reaches the sector, or else the first from there on says where a run begins
  pub free_to_is : (sector : ℕ) → 1 ≤ sector → (o kept from found : Option SectorRun) (end : Option ℕ) → LastBefore es sector o → FirstFrom es sector from →
      MatchOption o (kept ≡ None) (λ e. kept ≡ then_some (leb sector (e.start + e.len)) e) →
      MatchOption kept (found ≡ from) (λ e. found ≡ Some e) →
      MatchOption found (end ≡ None) (λ e. end ≡ Some (e.start + e.len)) → FreeTo inuse size sector end
  free_to_is sector one None kept from found end none n k f is =
      further sector one (before_all size es h sector none (sector - 1) (omega arith)) from end n (rw (rw k at f) at is)
  free_to_is sector one (Some e) kept from found end p n k f is = go (leb sector (e.start + e.len)) refl (rw k at f)
    where
      go : (b : Bool) → leb sector (e.start + e.len) ≡ b → MatchOption (then_some b e) (found ≡ from) (λ x. found ≡ Some x) → FreeTo inuse size sector end
      go true t f =
          let ends : end ≡ Some (e.start + e.len) = rw f at is in
          let before = p.before in
          rw ends (behind_free sector e.start e.len p.listed (leb-true _ _ t) (λ s a b. absurd (omega arith)))
      go false t f =
          further sector one (past_previous size es h sector e p (sector - 1) (let short = leb-false _ _ t in omega arith) (omega arith)) from end n (rw f at is)

  -- and the run begins there, where the slab has not ended
  pub starts_is : (sector : ℕ) (o kept : Option ℕ) → FreeTo inuse size sector o → MatchOption o (kept ≡ None) (λ n. kept ≡ then_some (ltb n size) n) →
      MatchOption kept ((s : ℕ) → sector ≤ s → begins inuse s ≡ false) (λ n. UsedFrom inuse size sector n × (n < size))
  starts_is sector None kept quiet k = rw k quiet
  starts_is sector (Some n) kept from k = rw k (go (ltb n size) refl)
    where
      go : (b : Bool) → ltb n size ≡ b → MatchOption (then_some b n) ((s : ℕ) → sector ≤ s → begins inuse s ≡ false) (λ n. UsedFrom inuse size sector n × (n < size))
      go true t = (from, ltb-true _ _ t)
      go false t =
          let past = ltb-false _ _ t in
          λ s p. elim (cases_lt s n) [ inl l ↦ from.quiet s p l | inr l ↦ off_begins inuse s (grind (arith, nat_tests)) ]

  -- the run from there on
  pub run_from : (sector start end : ℕ) → UsedFrom inuse size sector start → start < size → start < end → end ≤ size →
      ((s : ℕ) → start ≤ s → s < end → free_of es s ≡ false) → inuse end ≡ false → Run inuse start (end - start)
  run_from sector start end from below some within none stop =
      let on = from.here below in
      let is : start + (end - start) ≡ end = omega arith in
      record {
        some = omega arith;
        filled = λ s p q. to_T (not_free_used s (omega arith) (none s p (omega arith)));
        before = λ p e. to_not_T (begins_after inuse start p on e);
        after = to_not_T (ap inuse is ∙ stop);
      }

  -- no free extent begins from a used sector up to a bound
  pub none_up_to : (start bound : ℕ) → free_of es start ≡ false → ((s l : ℕ) → in_list s l es ≡ true → start ≤ s → bound ≤ s) →
      (t : ℕ) → start ≤ t → t < bound → free_of es t ≡ false
  none_up_to start bound off far t from below =
      elim (cases_Bool (free_of es t)) [
        | inl f ↦
            let x = holder es t f in
            let low = x.from in
            let high = x.to in
            elim (cases_lt x.start start) [
              | inl l ↦ absurd (both_ways _ off (filled 0 size es h x.start x.len x.listed start (omega arith) (omega arith)))
              | inr l ↦ let past = far x.start x.len x.listed l in absurd (omega arith)
            ]
        | inr f ↦ f
      ]

  pub not_free_here : (sector start : ℕ) → UsedFrom inuse size sector start → start < size → free_of es start ≡ false
  not_free_here sector start from below = let on = begins_on inuse start (from.here below) in grind (arith, nat_tests)

  -- up to the next free extent, or to the end of the slab
  pub to_next : (start : ℕ) (e : SectorRun) → free_of es start ≡ false → Next es start e.start e.len → UsedTo size (free_of es) start e.start
  to_next start e off n =
      let at = lies 0 size es h e.start e.len n.listed in
      let from = n.from in
      let on = filled 0 size es h e.start e.len n.listed e.start (omega arith) (omega (arith, at.some)) in
      record {
        some = elim (cases_lt start e.start) [
          | inl l ↦ l
          | inr l ↦ let is : e.start ≡ start = omega arith in absurd (both_ways _ off (ap (free_of es) (sym is) ∙ on))
        ];
        within = omega (arith, at.within);
        filled = λ s p q. none_up_to start e.start off (λ a b i k. n.lowest a b i k) s p q;
        after = free_not_used e.start on;
      }

  pub to_size : (start : ℕ) → start < size → free_of es start ≡ false → ((s l : ℕ) → in_list s l es ≡ true → s < start) → UsedTo size (free_of es) start size
  to_size start below off none =
      record {
        some = below;
        within = omega arith;
        filled = λ s p q. none_up_to start size off (λ a b i k. let z = none a b i in absurd (omega arith)) s p q;
        after = grind (arith, nat_tests);
      }

  -- so the first free extent from a used sector on says where the used ones end
  pub to_is : (start : ℕ) → start < size → free_of es start ≡ false → (o : Option SectorRun) → FirstFrom es start o → (end : ℕ) →
      MatchOption o (end ≡ size) (λ e. end ≡ e.start) → UsedTo size (free_of es) start end
  to_is start below off None none end is = rw is (to_size start below off none)
  to_is start below off (Some e) n end is = rw is (to_next start e off n)

  -- where the first run begins
  pub record First (at : ℕ) : Type 0 where
    pub passes : Passes size (free_of es) 0 at
    pub here : at < size → begins inuse at ≡ true

  pub first_run : (o kept : Option SectorRun) → FirstFrom es 0 o → MatchOption o (kept ≡ None) (λ e. kept ≡ then_some (e.start == 0) e) → (at : ℕ) →
      MatchOption kept (at ≡ 0) (λ e. at ≡ e.start + e.len) → First at
  first_run o kept first k at is =
      let edge = right_is size es h 0 o kept first k at is in
      let u = at_zero at edge in
      record {
        passes = record {
          low = u.from;
          high = elim (cases_lt 0 at) [ inl l ↦ (let there = (lies 0 size es h 0 (at - 0) (edge.listed l)).within in omega arith) | inr l ↦ omega arith ];
          quiet = u.quiet;
        };
        here = u.here;
      }

  -- the run that begins at a place, and where the next one does
  pub record NextRun (at end to : ℕ) : Type 0 where
    pub run : Run inuse at (end - at)
    pub some : at < end
    pub within : end ≤ size
    pub passes : Passes size (free_of es) end to
    pub here : to < size → begins inuse to ≡ true

  pub next_run : (at : ℕ) → at < size → begins inuse at ≡ true → (o : Option SectorRun) → FirstFrom es at o → (to end : ℕ) →
      MatchOption o (to ≡ size) (λ e. to ≡ e.start + e.len) → MatchOption o (end ≡ size) (λ e. end ≡ e.start) → NextRun at end to
  next_run at below on o first to end to-is end-is =
      let from : UsedFrom inuse size at at = record { from = omega arith; quiet = λ s p q. absurd (omega arith); here = λ k. on } in
      let till = to_is at below (not_free_here at at from below) o first end end-is in
      let ends = after o first to-is end-is in
      record {
        run = run_from at at end from below till.some till.within till.filled till.after;
        some = till.some;
        within = till.within;
        passes = ends.0;
        here = ends.1;
      }
    where
      after : (o : Option SectorRun) → FirstFrom es at o → MatchOption o (to ≡ size) (λ e. to ≡ e.start + e.len) → MatchOption o (end ≡ size) (λ e. end ≡ e.start) →
          Passes size (free_of es) end to × (to < size → begins inuse to ≡ true)
      after None none t e = (record { low = omega arith; high = omega arith; quiet = λ s p q. absurd (omega arith) }, λ k. absurd (omega arith))
      after (Some f) n t e =
          let b = behind_free f.start f.start f.len n.listed (omega arith) (λ s p q. absurd (omega arith)) in
          let within = (lies 0 size es h f.start f.len n.listed).within in
          rw (t, e) (record { low = b.from; high = within; quiet = b.quiet }, b.here)

-- a run of used sectors ends within the slab
pub used_ends : (size : ℕ) (free : Sectors) (s l : ℕ) → Run (used size free) s l → s + l ≤ size
used_ends size free s l r = run_ends size (used size free) s l (λ p past. to_not_T (grind (arith, nat_tests))) r
