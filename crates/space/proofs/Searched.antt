-- What the searches of the two lists find: the next extent, the one before a sector, the best fit and the longest.
use Rattle.std.proofs.Common.{◌≡◌, ℕ, ◌+◌, ◌<◌, ◌≤◌, Bool, true, false, cond, ltb, ◌⊎◌, List, [], ◌∷◌, Some, None, Option, sym, refl, ap, inl, inr, arith}
use Rattle.std.proofs.lemmas.Bool.{both_ways, or_left, or_right, or_cases, and_from, eq-eqb, ltb-true, ltb-false}
use Rattle.std.proofs.lemmas.Bool.Decides.{nat_tests}
use Rattle.table.specs.declared.node.Entry.{Entry}
use Rattle.table.specs.declared.key.LengthKey.{LengthKey}
use Rattle.table.specs.Pairs.{Each, Ordered, alike, has, under, from, first, last}
use Rattle.table.specs.Order.{shorter}
use Rattle.space.specs.Extents.{Starts, Lengths, Spaced, in_list, span}
use Rattle.std.specs.Prelude.{IfSome}
use Rattle.space.specs.declared.run.SectorRun.{SectorRun}
use Rattle.space.specs.Tables.{Previous, LastBefore, Next, FirstFrom, RunOf}
use Rattle.space.proofs.Spaced.{first_or_rest, lies}

-- a list's extents, as its first or one of the rest
here : (e : Entry ℕ ℕ) (es : Starts) → in_list e.key e.value (e ∷ es) ≡ true
here e es = or_left _ (in_list e.key e.value es) (and_from _ _ (eq-eqb e.key e.key refl) (eq-eqb e.value e.value refl))

there : (s l : ℕ) (e : Entry ℕ ℕ) (es : Starts) → in_list s l es ≡ true → in_list s l (e ∷ es) ≡ true
there s l e es h = or_right _ (in_list s l es) h

-- the lowest extent that begins at or after a sector
pub next_some : (low size sector : ℕ) (es : Starts) (e : Entry ℕ ℕ) → Spaced low size es → first (from ltb sector es) ≡ Some e → Next es sector e.key e.value
next_some low size sector [] e h f = let z : ◌≡◌ {A = ℕ} 0 1 = cc in absurd (omega arith)
next_some low size sector (y ∷ ys) e h f = go (ltb y.key sector) refl f (next_some (y.key + y.value + 1) size sector ys e h.3)
  where
    go : (b : Bool) → ltb y.key sector ≡ b → first (cond b (from ltb sector ys) (y ∷ from ltb sector ys)) ≡ Some e →
        (first (from ltb sector ys) ≡ Some e → Next ys sector e.key e.value) → Next (y ∷ ys) sector e.key e.value
    go true t g ih =
        let n = ih g in
        let below = ltb-true _ _ t in
        record {
          listed = there _ _ y ys n.listed;
          from = n.from;
          lowest = λ s l i k. elim (first_or_rest s l y ys i) [ inl is ↦ absurd (omega arith) | inr rest ↦ n.lowest s l rest k ];
        }
    go false t g ih =
        let is : y ≡ e = cc in
        let above = ltb-false _ _ t in
        rw (← is) (record {
          listed = here y ys;
          from = above;
          lowest = λ s l i k. elim (first_or_rest s l y ys i) [
            | inl same ↦ omega arith
            | inr rest ↦ let at = lies (y.key + y.value + 1) size ys h.3 s l rest in omega (arith, at.from)
          ];
        })

pub next_none : (sector : ℕ) (es : Starts) → first (from ltb sector es) ≡ None → (s l : ℕ) → in_list s l es ≡ true → s < sector
next_none sector [] f s l i = absurd (both_ways false refl i)
next_none sector (y ∷ ys) f s l i = go (ltb y.key sector) refl f (next_none sector ys)
  where
    go : (b : Bool) → ltb y.key sector ≡ b → first (cond b (from ltb sector ys) (y ∷ from ltb sector ys)) ≡ None →
        (first (from ltb sector ys) ≡ None → (s l : ℕ) → in_list s l ys ≡ true → s < sector) → s < sector
    go true t g ih =
        let below = ltb-true _ _ t in
        elim (first_or_rest s l y ys i) [ inl is ↦ omega arith | inr rest ↦ ih g s l rest ]
    go false t g ih = let z : ◌≡◌ {A = ℕ} 0 1 = cc in absurd (omega arith)

-- the last of a list with one more in front
last_of : {A : Type 0} (y : A) (zs : List A) (e : A) → last (y ∷ zs) ≡ Some e → (last zs ≡ Some e) ⊎ ((zs ≡ []) × (y ≡ e))
last_of y [] e h = let is : y ≡ e = cc in inr (refl, is)
last_of y (z ∷ zs) e h = inl h

last_none : {A : Type 0} (zs : List A) → last zs ≡ None → zs ≡ []
last_none [] h = refl
last_none (z ∷ []) h = let n : ◌≡◌ {A = ℕ} 0 1 = cc in absurd (omega arith)
last_none (z ∷ y ∷ zs) h = let e : y ∷ zs ≡ [] = last_none (y ∷ zs) h in let n : ◌≡◌ {A = ℕ} 0 1 = cc in absurd (omega arith)

nothing_under : (sector : ℕ) (es : Starts) → under ltb sector es ≡ [] → (s l : ℕ) → in_list s l es ≡ true → sector ≤ s
nothing_under sector [] f s l i = absurd (both_ways false refl i)
nothing_under sector (y ∷ ys) f s l i = go (ltb y.key sector) refl f (nothing_under sector ys)
  where
    go : (b : Bool) → ltb y.key sector ≡ b → cond b (y ∷ under ltb sector ys) (under ltb sector ys) ≡ [] →
        (under ltb sector ys ≡ [] → (s l : ℕ) → in_list s l ys ≡ true → sector ≤ s) → sector ≤ s
    go true t g ih = let n : ◌≡◌ {A = ℕ} 0 1 = cc in absurd (omega arith)
    go false t g ih =
        let above = ltb-false _ _ t in
        elim (first_or_rest s l y ys i) [ inl is ↦ omega arith | inr rest ↦ ih g s l rest ]

pub previous_none : (sector : ℕ) (es : Starts) → last (under ltb sector es) ≡ None → (s l : ℕ) → in_list s l es ≡ true → sector ≤ s
previous_none sector es f = nothing_under sector es (last_none (under ltb sector es) f)

pub previous_some : (low size sector : ℕ) (es : Starts) (e : Entry ℕ ℕ) → Spaced low size es → last (under ltb sector es) ≡ Some e → Previous es sector e.key e.value
previous_some low size sector [] e h f = let z : ◌≡◌ {A = ℕ} 0 1 = cc in absurd (omega arith)
previous_some low size sector (y ∷ ys) e h f = go (ltb y.key sector) refl f (previous_some (y.key + y.value + 1) size sector ys e h.3)
  where
    later : Previous ys sector e.key e.value → Previous (y ∷ ys) sector e.key e.value
    later p =
        let at = lies (y.key + y.value + 1) size ys h.3 e.key e.value p.listed in
        record {
          listed = there _ _ y ys p.listed;
          before = p.before;
          highest = λ s l i k. elim (first_or_rest s l y ys i) [ inl is ↦ omega (arith, at.from) | inr rest ↦ p.highest s l rest k ];
        }

    go : (b : Bool) → ltb y.key sector ≡ b → last (cond b (y ∷ under ltb sector ys) (under ltb sector ys)) ≡ Some e →
        (last (under ltb sector ys) ≡ Some e → Previous ys sector e.key e.value) → Previous (y ∷ ys) sector e.key e.value
    go true t g ih =
        elim (last_of y (under ltb sector ys) e g) [
          | inl more ↦ later (ih more)
          | inr one ↦
              let below = ltb-true _ _ t in
              rw (← one.1) (record {
                listed = here y ys;
                before = below;
                highest = λ s l i k. elim (first_or_rest s l y ys i) [
                  | inl same ↦ omega arith
                  | inr rest ↦ let past = nothing_under sector ys one.0 s l rest in absurd (omega arith)
                ];
              })
        ]
    go false t g ih = later (ih g)

-- so the pairs that the table finds on the two sides of a sector are the free extents there
module _ (size : ℕ) (es : Starts) (sector : ℕ) (h : Spaced 0 size es) where
  pub some_before : (pair : Option (Entry ℕ ℕ)) → pair ≡ last (under ltb sector es) → IfSome pair (λ p. in_list p.key p.value es ≡ true)
  some_before None found = tt
  some_before (Some p) found = (previous_some 0 size sector es p h (sym found)).listed

  pub some_from : (pair : Option (Entry ℕ ℕ)) → pair ≡ first (from ltb sector es) → IfSome pair (λ p. in_list p.key p.value es ≡ true)
  some_from None found = tt
  some_from (Some p) found = (next_some 0 size sector es p h (sym found)).listed

  pub last_is : (pair : Option (Entry ℕ ℕ)) → pair ≡ last (under ltb sector es) → (run : Option SectorRun) → RunOf pair run → LastBefore es sector run
  last_is None found run is = rw is (previous_none sector es (sym found))
  last_is (Some p) found (Some run) is = rw (is.0, is.1) (previous_some 0 size sector es p h (sym found))
  last_is (Some p) found None is = absurd is

  pub first_is : (pair : Option (Entry ℕ ℕ)) → pair ≡ first (from ltb sector es) → (run : Option SectorRun) → RunOf pair run → FirstFrom es sector run
  first_is None found run is = rw is (next_none sector es (sym found))
  first_is (Some p) found (Some run) is = rw (is.0, is.1) (next_some 0 size sector es p h (sym found))
  first_is (Some p) found None is = absurd is

-- the keys of a list by length, as its first or one of the rest
first_or_rest_key : (k : LengthKey) (y : Entry LengthKey Unit) (ys : Lengths) → has shorter k (y ∷ ys) ≡ true → (alike shorter k y.key ≡ true) ⊎ (has shorter k ys ≡ true)
first_or_rest_key k y ys h = or_cases (alike shorter k y.key) (has shorter k ys) h

here_key : (y : Entry LengthKey Unit) (ys : Lengths) → has shorter y.key (y ∷ ys) ≡ true
here_key y ys = or_left _ (has shorter y.key ys) (itself y.key)
  where
    itself : (k : LengthKey) → alike shorter k k ≡ true
    itself k = grind (arith, nat_tests)

there_key : (k : LengthKey) (y : Entry LengthKey Unit) (ys : Lengths) → has shorter k ys ≡ true → has shorter k (y ∷ ys) ≡ true
there_key k y ys h = or_right _ (has shorter k ys) h

each_has : (P : LengthKey → Type 0) → ((a b : LengthKey) → alike shorter a b ≡ true → P b → P a) → (k : LengthKey) (ls : Lengths) → Each (λ z. P z.key) ls → has shorter k ls ≡ true → P k
each_has P same k [] all h = absurd (both_ways false refl h)
each_has P same k (y ∷ ys) all h =
    elim (first_or_rest_key k y ys h) [ inl is ↦ same k y.key is all.0 | inr rest ↦ each_has P same k ys all.1 rest ]

-- the key comes before all that the list has
after_first : (y : Entry LengthKey Unit) (ys : Lengths) → Ordered shorter (y ∷ ys) → (k : LengthKey) → has shorter k ys ≡ true → shorter y.key k ≡ true
after_first y ys h k i = each_has (λ z. shorter y.key z ≡ true) (λ a b p q. grind (arith, nat_tests)) k ys h.0 i

-- the shortest extent with at least so many sectors, and of equally short ones the lowest
pub record Best (ls : Lengths) (want : ℕ) (k : LengthKey) : Type 0 where
  pub listed : has shorter k ls ≡ true
  pub enough : want ≤ k.len
  pub others : (s l : ℕ) → has shorter (span s l) ls ≡ true → want ≤ l → (k.len < l) ⊎ ((k.len ≡ l) × (k.start ≤ s))

pub best_some : (want : ℕ) (ls : Lengths) (e : Entry LengthKey Unit) → Ordered shorter ls → first (from shorter (span 0 want) ls) ≡ Some e → Best ls want e.key
best_some want [] e h f = let z : ◌≡◌ {A = ℕ} 0 1 = cc in absurd (omega arith)
best_some want (y ∷ ys) e h f = go (shorter y.key (span 0 want)) refl f (best_some want ys e h.1)
  where
    go : (b : Bool) → shorter y.key (span 0 want) ≡ b → first (cond b (from shorter (span 0 want) ys) (y ∷ from shorter (span 0 want) ys)) ≡ Some e →
        (first (from shorter (span 0 want) ys) ≡ Some e → Best ys want e.key) → Best (y ∷ ys) want e.key
    go true t g ih =
        let n = ih g in
        record {
          listed = there_key _ y ys n.listed;
          enough = n.enough;
          others = λ s l i k. elim (first_or_rest_key (span s l) y ys i) [
            | inl is ↦ let z : l < want = grind (arith, nat_tests) in absurd (omega arith)
            | inr rest ↦ n.others s l rest k
          ];
        }
    go false t g ih =
        let is : y ≡ e = cc in
        rw (← is) (record {
          listed = here_key y ys;
          enough = grind (arith, nat_tests);
          others = λ s l i k. elim (first_or_rest_key (span s l) y ys i) [
            | inl same ↦ grind (arith, nat_tests)
            | inr rest ↦ let more = after_first y ys h (span s l) rest in grind (arith, nat_tests)
          ];
        })

pub best_none : (want : ℕ) (ls : Lengths) → first (from shorter (span 0 want) ls) ≡ None → (s l : ℕ) → has shorter (span s l) ls ≡ true → l < want
best_none want [] f s l i = absurd (both_ways false refl i)
best_none want (y ∷ ys) f s l i = go (shorter y.key (span 0 want)) refl f (best_none want ys)
  where
    go : (b : Bool) → shorter y.key (span 0 want) ≡ b → first (cond b (from shorter (span 0 want) ys) (y ∷ from shorter (span 0 want) ys)) ≡ None →
        (first (from shorter (span 0 want) ys) ≡ None → (s l : ℕ) → has shorter (span s l) ys ≡ true → l < want) → l < want
    go true t g ih =
        elim (first_or_rest_key (span s l) y ys i) [ inl is ↦ grind (arith, nat_tests) | inr rest ↦ ih g s l rest ]
    go false t g ih = let z : ◌≡◌ {A = ℕ} 0 1 = cc in absurd (omega arith)

-- the longest extent
pub record LongestKey (ls : Lengths) (k : LengthKey) : Type 0 where
  pub listed : has shorter k ls ≡ true
  pub most : (s l : ℕ) → has shorter (span s l) ls ≡ true → l ≤ k.len

pub longest_some : (ls : Lengths) (e : Entry LengthKey Unit) → Ordered shorter ls → last ls ≡ Some e → LongestKey ls e.key
longest_some [] e h f = let z : ◌≡◌ {A = ℕ} 0 1 = cc in absurd (omega arith)
longest_some (y ∷ ys) e h f =
    elim (last_of y ys e f) [
      | inl more ↦
          let n = longest_some ys e h.1 more in
          let after = after_first y ys h e.key n.listed in
          record {
            listed = there_key _ y ys n.listed;
            most = λ s l i. elim (first_or_rest_key (span s l) y ys i) [ inl is ↦ grind (arith, nat_tests) | inr rest ↦ n.most s l rest ];
          }
      | inr one ↦
          rw (← one.1) (record {
            listed = here_key y ys;
            most = λ s l i. elim (first_or_rest_key (span s l) y ys i) [
              | inl is ↦ grind (arith, nat_tests)
              | inr rest ↦ let none : has shorter (span s l) ys ≡ false = ap (has shorter (span s l)) one.0 in absurd (both_ways _ none rest)
            ];
          })
    ]

pub longest_none : (ls : Lengths) → last ls ≡ None → (k : LengthKey) → has shorter k ls ≡ true → ⊥
longest_none ls f k i = both_ways _ (ap (has shorter k) (last_none ls f)) i
