-- What a replay that succeeds says of its words.
use Rattle.std.proofs.Common.{◌≡◌, ℕ, zero, suc, ◌+◌, ◌-◌, ◌<◌, ◌≤◌, Bool, true, false, cond, T, ◌⊎◌, List, [], ◌∷◌, length, Ok, Err, Result, refl, inl, inr, add-zero, arith}
use Rattle.std.proofs.lemmas.Bool.{or_parts, or_from, cases_eq, cases_lt}
use Rattle.std.proofs.lemmas.Bool.Decides.{nat_tests}
use Rattle.slab_log.specs.Sectors.{Sectors, Within, Run, used, meets}
use Rattle.slab_log.specs.Words.{read}
use Rattle.slab_log.specs.Replay.{grant, give_back, apply, take_word, replay_from}
use Rattle.slab_log.specs.declared.fault.Fault.{Fault}
use Rattle.slab_log.specs.declared.fault.Stop.{Stop}
use Rattle.slab_log.specs.declared.entry.Entry.{Entry}

-- a test that was passed
pub passed : {A B : Type 0} (b : Bool) (f : B) (r : Result A B) (a : A) → cond b (Err f) r ≡ Ok a → (b ≡ false) × (r ≡ Ok a)
passed true f r a h = let z : ◌≡◌ {A = ℕ} 0 1 = cc in absurd (omega arith)
passed false f r a h = (refl, h)

pub kept : {A B : Type 0} (b : Bool) (x a : A) (f : B) → cond b (Ok x) (Err f) ≡ Ok a → (b ≡ true) × (x ≡ a)
kept true x a f h = (refl, cc)
kept false x a f h = let z : ◌≡◌ {A = ℕ} 0 1 = cc in absurd (omega arith)

-- the first word is taken, and the rest replays on
pub first_word : (size place : ℕ) (free after : Sectors) (w : ℕ) (ws : List ℕ) → replay_from size place free (w ∷ ws) ≡ Ok after →
    (mid : Sectors) × ((take_word size free (read w) ≡ Ok mid) × (replay_from size (place + 1) mid ws ≡ Ok after))
first_word size place free after w ws h = go (take_word size free (read w)) refl h
  where
    go : (r : Result Sectors Fault) → take_word size free (read w) ≡ r →
        ◌≡◌ {A = Result Sectors Stop}
        (elim r [ Ok mid ↦ replay_from size (place + 1) mid ws | Err f ↦ Err (record { fault = f; place = place }) ]) (Ok after) →
        (mid : Sectors) × ((take_word size free (read w) ≡ Ok mid) × (replay_from size (place + 1) mid ws ≡ Ok after))
    go (Ok mid) e l = (mid, (e, l))
    go (Err f) e l = let z : ◌≡◌ {A = ℕ} 0 1 = cc in absurd (omega arith)

-- what each entry keeps, a log keeps
module _ (size : ℕ) (Keeps : ℕ → Sectors → Type 0)
    (each : (place : ℕ) (free after : Sectors) (entry : Entry) → apply size free entry ≡ Ok after →
    Keeps place free → Keeps (place + 1) after) where
  word_keeps : (place : ℕ) (free after : Sectors) (r : Result Entry Fault) → take_word size free r ≡ Ok after →
      Keeps place free → Keeps (place + 1) after
  word_keeps place free after (Ok entry) h k = each place free after entry h k
  word_keeps place free after (Err f) h k = let z : ◌≡◌ {A = ℕ} 0 1 = cc in absurd (omega arith)

  pub replay_keeps : (place : ℕ) (free after : Sectors) (log : List ℕ) → replay_from size place free log ≡ Ok after →
      Keeps place free → Keeps (place + length log) after
  replay_keeps place free after [] h k = let e : free ≡ after = cc in rw (← e, add-zero place) k
  replay_keeps place free after (w ∷ ws) h k =
      let first = first_word size place free after w ws h in
      let z : place + length (w ∷ ws) ≡ place + 1 + length ws = omega arith in
      rw z
      (replay_keeps (place + 1) first.0 after ws first.1.1 (word_keeps place free first.0 (read w) first.1.0 k))

-- none of an extent is in the set
pub meets_none : (set : Sectors) (start n : ℕ) → meets set start n ≡ false → (s : ℕ) → start ≤ s → s < start + n → set s ≡ false
meets_none set start zero h s p q = absurd (omega arith)
meets_none set start (suc n) h s p q =
    let both = or_parts (set (start + n)) (meets set start n) h in
    elim (cases_eq s (start + n)) [ inl e ↦ rw e both.0 | inr ne ↦ meets_none set start n both.1 s p (omega arith) ]

pub none_meets : (set : Sectors) (start n : ℕ) → ((s : ℕ) → start ≤ s → s < start + n → set s ≡ false) → meets set start n ≡ false
none_meets set start zero h = refl
none_meets set start (suc n) h =
    or_from (set (start + n)) (meets set start n) (h (start + n) (omega arith) (omega arith))
    (none_meets set start n (λ s p q. h s p (omega arith)))

-- a run of a set ends where the set does, or before
pub run_ends : (size : ℕ) (set : Sectors) (start len : ℕ) → Within size set → Run set start len → start + len ≤ size
run_ends size set start len within run =
    let some = run.some in
    elim (cases_lt size (start + len)) [
      | inl l ↦ absurd (within (start + len - 1) (omega arith) (run.filled (start + len - 1) (omega arith) (omega arith)))
      | inr l ↦ l
    ]

module _ (size : ℕ) (free : Sectors) (a r : ℕ) (fits : a + r ≤ size) where
  -- which sectors an entry moves
  pub grant_off : (s : ℕ) → (s < a) ⊎ (a + r ≤ s) → used size free s ≡ used size (grant free a r) s
  grant_off s h = grind (arith, nat_tests)

  pub grant_in : (s : ℕ) → a ≤ s → s < a + r → used size (grant free a r) s ≡ true
  grant_in s p q = grind (arith, nat_tests)

  pub give_off : (s : ℕ) → (s < a) ⊎ (a + r ≤ s) → used size free s ≡ used size (give_back free a r) s
  give_off s h = grind (arith, nat_tests)

  pub give_in : (s : ℕ) → a ≤ s → s < a + r → used size (give_back free a r) s ≡ false
  give_in s p q = grind (arith, nat_tests)

  pub not_free : (s : ℕ) → s < a + r → free s ≡ false → used size free s ≡ true
  not_free s q h = grind (arith, nat_tests)

-- a test as a type, and as an equation
pub from_T : {b : Bool} → T b → b ≡ true
from_T {b = true} t = refl
from_T {b = false} t = absurd t

pub from_not_T : {b : Bool} → ¬ T b → b ≡ false
from_not_T {b = true} t = absurd (t tt)
from_not_T {b = false} t = refl

pub to_T : {b : Bool} → b ≡ true → T b
to_T e = rw e tt

pub to_not_T : {b : Bool} → b ≡ false → ¬ T b
to_not_T e = rw e (λ t. t)
