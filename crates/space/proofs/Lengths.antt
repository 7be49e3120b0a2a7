-- The extents by length: one put in or taken out, and that the list keeps the same extents as the one by start.
use Rattle.std.proofs.Common.{◌≡◌, ℕ, ◌+◌, Bool, true, false, cond, not, ◌&&◌, ◌||◌, eqb, ltb, List, [], ◌∷◌, length, sym, refl, ap, ◌∙◌, arith}
use Rattle.std.proofs.lemmas.Bool.{both_ways}
use Rattle.std.proofs.lemmas.Bool.Decides.{nat_tests}
use Rattle.table.specs.declared.node.Entry.{Entry}
use Rattle.table.specs.declared.key.LengthKey.{LengthKey}
use Rattle.table.specs.Pairs.{Each, Ordered, pair, put, without, alike, has}
use Rattle.table.specs.Order.{shorter}
use Rattle.space.specs.Extents.{Starts, Lengths, Spaced, in_list, span, Twins}
use Rattle.space.proofs.Changed.{with_extent, put_listed, without_listed}

-- one pair more
pub length_put : {K V : Type 0} (before : K → K → Bool) (x : Entry K V) (ps : List (Entry K V)) → length (put before x ps) ≡ length ps + 1
length_put before x [] = refl
length_put before x (y ∷ ys) = go (before x.key y.key) (length_put before x ys)
  where
    go : (b : Bool) → length (put before x ys) ≡ length ys + 1 → length (cond b (x ∷ y ∷ ys) (y ∷ put before x ys)) ≡ length (y ∷ ys) + 1
    go true ih = omega arith
    go false ih = omega arith

-- one pair fewer
pub length_without : (k : LengthKey) (ls : Lengths) → has shorter k ls ≡ true → length (without shorter k ls) + 1 ≡ length ls
length_without k [] h = absurd (both_ways false refl h)
length_without k (y ∷ ys) h = go (alike shorter k y.key) refl h (length_without k ys)
  where
    go : (b : Bool) → alike shorter k y.key ≡ b → (b || has shorter k ys) ≡ true → (has shorter k ys ≡ true → length (without shorter k ys) + 1 ≡ length ys) →
        length (cond b ys (y ∷ without shorter k ys)) + 1 ≡ length (y ∷ ys)
    go true e i ih = omega arith
    go false e i ih = let less = ih i in omega arith

pub alike_spans : (s l a n : ℕ) → alike shorter (span s l) (span a n) ≡ (eqb s a && eqb l n)
alike_spans s l a n = grind (arith, nat_tests)

put_has : (k : LengthKey) (x : Entry LengthKey Unit) (ls : Lengths) → has shorter k (put shorter x ls) ≡ (alike shorter k x.key || has shorter k ls)
put_has k x [] = refl
put_has k x (y ∷ ys) = go (shorter x.key y.key) (put_has k x ys)
  where
    swap : (a b c : Bool) → (a || (b || c)) ≡ (b || (a || c))
    swap a b c = grind arith

    go : (b : Bool) → has shorter k (put shorter x ys) ≡ (alike shorter k x.key || has shorter k ys) →
        has shorter k (cond b (x ∷ y ∷ ys) (y ∷ put shorter x ys)) ≡ (alike shorter k x.key || has shorter k (y ∷ ys))
    go true ih = refl
    go false ih = rw ih (swap (alike shorter k y.key) (alike shorter k x.key) (has shorter k ys))

-- a key that comes before all of a list is not in it
none_has : (k : LengthKey) (ls : Lengths) → Each (λ z. shorter k z.key ≡ true) ls → has shorter k ls ≡ false
none_has k [] h = refl
none_has k (y ∷ ys) h =
    let ih = none_has k ys h.1 in
    let here = h.0 in
    rw ih (off here)
  where
    off : shorter k y.key ≡ true → (alike shorter k y.key || false) ≡ false
    off here = grind (arith, nat_tests)

same_span : (a b : LengthKey) → alike shorter a b ≡ true → a ≡ b
same_span a b h =
    let p : a.len ≡ b.len = grind (arith, nat_tests) in
    let q : a.start ≡ b.start = grind (arith, nat_tests) in
    λ i. record { len = p i; start = q i }

without_has : (k x : LengthKey) (ls : Lengths) → Ordered shorter ls → has shorter k (without shorter x ls) ≡ (not (alike shorter k x) && has shorter k ls)
without_has k x [] h = (none (not (alike shorter k x)))
  where
    none : (b : Bool) → false ≡ (b && false)
    none b = grind arith
without_has k x (y ∷ ys) h = go (alike shorter x y.key) refl (without_has k x ys h.1) (alike shorter k x) refl
  where
    keeps : (b : Bool) → b ≡ (true && b)
    keeps b = grind arith

    moves : (a b c : Bool) → a ≡ false → b ≡ (not c && b) → b ≡ (not c && (a || b))
    moves a b c p q = grind arith

    go : (b : Bool) → alike shorter x y.key ≡ b → has shorter k (without shorter x ys) ≡ (not (alike shorter k x) && has shorter k ys) →
        (c : Bool) → alike shorter k x ≡ c →
        has shorter k (cond b ys (y ∷ without shorter x ys)) ≡ (not c && has shorter k (y ∷ ys))
    go true e ih true f =
        let one : k ≡ x = same_span k x f in
        let two : x ≡ y.key = same_span x y.key e in
        let is : k ≡ y.key = one ∙ two in
        rw is (none_has y.key ys h.0)
    go true e ih false f =
        let two : x ≡ y.key = same_span x y.key e in
        let off : alike shorter k y.key ≡ false = ap (alike shorter k) (sym two) ∙ f in
        rw off (refl)
    go false e ih true f =
        let one : k ≡ x = same_span k x f in
        let off : alike shorter k y.key ≡ false = ap (λ z. alike shorter z y.key) one ∙ e in
        rw (off, ih, f) (refl)
    go false e ih false f = rw (ih, f) (refl)

-- both lists keep the same extents
pub put_twins : (a n : ℕ) (es : Starts) (ls : Lengths) (u : Unit {0}) → Twins es ls → Twins (with_extent a n es) (put shorter (pair (span a n) u) ls)
put_twins a n es ls u h s l =
    put_listed a n es s l
    ∙ (ap (λ b. (eqb s a && eqb l n) || b) (h s l)
    ∙ (ap (λ b. b || has shorter (span s l) ls) (sym (alike_spans s l a n)) ∙ sym (put_has (span s l) (pair (span a n) u) ls)))

pub without_twins : (low size a n : ℕ) (es : Starts) (ls : Lengths) → Spaced low size es → Ordered shorter ls → in_list a n es ≡ true → Twins es ls →
    Twins (without ltb a es) (without shorter (span a n) ls)
without_twins low size a n es ls spaced ordered i h s l =
    without_listed a n low size es spaced i s l
    ∙ (ap (λ b. not (eqb s a && eqb l n) && b) (h s l)
    ∙ (ap (λ b. not b && has shorter (span s l) ls) (sym (alike_spans s l a n)) ∙ sym (without_has (span s l) (span a n) ls ordered)))
