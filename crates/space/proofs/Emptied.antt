-- An empty extent, granted or given back, changes no sector.
use Rattle.std.proofs.Common.{rules, ◌≡◌, ℕ, ◌≤◌, Bool, false, not, ◌&&◌, ◌||◌, arith}
use Rattle.std.proofs.lemmas.Bool.Decides.{nat_tests}
use Rattle.slab_log.specs.Sectors.{Sectors, covers}
use Rattle.slab_log.specs.Replay.{grant, give_back}

covers_none : (start len s : ℕ) → len ≤ 0 → covers start len s ≡ false
covers_none start len s h = grind (arith, nat_tests)

off_and : (p q : Bool) → q ≡ false → p ≡ (p && not q)
off_and p q e = grind rules

off_or : (p q : Bool) → q ≡ false → p ≡ (p || q)
off_or p q e = grind rules

pub none_granted : (free : Sectors) (start len : ℕ) → len ≤ 0 → free ≡ grant free start len
none_granted free start len h = λ i s. off_and (free s) (covers start len s) (covers_none start len s h) i

pub none_given : (free : Sectors) (start len : ℕ) → len ≤ 0 → free ≡ give_back free start len
none_given free start len h = λ i s. off_or (free s) (covers start len s) (covers_none start len s h) i
