-- Strict total orders, as tests.
use Rattle.std.specs.Prelude.{◌≡◌, Bool, true, false, ◌&&◌, ◌||◌, ◌==◌, nat_lt}
use Rattle.table.specs.declared.key.LengthKey.{LengthKey}

-- nothing comes before itself, what comes before a key comes before all that this key comes before, and of two unequal
-- keys one comes before the other
pub record Order {K : Type 0} (before : K → K → Bool) : Type 0 where
  pub irreflexive : (a : K) → before a a ≡ false
  pub transitive : (a b c : K) → before a b ≡ true → before b c ≡ true → before a c ≡ true
  pub total : (a b : K) → before a b ≡ false → before b a ≡ false → a ≡ b

-- by length, and by start where two are equally long
abbrev pub shorter : LengthKey → LengthKey → Bool
shorter a b = nat_lt a.len b.len || (a.len == b.len && nat_lt a.start b.start)
