-- Best fit: the shortest free extent that is long enough, and of equally short ones the lowest.
use Rattle.std.specs.Prelude.{◌≡◌, ℕ, ◌<◌, ◌≤◌, ◌⊎◌}
use Rattle.slab_log.specs.Sectors.{Sectors, Run}

-- the extent is a free one, it is long enough, and every other long enough is longer, or as long and higher
pub record BestFit (free : Sectors) (want start len : ℕ) : Type 0 where
  pub extent : Run free start len
  pub enough : want ≤ len
  pub others : (s l : ℕ) → Run free s l → want ≤ l → (len < l) ⊎ ((len ≡ l) × (start ≤ s))
