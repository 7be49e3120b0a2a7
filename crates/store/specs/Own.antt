-- The store that holds its words itself.
use Rattle.std.specs.Prelude.{ℕ}

-- how many words it holds at most
abbrev pub own_places : ℕ
own_places = 4096
