-- The two sides of a node, and the links to the trees there.
use Rattle.std.specs.Prelude.{ℕ}
pub use Rattle.table.specs.declared.side.Side.{Side}
pub use Rattle.table.specs.declared.side.Side.TheVariants.{Left, Right}
pub use Rattle.table.specs.declared.side.Links.{Links}

abbrev pub across : Side → Side
across Left = Right
across Right = Left

-- the near link on a side, and the far one on the other
abbrev pub links_of : Side → ℕ → ℕ → Links
links_of Left near far = record { left = near; right = far }
links_of Right near far = record { left = far; right = near }

abbrev pub link_on : Side → Links → ℕ
link_on Left links = links.left
link_on Right links = links.right
