-- The pairs of a table.
use Rattle.std.specs.Prelude.{List}
use Rattle.table.specs.declared.node.Entry.{Entry}
use Rattle.table.specs.declared.table.Table.{Table}
use Rattle.table.specs.Sound.{entries}

-- its pairs, by rising key
abbrev pub pairs : {K V : Type 0} {g : _} → Table K V g → List (Entry K V)
pairs t = entries t.nodes t.heads
