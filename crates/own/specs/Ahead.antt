-- What is left of an owner's fields while they are gone through.
-- Assumes nothing.
use Rattle.std.specs.Prelude.{List, map, ℕ, ◌-◌}
use Rattle.store.specs.declared.Field.{Field}
use Rattle.store.specs.Node.{Layout, layout_of, node_of, field_at}
use Rattle.start.specs.Start.{table}
use Rattle.own.specs.declared.Fields.{Fields}
use Rattle.own.specs.declared.Owner.{Owner}
use Rattle.own.specs.Own.{chosen, cell_at, owns}

-- the owner's cells that the places from a up to e give
abbrev pub cells_between : Layout → Owner → ℕ → ℕ → List ℕ
cells_between l o a e = chosen (owns l o) (table (cell_at l o) a (e - a))

-- the fields that are still to come
abbrev pub fields_left : Fields → List Field
fields_left s = map (field_at (node_of s.node.now)) (cells_between (layout_of s.node.now) s.owner s.places.start s.places.end)
