use Rattle.std.proofs.Common.{◌≡◌, ◌++◌, ◌-◌, map}
use Rattle.flat_tables.specs.Places.{items_from, items_of}
use Rattle.snapshot_file.specs.Nodes.{dimension_of}
use Rattle.snapshot_file.proofs.node_reading.dimensions_in.Given as goal

-- those so far and those of the elements that are left are all
abbrev pub invariant-loop-at : goal.invariant-loop-at
invariant-loop-at l = l.dimensions.items ++ map dimension_of (items_from l.vector l.at (l.vector.count - l.at)) ≡ map dimension_of (items_of l.vector)
