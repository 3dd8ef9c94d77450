use Rattle.std.proofs.Common.{◌≡◌, ◌++◌, ◌-◌, map}
use Rattle.flat_tables.specs.Places.{items_from, items_of}
use Rattle.snapshot_file.specs.Nodes.{extent_of}
use Rattle.snapshot_file.proofs.node_reading.extents_in.Given as goal

-- those so far and those of the elements that are left are all
abbrev pub invariant-loop-at : goal.invariant-loop-at
invariant-loop-at l = l.extents.items ++ map extent_of (items_from l.vector l.at (l.vector.count - l.at)) ≡ map extent_of (items_of l.vector)
