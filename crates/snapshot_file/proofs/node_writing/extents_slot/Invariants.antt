use Rattle.std.proofs.Common.{take}
use Rattle.std.specs.List.{AllByRecursion}
use Rattle.flat_tables.proofs.Building.{BytesBuilt}
use Rattle.snapshot_file.specs.Layout.{extent_bytes, IsExtent}
use Rattle.snapshot_file.proofs.node_writing.extents_slot.Given as goal

abbrev pub invariant-loop-extent : goal.invariant-loop-extent
invariant-loop-extent l = record {
  built : BytesBuilt extent_bytes (λ x. x) 8 l.extent-items l.extent-index l.bytes.items;
  sized : AllByRecursion IsExtent (take l.extent-index l.extent-items);
}
