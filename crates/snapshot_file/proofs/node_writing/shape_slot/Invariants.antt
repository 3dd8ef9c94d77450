use Rattle.std.proofs.Common.{take}
use Rattle.std.specs.List.{AllByRecursion}
use Rattle.flat_tables.proofs.Building.{BytesBuilt}
use Rattle.snapshot_file.specs.Layout.{dimension_bytes, IsDimension}
use Rattle.snapshot_file.proofs.node_writing.shape_slot.Given as goal

abbrev pub invariant-loop-dimension : goal.invariant-loop-dimension
invariant-loop-dimension l = record {
  built : BytesBuilt dimension_bytes (λ x. x) 16 l.dimension-items l.dimension-index l.bytes.items;
  sized : AllByRecursion IsDimension (take l.dimension-index l.dimension-items);
}
