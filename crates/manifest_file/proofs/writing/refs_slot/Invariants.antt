use Rattle.std.proofs.Common.{take}
use Rattle.std.specs.List.{AllByRecursion}
use Rattle.flat_tables.proofs.Building.{TablesBuilt}
use Rattle.manifest_file.specs.Layout.{ref_block, IsRef}
use Rattle.manifest_file.proofs.writing.refs_slot.Given as goal

abbrev pub invariant-loop-chunk : goal.invariant-loop-chunk
invariant-loop-chunk l = record {
  built : TablesBuilt ref_block (λ x. x) l.chunk-items l.chunk-index l.tables.items;
  sized : AllByRecursion IsRef (take l.chunk-index l.chunk-items);
}
