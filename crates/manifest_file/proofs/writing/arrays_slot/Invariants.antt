use Rattle.std.proofs.Common.{take}
use Rattle.std.specs.List.{AllByRecursion}
use Rattle.flat_tables.proofs.Building.{TablesBuilt}
use Rattle.manifest_file.specs.Layout.{array_block, IsArray}
use Rattle.manifest_file.proofs.writing.arrays_slot.Given as goal

abbrev pub invariant-loop-array : goal.invariant-loop-array
invariant-loop-array l = record {
  built : TablesBuilt array_block (λ x. x) l.array-items l.array-index l.tables.items;
  sized : AllByRecursion IsArray (take l.array-index l.array-items);
}
