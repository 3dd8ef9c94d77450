use Rattle.std.proofs.Common.{take}
use Rattle.std.specs.List.{AllByRecursion}
use Rattle.flat_tables.proofs.Building.{TablesBuilt}
use Rattle.snapshot_file.specs.Layout.{name_block, IsName}
use Rattle.snapshot_file.proofs.node_writing.names_slot.Given as goal

abbrev pub invariant-loop-name : goal.invariant-loop-name
invariant-loop-name l = record {
  built : TablesBuilt name_block (λ x. x) l.name-items l.name-index l.tables.items;
  sized : AllByRecursion IsName (take l.name-index l.name-items);
}
