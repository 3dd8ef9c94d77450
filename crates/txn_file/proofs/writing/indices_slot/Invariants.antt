use Rattle.std.proofs.Common.{take}
use Rattle.std.specs.List.{AllByRecursion}
use Rattle.flat_tables.proofs.Building.{TablesBuilt}
use Rattle.txn_file.specs.Layout.{index_block}
use Rattle.file_fields.specs.Fields.{IsIndex}
use Rattle.txn_file.proofs.writing.indices_slot.Given as goal

abbrev pub invariant-loop-index : goal.invariant-loop-index
invariant-loop-index l = record {
  built : TablesBuilt index_block (λ x. x) l.index-items l.index-index l.tables.items;
  sized : AllByRecursion IsIndex (take l.index-index l.index-items);
}
