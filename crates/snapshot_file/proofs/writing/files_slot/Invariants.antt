use Rattle.std.proofs.Common.{take}
use Rattle.std.specs.List.{AllByRecursion}
use Rattle.flat_tables.proofs.Building.{BytesBuilt}
use Rattle.snapshot_file.specs.Layout.{info_bytes, IsInfo}
use Rattle.snapshot_file.proofs.writing.files_slot.Given as goal

abbrev pub invariant-loop-file : goal.invariant-loop-file
invariant-loop-file l = record {
  built : BytesBuilt info_bytes (λ x. x) 32 l.file-items l.file-index l.bytes.items;
  sized : AllByRecursion IsInfo (take l.file-index l.file-items);
}
