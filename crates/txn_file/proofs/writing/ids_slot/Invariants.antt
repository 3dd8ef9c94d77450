use Rattle.std.proofs.Common.{take}
use Rattle.flat_tables.proofs.Building.{BytesBuilt}
use Rattle.file_fields.specs.Fields.{id_key}
use Rattle.txn_file.specs.Layout.{AreIds}
use Rattle.txn_file.proofs.writing.ids_slot.Given as goal

abbrev pub invariant-loop-id : goal.invariant-loop-id
invariant-loop-id l = record {
  built : BytesBuilt id_key (λ x. x) 8 l.id-items l.id-index l.bytes.items;
  sized : AreIds (take l.id-index l.id-items);
}
