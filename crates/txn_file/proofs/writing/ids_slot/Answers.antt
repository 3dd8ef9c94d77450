use Rattle.std.proofs.Common.{◌≡◌, ◌++◌, ap, ◌∙◌, arith, lit<, refl, [], get_or}
use Rattle.flat_tables.proofs.Building.{no_bytes, one_more_item, structs_writable}
use Rattle.ice_ids.specs.Text.{IsId8}
use Rattle.file_fields.specs.Fields.{id_key}
use Rattle.txn_file.specs.Layout.{ids_part}
use Rattle.file_fields.proofs.BuildingLaws.{element_is, all_more, all_taken, structs_of}
use Rattle.txn_file.proofs.writing.ids_slot.Goals as goal

pub loop-id-init : goal.loop-id-init
loop-id-init c = record { built = rw c.new-bytes.ensures.items (no_bytes id_key (λ x. x) 8 c.as_slice-id-items.result.now); sized = tt }

pub loop-id-preserved : goal.loop-id-preserved
loop-id-preserved c =
    let ids = c.as_slice-id-items.result.now in
    let i = c.loop-id.id-index in
    let id = get_or ids i (record { 0 = [] }) in
    let is = element_is ids i (record { 0 = [] }) c.loop-id-test.true in
    let grown : c.extend_from_slice.new.self.items ≡ c.loop-id.bytes.items ++ id_key id = c.in_ok-extend_from_slice.ensures.items ∙ ap (λ bytes. c.loop-id.bytes.items ++ bytes) c.id8_bytes.ensures.bytes in
    record {
      built = one_more_item id_key (λ x. x) 8 ids i id c.loop-id.bytes.items c.extend_from_slice.new.self.items c.loop-id-test.true is c.loop-id.invariant.built grown c.id8_bytes.ensures.sized;
      sized = all_more IsId8 ids i id c.loop-id-test.true is c.loop-id.invariant.sized c.id8_bytes.ensures.id;
    }

pub returns-clause-part : goal.returns-clause-part
returns-clause-part c =
    let ids = c.as_slice-id-items.result.now in
    structs_of id_key 1 8 ids c.loop-id.id-index c.loop-id.bytes (lit< tt) (omega arith) c.loop-id.invariant.built ∙ ap ids_part c.as_slice-id-items.ensures

pub returns-clause-writable : goal.returns-clause-writable
returns-clause-writable c = structs_writable id_key (λ x. x) 1 8 c.as_slice-id-items.result.now c.loop-id.id-index c.loop-id.bytes refl (lit< tt) c.loop-id.invariant.built

pub returns-clause-sized : goal.returns-clause-sized
returns-clause-sized c = rw (← c.as_slice-id-items.ensures) (all_taken IsId8 c.as_slice-id-items.result.now c.loop-id.id-index c.loop-id-test.false c.loop-id.invariant.sized)
