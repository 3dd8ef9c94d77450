use Rattle.std.proofs.Common.{◌≡◌, ◌++◌, get_or, ap, ◌∙◌, arith, lit<, refl}
use Rattle.std.specs.Int.{w32, to_le_bytes}
use Rattle.flat_tables.proofs.Building.{no_bytes, one_more_item, structs_writable}
use Rattle.file_fields.specs.Fields.{index_part}
use Rattle.file_fields.proofs.BuildingLaws.{element_is, structs_of, index_small}
use Rattle.file_fields.proofs.writing.index_slot.Goals as goal

pub loop-number-init : goal.loop-number-init
loop-number-init c = rw c.new-bytes.ensures.items (no_bytes (to_le_bytes w32) (λ x. x) 4 c.parts-number-items.result.now)

pub loop-number-preserved : goal.loop-number-preserved
loop-number-preserved c =
    let numbers = c.parts-number-items.result.now in
    let i = c.loop-number.number-index in
    let number = get_or numbers i 0 in
    let grown : c.extend_from_slice.new.self.items ≡ c.loop-number.bytes.items ++ to_le_bytes w32 number = c.in_ok-extend_from_slice.ensures.items ∙ ap (λ bytes. c.loop-number.bytes.items ++ bytes) c.to_le_bytes.ensures in
    one_more_item (to_le_bytes w32) (λ x. x) 4 numbers i number c.loop-number.bytes.items c.extend_from_slice.new.self.items c.loop-number-test.true (element_is numbers i 0 c.loop-number-test.true) c.loop-number.invariant grown refl

pub returns-clause-part : goal.returns-clause-part
returns-clause-part c =
    structs_of (to_le_bytes w32) 4 4 c.parts-number-items.result.now c.loop-number.number-index c.loop-number.bytes (lit< tt) (omega arith) c.loop-number.invariant ∙ ap index_part c.parts-number-items.ensures.value

pub returns-clause-writable : goal.returns-clause-writable
returns-clause-writable c = structs_writable (to_le_bytes w32) (λ x. x) 4 4 c.parts-number-items.result.now c.loop-number.number-index c.loop-number.bytes refl (lit< tt) c.loop-number.invariant

pub returns-clause-sized : goal.returns-clause-sized
returns-clause-sized c = index_small c.args.index.now c.parts-number-items.ensures.index
