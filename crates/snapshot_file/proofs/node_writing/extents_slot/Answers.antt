use Rattle.std.proofs.Common.{◌≡◌, ◌++◌, ap, ◌∙◌, arith, lit<, refl, get_or}
use Rattle.flat_tables.proofs.Building.{no_bytes, one_more_item, structs_writable}
use Rattle.snapshot_file.specs.Layout.{extent_bytes, extents_part, IsExtent}
use Rattle.file_fields.proofs.BuildingLaws.{element_is, all_more, all_taken, structs_of}
use Rattle.snapshot_file.proofs.node_writing.extents_slot.Goals as goal

pub loop-extent-init : goal.loop-extent-init
loop-extent-init c = record { built = rw c.new-bytes.ensures.items (no_bytes extent_bytes (λ x. x) 8 c.as_slice-extent-items.result.now); sized = tt }

pub loop-extent-preserved : goal.loop-extent-preserved
loop-extent-preserved c =
    let xs = c.as_slice-extent-items.result.now in
    let i = c.loop-extent.extent-index in
    let x = get_or xs i (0, 0) in
    let is = element_is xs i (0, 0) c.loop-extent-test.true in
    let grown : c.extend_from_slice.new.self.items ≡ c.loop-extent.bytes.items ++ extent_bytes x = c.in_ok-extend_from_slice.ensures.items ∙ ap (λ bytes. c.loop-extent.bytes.items ++ bytes) c.extent_bytes.ensures.bytes in
    record {
      built = one_more_item extent_bytes (λ y. y) 8 xs i x c.loop-extent.bytes.items c.extend_from_slice.new.self.items c.loop-extent-test.true is c.loop-extent.invariant.built grown refl;
      sized = all_more IsExtent xs i x c.loop-extent-test.true is c.loop-extent.invariant.sized c.extent_bytes.ensures.numbers;
    }

pub returns-clause-part : goal.returns-clause-part
returns-clause-part c =
    structs_of extent_bytes 4 8 c.as_slice-extent-items.result.now c.loop-extent.extent-index c.loop-extent.bytes (lit< tt) (omega arith) c.loop-extent.invariant.built ∙ ap extents_part c.as_slice-extent-items.ensures

pub returns-clause-writable : goal.returns-clause-writable
returns-clause-writable c = structs_writable extent_bytes (λ x. x) 4 8 c.as_slice-extent-items.result.now c.loop-extent.extent-index c.loop-extent.bytes refl (lit< tt) c.loop-extent.invariant.built

pub returns-clause-sized : goal.returns-clause-sized
returns-clause-sized c = rw (← c.as_slice-extent-items.ensures) (all_taken IsExtent c.as_slice-extent-items.result.now c.loop-extent.extent-index c.loop-extent-test.false c.loop-extent.invariant.sized)
