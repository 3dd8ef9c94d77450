use Rattle.std.proofs.Common.{◌≡◌, ◌++◌, ap, ◌∙◌, arith, lit<, refl, get_or}
use Rattle.flat_tables.proofs.Building.{no_bytes, one_more_item, structs_writable}
use Rattle.snapshot_file.specs.Layout.{dimension_bytes, shape_part, IsDimension}
use Rattle.file_fields.proofs.BuildingLaws.{element_is, all_more, all_taken, structs_of}
use Rattle.snapshot_file.proofs.node_writing.shape_slot.Goals as goal

pub loop-dimension-init : goal.loop-dimension-init
loop-dimension-init c = record { built = rw c.new-bytes.ensures.items (no_bytes dimension_bytes (λ x. x) 16 c.as_slice-dimension-items.result.now); sized = tt }

pub loop-dimension-preserved : goal.loop-dimension-preserved
loop-dimension-preserved c =
    let xs = c.as_slice-dimension-items.result.now in
    let i = c.loop-dimension.dimension-index in
    let x = get_or xs i (0, 0) in
    let is = element_is xs i (0, 0) c.loop-dimension-test.true in
    let grown : c.extend_from_slice.new.self.items ≡ c.loop-dimension.bytes.items ++ dimension_bytes x = c.in_ok-extend_from_slice.ensures.items ∙ ap (λ bytes. c.loop-dimension.bytes.items ++ bytes) c.dimension_bytes.ensures.bytes in
    record {
      built = one_more_item dimension_bytes (λ y. y) 16 xs i x c.loop-dimension.bytes.items c.extend_from_slice.new.self.items c.loop-dimension-test.true is c.loop-dimension.invariant.built grown refl;
      sized = all_more IsDimension xs i x c.loop-dimension-test.true is c.loop-dimension.invariant.sized c.dimension_bytes.ensures.numbers;
    }

pub returns-clause-part : goal.returns-clause-part
returns-clause-part c =
    structs_of dimension_bytes 8 16 c.as_slice-dimension-items.result.now c.loop-dimension.dimension-index c.loop-dimension.bytes (lit< tt) (omega arith) c.loop-dimension.invariant.built ∙ ap shape_part c.as_slice-dimension-items.ensures

pub returns-clause-writable : goal.returns-clause-writable
returns-clause-writable c = structs_writable dimension_bytes (λ x. x) 8 16 c.as_slice-dimension-items.result.now c.loop-dimension.dimension-index c.loop-dimension.bytes refl (lit< tt) c.loop-dimension.invariant.built

pub returns-clause-sized : goal.returns-clause-sized
returns-clause-sized c = rw (← c.as_slice-dimension-items.ensures) (all_taken IsDimension c.as_slice-dimension-items.result.now c.loop-dimension.dimension-index c.loop-dimension-test.false c.loop-dimension.invariant.sized)
