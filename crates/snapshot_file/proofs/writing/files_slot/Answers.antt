use Rattle.std.proofs.Common.{◌≡◌, ◌++◌, append_assoc, ap, ◌∙◌, arith, lit<, refl, [], get_or}
use Rattle.flat_tables.proofs.Building.{no_bytes, one_more_item, structs_writable}
use Rattle.snapshot_file.specs.Layout.{info_head, info_tail, info_bytes, files_part, IsInfo}
use Rattle.file_fields.proofs.BuildingLaws.{element_is, all_more, all_taken, structs_of}
use Rattle.snapshot_file.proofs.Infos.{info_bytes_long}
use Rattle.snapshot_file.proofs.writing.files_slot.Goals as goal

pub loop-file-init : goal.loop-file-init
loop-file-init c = record { built = rw c.new-bytes.ensures.items (no_bytes info_bytes (λ x. x) 32 c.as_slice-file-items.result.now); sized = tt }

pub loop-file-preserved : goal.loop-file-preserved
loop-file-preserved c =
    let xs = c.as_slice-file-items.result.now in
    let i = c.loop-file.file-index in
    let x = get_or xs i (record { id = record { 0 = [] }; size = 0; refs = 0 }) in
    let is = element_is xs i (record { id = record { 0 = [] }; size = 0; refs = 0 }) c.loop-file-test.true in
    let first : c.extend_from_slice.new.self.items ≡ c.loop-file.bytes.items ++ info_head x.id = c.in_ok-extend_from_slice.ensures.items ∙ ap (λ bytes. c.loop-file.bytes.items ++ bytes) c.info_head.ensures.bytes in
    let second : c.extend_from_slice-in-loop-file.new.self.items ≡ c.extend_from_slice.new.self.items ++ info_tail x.size x.refs = c.in_ok-extend_from_slice-2.ensures.items ∙ ap (λ bytes. c.extend_from_slice.new.self.items ++ bytes) c.info_tail.ensures.bytes in
    let grown : c.extend_from_slice-in-loop-file.new.self.items ≡ c.loop-file.bytes.items ++ info_bytes x = second ∙ ap (λ bytes. bytes ++ info_tail x.size x.refs) first ∙ append_assoc c.loop-file.bytes.items (info_head x.id) (info_tail x.size x.refs) in
    let info : IsInfo x = record { id = c.info_head.ensures.sized; size = c.info_tail.ensures.size; refs = c.info_tail.ensures.refs } in
    record {
      built = one_more_item info_bytes (λ y. y) 32 xs i x c.loop-file.bytes.items c.extend_from_slice-in-loop-file.new.self.items c.loop-file-test.true is c.loop-file.invariant.built grown (info_bytes_long x info);
      sized = all_more IsInfo xs i x c.loop-file-test.true is c.loop-file.invariant.sized info;
    }

pub returns-clause-part : goal.returns-clause-part
returns-clause-part c =
    structs_of info_bytes 8 32 c.as_slice-file-items.result.now c.loop-file.file-index c.loop-file.bytes (lit< tt) (omega arith) c.loop-file.invariant.built ∙ ap files_part c.as_slice-file-items.ensures

pub returns-clause-writable : goal.returns-clause-writable
returns-clause-writable c = structs_writable info_bytes (λ x. x) 8 32 c.as_slice-file-items.result.now c.loop-file.file-index c.loop-file.bytes refl (lit< tt) c.loop-file.invariant.built

pub returns-clause-sized : goal.returns-clause-sized
returns-clause-sized c = rw (← c.as_slice-file-items.ensures) (all_taken IsInfo c.as_slice-file-items.result.now c.loop-file.file-index c.loop-file-test.false c.loop-file.invariant.sized)
