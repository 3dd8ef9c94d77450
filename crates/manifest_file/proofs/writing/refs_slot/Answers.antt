use Rattle.std.proofs.Common.{ap, ◌∙◌}
use Rattle.flat_tables.proofs.Building.{no_tables, one_more_table, tables_writable}
use Rattle.file_fields.proofs.BuildingLaws.{all_more, all_taken, tables_of}
use Rattle.manifest_file.specs.Layout.{ref_block, refs_part, IsRef}
use Rattle.manifest_file.proofs.writing.refs_slot.Goals as goal

pub loop-chunk-init : goal.loop-chunk-init
loop-chunk-init c = record { built = rw c.new-tables.ensures.items (no_tables ref_block (λ x. x) c.as_slice-chunk-items.result.now); sized = tt }

pub loop-chunk-preserved : goal.loop-chunk-preserved
loop-chunk-preserved c =
    let xs = c.as_slice-chunk-items.result.now in
    let x = c.chunk-item.result in
    let i = c.loop-chunk.chunk-index in
    record {
      built = rw c.in_ok-push.ensures.items (one_more_table ref_block (λ y. y) xs i x c.loop-chunk.tables.items c.in_ok-ref_table.field-0 c.loop-chunk-test.true c.chunk-item.is c.loop-chunk.invariant.built c.in_ok-ref_table.ensures.block c.in_ok-ref_table.ensures.writable);
      sized = all_more IsRef xs i x c.loop-chunk-test.true c.chunk-item.is c.loop-chunk.invariant.sized c.in_ok-ref_table.ensures.sized;
    }

pub returns-clause-part : goal.returns-clause-part
returns-clause-part c =
    tables_of ref_block c.as_slice-chunk-items.result.now c.loop-chunk.chunk-index c.loop-chunk.tables c.loop-chunk-test.false c.loop-chunk.invariant.built ∙ ap refs_part c.as_slice-chunk-items.ensures

pub returns-clause-writable : goal.returns-clause-writable
returns-clause-writable c = tables_writable ref_block (λ x. x) c.as_slice-chunk-items.result.now c.loop-chunk.chunk-index c.loop-chunk.tables c.loop-chunk.invariant.built

pub returns-clause-sized : goal.returns-clause-sized
returns-clause-sized c = rw (← c.as_slice-chunk-items.ensures) (all_taken IsRef c.as_slice-chunk-items.result.now c.loop-chunk.chunk-index c.loop-chunk-test.false c.loop-chunk.invariant.sized)
