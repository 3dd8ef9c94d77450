use Rattle.std.proofs.Common.{ap, ◌∙◌}
use Rattle.flat_tables.proofs.Building.{no_tables, one_more_table, tables_writable}
use Rattle.txn_file.specs.Layout.{index_block, indices_part}
use Rattle.file_fields.specs.Fields.{IsIndex}
use Rattle.file_fields.proofs.BuildingLaws.{all_more, all_taken, tables_of}
use Rattle.txn_file.proofs.writing.indices_slot.Goals as goal

pub loop-index-init : goal.loop-index-init
loop-index-init c = record { built = rw c.new-tables.ensures.items (no_tables index_block (λ x. x) c.as_slice-index-items.result.now); sized = tt }

pub loop-index-preserved : goal.loop-index-preserved
loop-index-preserved c =
    let xs = c.as_slice-index-items.result.now in
    let x = c.index-item.result in
    let i = c.loop-index.index-index in
    record {
      built = rw c.in_ok-push.ensures.items (one_more_table index_block (λ y. y) xs i x c.loop-index.tables.items c.in_ok-index_table.field-0 c.loop-index-test.true c.index-item.is c.loop-index.invariant.built c.in_ok-index_table.ensures.block c.in_ok-index_table.ensures.writable);
      sized = all_more IsIndex xs i x c.loop-index-test.true c.index-item.is c.loop-index.invariant.sized c.in_ok-index_table.ensures.sized;
    }

pub returns-clause-part : goal.returns-clause-part
returns-clause-part c =
    tables_of index_block c.as_slice-index-items.result.now c.loop-index.index-index c.loop-index.tables c.loop-index-test.false c.loop-index.invariant.built ∙ ap indices_part c.as_slice-index-items.ensures

pub returns-clause-writable : goal.returns-clause-writable
returns-clause-writable c = tables_writable index_block (λ x. x) c.as_slice-index-items.result.now c.loop-index.index-index c.loop-index.tables c.loop-index.invariant.built

pub returns-clause-sized : goal.returns-clause-sized
returns-clause-sized c = rw (← c.as_slice-index-items.ensures) (all_taken IsIndex c.as_slice-index-items.result.now c.loop-index.index-index c.loop-index-test.false c.loop-index.invariant.sized)
