use Rattle.std.proofs.Common.{ap, ◌∙◌}
use Rattle.flat_tables.proofs.Building.{no_tables, one_more_table, tables_writable}
use Rattle.txn_file.specs.Layout.{array_block, arrays_part, IsArray}
use Rattle.file_fields.proofs.BuildingLaws.{all_more, all_taken, tables_of}
use Rattle.txn_file.proofs.writing.arrays_slot.Goals as goal

pub loop-array-init : goal.loop-array-init
loop-array-init c = record { built = rw c.new-tables.ensures.items (no_tables array_block (λ x. x) c.as_slice-array-items.result.now); sized = tt }

pub loop-array-preserved : goal.loop-array-preserved
loop-array-preserved c =
    let xs = c.as_slice-array-items.result.now in
    let x = c.array-item.result in
    let i = c.loop-array.array-index in
    record {
      built = rw c.in_ok-push.ensures.items (one_more_table array_block (λ y. y) xs i x c.loop-array.tables.items c.in_ok-array_table.field-0 c.loop-array-test.true c.array-item.is c.loop-array.invariant.built c.in_ok-array_table.ensures.block c.in_ok-array_table.ensures.writable);
      sized = all_more IsArray xs i x c.loop-array-test.true c.array-item.is c.loop-array.invariant.sized c.in_ok-array_table.ensures.sized;
    }

pub returns-clause-part : goal.returns-clause-part
returns-clause-part c =
    tables_of array_block c.as_slice-array-items.result.now c.loop-array.array-index c.loop-array.tables c.loop-array-test.false c.loop-array.invariant.built ∙ ap arrays_part c.as_slice-array-items.ensures

pub returns-clause-writable : goal.returns-clause-writable
returns-clause-writable c = tables_writable array_block (λ x. x) c.as_slice-array-items.result.now c.loop-array.array-index c.loop-array.tables c.loop-array.invariant.built

pub returns-clause-sized : goal.returns-clause-sized
returns-clause-sized c = rw (← c.as_slice-array-items.ensures) (all_taken IsArray c.as_slice-array-items.result.now c.loop-array.array-index c.loop-array-test.false c.loop-array.invariant.sized)
