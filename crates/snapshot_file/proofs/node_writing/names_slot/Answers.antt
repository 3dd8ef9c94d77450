use Rattle.std.proofs.Common.{ap, ◌∙◌}
use Rattle.flat_tables.proofs.Building.{no_tables, one_more_table, tables_writable}
use Rattle.snapshot_file.specs.Layout.{name_block, names_part, IsName}
use Rattle.file_fields.proofs.BuildingLaws.{all_more, all_taken, tables_of}
use Rattle.snapshot_file.proofs.node_writing.names_slot.Goals as goal

pub loop-name-init : goal.loop-name-init
loop-name-init c = record { built = rw c.new-tables.ensures.items (no_tables name_block (λ x. x) c.as_slice-name-items.result.now); sized = tt }

pub loop-name-preserved : goal.loop-name-preserved
loop-name-preserved c =
    let xs = c.as_slice-name-items.result.now in
    let x = c.name-item.result in
    let i = c.loop-name.name-index in
    record {
      built = rw c.in_ok-push.ensures.items (one_more_table name_block (λ y. y) xs i x c.loop-name.tables.items c.in_ok-name_table.field-0 c.loop-name-test.true c.name-item.is c.loop-name.invariant.built c.in_ok-name_table.ensures.block c.in_ok-name_table.ensures.writable);
      sized = all_more IsName xs i x c.loop-name-test.true c.name-item.is c.loop-name.invariant.sized c.in_ok-name_table.ensures.sized;
    }

pub returns-clause-part : goal.returns-clause-part
returns-clause-part c =
    tables_of name_block c.as_slice-name-items.result.now c.loop-name.name-index c.loop-name.tables c.loop-name-test.false c.loop-name.invariant.built ∙ ap names_part c.as_slice-name-items.ensures

pub returns-clause-writable : goal.returns-clause-writable
returns-clause-writable c = tables_writable name_block (λ x. x) c.as_slice-name-items.result.now c.loop-name.name-index c.loop-name.tables c.loop-name.invariant.built

pub returns-clause-sized : goal.returns-clause-sized
returns-clause-sized c = rw (← c.as_slice-name-items.ensures) (all_taken IsName c.as_slice-name-items.result.now c.loop-name.name-index c.loop-name-test.false c.loop-name.invariant.sized)
