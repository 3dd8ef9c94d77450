use Rattle.std.proofs.Common.{ap, ◌∙◌}
use Rattle.flat_tables.proofs.Building.{no_tables, one_more_table, tables_writable}
use Rattle.snapshot_file.specs.Layout.{prop_block, props_part}
use Rattle.file_fields.proofs.BuildingLaws.{tables_of}
use Rattle.snapshot_file.proofs.property_writing.props_slot.Goals as goal

pub loop-prop-init : goal.loop-prop-init
loop-prop-init c = rw c.new-tables.ensures.items (no_tables prop_block (λ x. x) c.rows-prop-items.result.now)

pub loop-prop-preserved : goal.loop-prop-preserved
loop-prop-preserved c =
    let xs = c.rows-prop-items.result.now in
    let x = c.prop-item.result in
    let i = c.loop-prop.prop-index in
    rw c.in_ok-push.ensures.items (one_more_table prop_block (λ y. y) xs i x c.loop-prop.tables.items c.in_ok-prop_table.field-0 c.loop-prop-test.true c.prop-item.is c.loop-prop.invariant c.in_ok-prop_table.ensures.block c.in_ok-prop_table.ensures.writable)

pub returns-clause-part : goal.returns-clause-part
returns-clause-part c =
    tables_of prop_block c.rows-prop-items.result.now c.loop-prop.prop-index c.loop-prop.tables c.loop-prop-test.false c.loop-prop.invariant ∙ ap props_part c.rows-prop-items.ensures.rows

pub returns-clause-writable : goal.returns-clause-writable
returns-clause-writable c = tables_writable prop_block (λ x. x) c.rows-prop-items.result.now c.loop-prop.prop-index c.loop-prop.tables c.loop-prop.invariant
