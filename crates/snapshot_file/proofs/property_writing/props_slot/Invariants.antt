use Rattle.flat_tables.proofs.Building.{TablesBuilt}
use Rattle.snapshot_file.specs.Layout.{prop_block}
use Rattle.snapshot_file.proofs.property_writing.props_slot.Given as goal

abbrev pub invariant-loop-prop : goal.invariant-loop-prop
invariant-loop-prop l = TablesBuilt prop_block (λ x. x) l.prop-items l.prop-index l.tables.items
