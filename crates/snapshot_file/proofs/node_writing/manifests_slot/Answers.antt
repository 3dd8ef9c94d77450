use Rattle.std.proofs.Common.{ap, ◌∙◌}
use Rattle.flat_tables.proofs.Building.{no_tables, one_more_table, tables_writable}
use Rattle.snapshot_file.specs.Layout.{manifest_block, manifests_part, IsManifest}
use Rattle.file_fields.proofs.BuildingLaws.{all_more, all_taken, tables_of}
use Rattle.snapshot_file.proofs.node_writing.manifests_slot.Goals as goal

pub loop-manifest-init : goal.loop-manifest-init
loop-manifest-init c = record { built = rw c.new-tables.ensures.items (no_tables manifest_block (λ x. x) c.as_slice-manifest-items.result.now); sized = tt }

pub loop-manifest-preserved : goal.loop-manifest-preserved
loop-manifest-preserved c =
    let xs = c.as_slice-manifest-items.result.now in
    let x = c.manifest-item.result in
    let i = c.loop-manifest.manifest-index in
    record {
      built = rw c.in_ok-push.ensures.items (one_more_table manifest_block (λ y. y) xs i x c.loop-manifest.tables.items c.in_ok-manifest_table.field-0 c.loop-manifest-test.true c.manifest-item.is c.loop-manifest.invariant.built c.in_ok-manifest_table.ensures.block c.in_ok-manifest_table.ensures.writable);
      sized = all_more IsManifest xs i x c.loop-manifest-test.true c.manifest-item.is c.loop-manifest.invariant.sized c.in_ok-manifest_table.ensures.sized;
    }

pub returns-clause-part : goal.returns-clause-part
returns-clause-part c =
    tables_of manifest_block c.as_slice-manifest-items.result.now c.loop-manifest.manifest-index c.loop-manifest.tables c.loop-manifest-test.false c.loop-manifest.invariant.built ∙ ap manifests_part c.as_slice-manifest-items.ensures

pub returns-clause-writable : goal.returns-clause-writable
returns-clause-writable c = tables_writable manifest_block (λ x. x) c.as_slice-manifest-items.result.now c.loop-manifest.manifest-index c.loop-manifest.tables c.loop-manifest.invariant.built

pub returns-clause-sized : goal.returns-clause-sized
returns-clause-sized c = rw (← c.as_slice-manifest-items.ensures) (all_taken IsManifest c.as_slice-manifest-items.result.now c.loop-manifest.manifest-index c.loop-manifest-test.false c.loop-manifest.invariant.sized)
