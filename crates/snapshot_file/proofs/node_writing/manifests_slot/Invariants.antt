use Rattle.std.proofs.Common.{take}
use Rattle.std.specs.List.{AllByRecursion}
use Rattle.flat_tables.proofs.Building.{TablesBuilt}
use Rattle.snapshot_file.specs.Layout.{manifest_block, IsManifest}
use Rattle.snapshot_file.proofs.node_writing.manifests_slot.Given as goal

abbrev pub invariant-loop-manifest : goal.invariant-loop-manifest
invariant-loop-manifest l = record {
  built : TablesBuilt manifest_block (λ x. x) l.manifest-items l.manifest-index l.tables.items;
  sized : AllByRecursion IsManifest (take l.manifest-index l.manifest-items);
}
