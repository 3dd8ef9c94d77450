-- Own: the initial snapshot of each repository.
use Rattle.std.specs.Prelude.{[], None, codes}
use Rattle.ice_ids.specs.Text.{initial_id}
use Rattle.snapshot_file.specs.declared.snapshot.SnapshotFile.{SnapshotFile}

-- it has no parent, no nodes, no properties and no manifests, and was flushed at 0
abbrev pub initial_snapshot : SnapshotFile
initial_snapshot = record {
  id = initial_id;
  parent = None;
  nodes = [];
  flushed_at = 0;
  message = codes "Repository initialized";
  props = [];
  manifest_files = [];
}
