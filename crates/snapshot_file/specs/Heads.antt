-- A snapshot without its nodes.
use Rattle.std.specs.Prelude.{List}
use Rattle.snapshot_file.specs.declared.nodes.NodeRow.{NodeRow}
use Rattle.snapshot_file.specs.declared.snapshot.SnapshotHead.{SnapshotHead}
use Rattle.snapshot_file.specs.declared.snapshot.SnapshotFile.{SnapshotFile}

-- the snapshot that has these nodes
abbrev pub with_nodes : SnapshotHead → List NodeRow → SnapshotFile
with_nodes head nodes = record {
  id = head.id;
  parent = head.parent;
  nodes = nodes;
  flushed_at = head.flushed_at;
  message = head.message.now;
  props = head.props.now;
  manifest_files = head.manifest_files.now;
}
