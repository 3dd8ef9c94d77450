-- What the payload of a snapshot says. (Icechunk specification version 1, "Snapshot"; which slot
-- has what, the limits on the nodes and the properties, and that lists stand in order, is own.)
use Rattle.std.specs.Prelude.{ℕ, not, if◌then◌else◌, Bool, List, [], position, take}
use Rattle.std.specs.Prelude.{drop, Option, Some, None, Result, Ok, Err, option_map}
use Rattle.std.specs.Int.{w32, w64, from_le_bytes}
use Rattle.std.specs.List.{list_all, list_any}
use Rattle.ice_ids.specs.declared.Id12.{Id12}
use Rattle.ice_ids.specs.Text.{same_id12}
use Rattle.flat_tables.specs.declared.header.Kind.TheVariants as kinds
use Rattle.flat_tables.specs.declared.fault.FileFault.{FileFault}
use Rattle.flat_tables.specs.declared.fault.FileFault.TheVariants as faults
use Rattle.flat_tables.specs.File.{file_of}
use Rattle.flat_tables.specs.Step.{◌>>=◌}
use Rattle.flat_tables.specs.Places.{TableIn, VectorIn, root_of, struct_of}
use Rattle.flat_tables.specs.Places.{scalar_of, text_of, vector_of, item_of, table_of}
use Rattle.flat_tables.specs.Rows.{flat, required, optional_rows, at_most, rows, each, in_order}
use Rattle.file_fields.specs.Fields.{id12_of}
use Rattle.snapshot_file.specs.declared.nodes.ManifestRef.{ManifestRef}
use Rattle.snapshot_file.specs.declared.nodes.NodeKind.{NodeKind}
use Rattle.snapshot_file.specs.declared.nodes.NodeKind.TheVariants.{Group, Array}
use Rattle.snapshot_file.specs.declared.nodes.NodeRow.{NodeRow}
use Rattle.snapshot_file.specs.declared.snapshot.ManifestInfo.{ManifestInfo}
use Rattle.snapshot_file.specs.declared.snapshot.SnapshotFile.{SnapshotFile}
use Rattle.snapshot_file.specs.Nodes.{node_at}
use Rattle.snapshot_file.specs.Props.{prop_limit, is_prop, prop_key}

-- the most nodes of a snapshot
abbrev pub node_limit : ℕ
node_limit = 65536

-- nodes stand in the order of their paths' bytes, manifest files in that of their ids
abbrev pub node_key : NodeRow → List ℕ
node_key node = node.path

abbrev pub file_key : ManifestInfo → List ℕ
file_key file = file.id.0

abbrev pub nodes_in : VectorIn → Result (List NodeRow) FileFault
nodes_in v = rows (in_order node_key 2 (each (node_at v))) [] v.count

unfoldable pub nodes_of : TableIn → Result (List NodeRow) FileFault
nodes_of t = do
  v ← required 2 (vector_of t 2 4)
  _ ← at_most node_limit v.count
  nodes_in v

-- table Property, of property number `at`: both its slots, then whether a property may have them
unfoldable pub property_of : ℕ → TableIn → Result (List ℕ × List ℕ) FileFault
property_of at t = do
  name ← required 0 (text_of t 0)
  value ← required 1 (text_of t 1)
  if is_prop (name, value) then Ok (name, value) else Err (faults.Property at)

unfoldable pub property_at : VectorIn → ℕ → Result (List ℕ × List ℕ) FileFault
property_at v i = flat (table_of v i) >>= property_of i

abbrev pub properties_in : VectorIn → Result (List (List ℕ × List ℕ)) FileFault
properties_in v = rows (in_order prop_key 5 (each (property_at v))) [] v.count

abbrev pub few_properties_in : VectorIn → Result (List (List ℕ × List ℕ)) FileFault
few_properties_in v = at_most prop_limit v.count >>= λ _. properties_in v

unfoldable pub properties_of : TableIn → Result (List (List ℕ × List ℕ)) FileFault
properties_of t = optional_rows (vector_of t 5 4) few_properties_in

-- struct ManifestFileInfo, 32 bytes: the id, 4 bytes, the file's length,
-- its number of chunks, and 4 bytes
abbrev pub info_of : List ℕ → ManifestInfo
info_of bytes = record {
  id = record { 0 = take 12 bytes };
  size = from_le_bytes w64 (take 8 (drop 16 bytes));
  refs = from_le_bytes w32 (take 4 (drop 24 bytes));
}

abbrev pub info_at : VectorIn → ℕ → Result ManifestInfo FileFault
info_at v i = Ok (info_of (item_of v i))

abbrev pub files_in : VectorIn → Result (List ManifestInfo) FileFault
files_in v = rows (in_order file_key 6 (each (info_at v))) [] v.count

unfoldable pub files_of : TableIn → Result (List ManifestInfo) FileFault
files_of t = optional_rows (vector_of t 6 32) files_in

-- the manifests that a node names
abbrev pub manifests_named : NodeKind → List ManifestRef
manifests_named Group = []
manifests_named (Array shape names manifests) = manifests

abbrev pub is_listed : List ManifestInfo → ManifestRef → Bool
is_listed files manifest = list_any (λ file. same_id12 file.id manifest.id) files

abbrev pub all_listed : List ManifestInfo → NodeRow → Bool
all_listed files node = list_all (is_listed files) (manifests_named node.kind)

-- the number of the first node that names a manifest which isn't among the files
unfoldable pub first_unlisted : List ManifestInfo → List NodeRow → Option ℕ
first_unlisted files nodes = position (λ node. not (all_listed files node)) nodes

abbrev pub unless_unlisted : Option ℕ → SnapshotFile → Result SnapshotFile FileFault
unless_unlisted None snapshot = Ok snapshot
unless_unlisted (Some at) snapshot = Err (faults.Unlisted at)

abbrev pub id_if : Option (List ℕ) → Option Id12
id_if id = option_map (λ bytes. record { 0 = bytes }) id

-- the snapshot that it followed
abbrev pub parent_of : TableIn → Result (Option Id12) FileFault
parent_of t = do
  parent ← flat (struct_of t 1 12)
  Ok (id_if parent)

-- the slots behind the nodes: when it was flushed, the message, the
-- properties, and the manifest files
unfoldable pub rest_of : TableIn
    → Result (ℕ × (List ℕ × (List (List ℕ × List ℕ) × List ManifestInfo))) FileFault
rest_of t = do
  flushed_at ← required 3 (scalar_of t 3 8)
  message ← required 4 (text_of t 4)
  props ← properties_of t
  files ← files_of t
  Ok (flushed_at, (message, (props, files)))

-- table Snapshot: what the payload says, or its first fault
unfoldable pub payload_of : List ℕ → Result SnapshotFile FileFault
payload_of payload = do
  t ← flat (root_of payload)
  id ← id12_of t 0
  parent ← parent_of t
  nodes ← nodes_of t
  rest ← rest_of t
  unless_unlisted (first_unlisted rest.1.1.1 nodes) (record {
    id = id;
    parent = parent;
    nodes = nodes;
    flushed_at = rest.0;
    message = rest.1.0;
    props = rest.1.1.0;
    manifest_files = rest.1.1.1;
  })

-- the snapshot that a file stands for, or the file's first fault
unfoldable pub snapshot_of : List ℕ → Result SnapshotFile FileFault
snapshot_of file = file_of kinds.Snapshot payload_of file
