-- The one file of a snapshot, and what can be written.
use Rattle.std.specs.Prelude.{◌≡◌, ◌<◌, ◌≤◌, ◌^◌, ℕ, List, [], ◌∷◌, ◌++◌}
use Rattle.std.specs.Prelude.{length, map, true, Option, None, Some, IfSome}
use Rattle.std.specs.List.{flat_map, AllByRecursion}
use Rattle.std.specs.Int.{w32, w64, to_le_bytes}
use Rattle.std.specs.Str.{IsUtf8}
use Rattle.zarr_path.specs.Paths.{is_path}
use Rattle.ice_base.specs.Lists.{IsBytes}
use Rattle.ice_ids.specs.declared.Id12.{Id12}
use Rattle.ice_ids.specs.Text.{IsId8, IsId12}
use Rattle.file_fields.specs.Fields.{id8_part, id12_part, bytes_part}
use Rattle.flat_tables.specs.declared.header.Kind.TheVariants as kinds
use Rattle.flat_tables.specs.Header.{header}
use Rattle.flat_tables.specs.Rows.{Ascends}
use Rattle.flat_tables.specs.Layout.{Part, Block, zeros, scalar, offset_to, part_if, text_block}
use Rattle.flat_tables.specs.Layout.{vector_block, tables_block, table_block, payload}
use Rattle.snapshot_file.specs.declared.nodes.ManifestRef.{ManifestRef}
use Rattle.snapshot_file.specs.declared.nodes.NodeKind.{NodeKind}
use Rattle.snapshot_file.specs.declared.nodes.NodeKind.TheVariants.{Group, Array}
use Rattle.snapshot_file.specs.declared.nodes.NodeRow.{NodeRow}
use Rattle.snapshot_file.specs.declared.snapshot.ManifestInfo.{ManifestInfo}
use Rattle.snapshot_file.specs.declared.snapshot.SnapshotFile.{SnapshotFile}
use Rattle.snapshot_file.specs.Props.{AreProps}
use Rattle.snapshot_file.specs.Snapshots.{node_limit, node_key, file_key, first_unlisted}

abbrev pub text_part : List ℕ → Part
text_part text = offset_to (text_block text)

-- table DimensionName
abbrev pub name_parts : Option (List ℕ) → List Part
name_parts name = part_if text_part name ∷ []

abbrev pub name_block : Option (List ℕ) → Block
name_block name = table_block (name_parts name)

abbrev pub names_part : List (Option (List ℕ)) → Part
names_part names = offset_to (tables_block (map name_block names))

-- table ManifestRef
abbrev pub extent_bytes : ℕ × ℕ → List ℕ
extent_bytes extent = to_le_bytes w32 extent.0 ++ to_le_bytes w32 extent.1

abbrev pub extents_part : List (ℕ × ℕ) → Part
extents_part extents = offset_to (vector_block 4 (length extents) (flat_map extent_bytes extents))

abbrev pub manifest_parts : ManifestRef → List Part
manifest_parts manifest = id12_part manifest.id ∷ extents_part manifest.extents ∷ []

abbrev pub manifest_block : ManifestRef → Block
manifest_block manifest = table_block (manifest_parts manifest)

abbrev pub manifests_part : List ManifestRef → Part
manifests_part manifests = offset_to (tables_block (map manifest_block manifests))

-- tables GroupNodeData and ArrayNodeData
abbrev pub dimension_bytes : ℕ × ℕ → List ℕ
dimension_bytes dimension = to_le_bytes w64 dimension.0 ++ to_le_bytes w64 dimension.1

abbrev pub shape_part : List (ℕ × ℕ) → Part
shape_part shape = offset_to (vector_block 8 (length shape) (flat_map dimension_bytes shape))

abbrev pub kind_parts : NodeKind → List Part
kind_parts Group = []
kind_parts (Array shape names manifests) =
    shape_part shape ∷ part_if names_part names ∷ manifests_part manifests ∷ []

unfoldable pub kind_block : NodeKind → Block
kind_block kind = table_block (kind_parts kind)

abbrev pub type_of : NodeKind → ℕ
type_of Group = 2
type_of (Array shape names manifests) = 1

-- table NodeSnapshot
abbrev pub node_parts : NodeRow → List Part
node_parts node =
    id8_part node.id ∷ text_part node.path ∷ bytes_part node.user_data
    ∷ scalar 1 (type_of node.kind)
    ∷ offset_to (kind_block node.kind) ∷ []

abbrev pub node_block : NodeRow → Block
node_block node = table_block (node_parts node)

abbrev pub nodes_part : List NodeRow → Part
nodes_part nodes = offset_to (tables_block (map node_block nodes))

-- table Property
abbrev pub prop_parts : List ℕ × List ℕ → List Part
prop_parts prop = text_part prop.0 ∷ text_part prop.1 ∷ []

abbrev pub prop_block : List ℕ × List ℕ → Block
prop_block prop = table_block (prop_parts prop)

abbrev pub props_part : List (List ℕ × List ℕ) → Part
props_part props = offset_to (tables_block (map prop_block props))

-- properties, where there are any
abbrev pub some_props : List (List ℕ × List ℕ) → Option (List (List ℕ × List ℕ))
some_props [] = None
some_props (prop ∷ props) = Some (prop ∷ props)

-- struct ManifestFileInfo: two halves of 16 bytes
abbrev pub info_head : Id12 → List ℕ
info_head id = id.0 ++ zeros 4

abbrev pub info_tail : (size refs : ℕ) → List ℕ
info_tail size refs = to_le_bytes w64 size ++ to_le_bytes w32 refs ++ zeros 4

abbrev pub info_bytes : ManifestInfo → List ℕ
info_bytes file = info_head file.id ++ info_tail file.size file.refs

abbrev pub files_part : List ManifestInfo → Part
files_part files = offset_to (vector_block 8 (length files) (flat_map info_bytes files))

-- table Snapshot
abbrev pub snapshot_parts : SnapshotFile → List Part
snapshot_parts s =
    id12_part s.id ∷ part_if id12_part s.parent ∷ nodes_part s.nodes
    ∷ scalar 8 s.flushed_at ∷ text_part s.message
    ∷ part_if props_part (some_props s.props) ∷ files_part s.manifest_files ∷ []

unfoldable pub snapshot_block : SnapshotFile → Block
snapshot_block s = table_block (snapshot_parts s)

-- the bytes of its file
unfoldable pub snapshot_bytes : SnapshotFile → List ℕ
snapshot_bytes s = header kinds.Snapshot ++ payload (snapshot_block s)

-- what can be written: the nodes and the manifest files strictly ascend, the nodes keep to their
-- limit, and the manifests that they name are listed
pub record IsWritable (s : SnapshotFile) : Type 0 where
  pub few : length s.nodes ≤ node_limit
  pub nodes : Ascends node_key None s.nodes
  pub files : Ascends file_key None s.manifest_files
  pub listed : first_unlisted s.manifest_files s.nodes ≡ None

-- what the types say of a snapshot: ids are 12 or 8 bytes, numbers have their width, texts are
-- UTF-8, data is bytes, and properties keep their rule
abbrev pub IsDimension : ℕ × ℕ → Type 0
IsDimension dimension = (dimension.0 < 2 ^ 64) × (dimension.1 < 2 ^ 64)

abbrev pub IsExtent : ℕ × ℕ → Type 0
IsExtent extent = (extent.0 < 2 ^ 32) × (extent.1 < 2 ^ 32)

abbrev pub IsName : Option (List ℕ) → Type 0
IsName name = IfSome name IsUtf8

pub record IsManifest (manifest : ManifestRef) : Type 0 where
  pub id : IsId12 manifest.id
  pub extents : AllByRecursion IsExtent manifest.extents

pub record IsArray (shape : List (ℕ × ℕ)) (names : Option (List (Option (List ℕ))))
    (manifests : List ManifestRef) : Type 0 where
  pub shape_is : AllByRecursion IsDimension shape
  pub names_are : IfSome names (AllByRecursion IsName)
  pub manifests_are : AllByRecursion IsManifest manifests

abbrev pub IsKind : NodeKind → Type 0
IsKind Group = Unit {0}
IsKind (Array shape names manifests) = IsArray shape names manifests

pub record IsNode (node : NodeRow) : Type 0 where
  pub id : IsId8 node.id
  pub path : is_path node.path ≡ true
  pub text : IsUtf8 node.path
  pub user_data : IsBytes node.user_data
  pub kind : IsKind node.kind

pub record IsInfo (file : ManifestInfo) : Type 0 where
  pub id : IsId12 file.id
  pub size : file.size < 2 ^ 64
  pub refs : file.refs < 2 ^ 32

pub record IsSnapshot (s : SnapshotFile) : Type 0 where
  pub id : IsId12 s.id
  pub parent : IfSome s.parent IsId12
  pub nodes : AllByRecursion IsNode s.nodes
  pub flushed_at : s.flushed_at < 2 ^ 64
  pub message : IsUtf8 s.message
  pub props : AreProps s.props
  pub files : AllByRecursion IsInfo s.manifest_files
