-- What is written of a snapshot is bytes.
use Rattle.std.proofs.Common.{◌≡◌, ℕ, ◌++◌, true, ltb, List, [], ◌∷◌, length, map, Option, None, Some, refl}
use Rattle.std.specs.Prelude.{IfSome}
use Rattle.std.specs.Int.{w32, w64, to_le_bytes}
use Rattle.std.specs.List.{list_all, flat_map, AllByRecursion}
use Rattle.std.specs.Str.{IsUtf8}
use Rattle.ice_ids.specs.declared.Id12.{Id12}
use Rattle.ice_ids.specs.Text.{IsId12}
use Rattle.flat_tables.specs.declared.header.Kind.TheVariants as kinds
use Rattle.flat_tables.specs.Header.{header}
use Rattle.flat_tables.specs.Layout.{zeros, vector_block, text_block, tables_block, payload}
use Rattle.file_fields.specs.Fields.{id12_part, bytes_part}
use Rattle.file_fields.proofs.Bytes.{AreBytes, bytes_both, zeros_are, bytes_tested, bytes_pass, number_bytes, utf8_bytes}
use Rattle.file_fields.proofs.Blocks.{OfBytes, HasBytes, inline_has, scalar_has, offset_has, part_if_has, vector_of_bytes, text_of_bytes, each_bytes, tables_of_bytes, table_of_bytes, payload_of_bytes}
use Rattle.snapshot_file.specs.declared.nodes.ManifestRef.{ManifestRef}
use Rattle.snapshot_file.specs.declared.nodes.NodeKind.{NodeKind}
use Rattle.snapshot_file.specs.declared.nodes.NodeKind.TheVariants.{Group, Array}
use Rattle.snapshot_file.specs.declared.nodes.NodeRow.{NodeRow}
use Rattle.snapshot_file.specs.declared.snapshot.ManifestInfo.{ManifestInfo}
use Rattle.snapshot_file.specs.declared.snapshot.SnapshotFile.{SnapshotFile}
use Rattle.snapshot_file.specs.Props.{IsProperty}
use Rattle.snapshot_file.specs.Layout.{text_part, name_parts, name_block, names_part, extent_bytes, extents_part, manifest_parts, manifest_block, manifests_part, dimension_bytes, shape_part, kind_parts, kind_block, type_of, node_parts, node_block, nodes_part, prop_parts, prop_block, props_part, some_props, info_head, info_tail, info_bytes, files_part, snapshot_parts, snapshot_block, snapshot_bytes, IsDimension, IsExtent, IsName, IsManifest, IsKind, IsNode, IsInfo, IsSnapshot}

text_has : (text : List ℕ) → IsUtf8 text → HasBytes (text_part text)
text_has text is = offset_has (text_block text) (text_of_bytes text (utf8_bytes text is))

-- ---- names, manifests and shapes

text_if_has : (text : Option (List ℕ)) → IsName text → IfSome text (λ x. HasBytes (text_part x))
text_if_has None is = tt
text_if_has (Some text) is = text_has text is

name_of_bytes : (name : Option (List ℕ)) → IsName name → OfBytes (name_block name)
name_of_bytes name is = table_of_bytes (name_parts name) (part_if_has text_part name (text_if_has name is), tt)

names_have : (names : List (Option (List ℕ))) → AllByRecursion IsName names → HasBytes (names_part names)
names_have names are = offset_has (tables_block (map name_block names)) (tables_of_bytes IsName name_block name_of_bytes names are)

names_if_have : (names : Option (List (Option (List ℕ)))) → IfSome names (AllByRecursion IsName) → IfSome names (λ x. HasBytes (names_part x))
names_if_have None are = tt
names_if_have (Some names) are = names_have names are

extent_are : (extent : ℕ × ℕ) → IsExtent extent → AreBytes (extent_bytes extent)
extent_are extent is = bytes_both (to_le_bytes w32 extent.0) (to_le_bytes w32 extent.1) (number_bytes w32 extent.0) (number_bytes w32 extent.1)

extents_have : (extents : List (ℕ × ℕ)) → AllByRecursion IsExtent extents → HasBytes (extents_part extents)
extents_have extents are =
    let bytes = flat_map extent_bytes extents in
    offset_has (vector_block 4 (length extents) bytes) (vector_of_bytes 4 (length extents) bytes (each_bytes IsExtent extent_bytes extent_are extents are))

manifest_of_bytes : (manifest : ManifestRef) → IsManifest manifest → OfBytes (manifest_block manifest)
manifest_of_bytes manifest is = table_of_bytes (manifest_parts manifest) (inline_has 1 manifest.id.0 is.id.1, (extents_have manifest.extents is.extents, tt))

manifests_have : (manifests : List ManifestRef) → AllByRecursion IsManifest manifests → HasBytes (manifests_part manifests)
manifests_have manifests are = offset_has (tables_block (map manifest_block manifests)) (tables_of_bytes IsManifest manifest_block manifest_of_bytes manifests are)

dimension_are : (dimension : ℕ × ℕ) → IsDimension dimension → AreBytes (dimension_bytes dimension)
dimension_are dimension is = bytes_both (to_le_bytes w64 dimension.0) (to_le_bytes w64 dimension.1) (number_bytes w64 dimension.0) (number_bytes w64 dimension.1)

shape_has : (shape : List (ℕ × ℕ)) → AllByRecursion IsDimension shape → HasBytes (shape_part shape)
shape_has shape are =
    let bytes = flat_map dimension_bytes shape in
    offset_has (vector_block 8 (length shape) bytes) (vector_of_bytes 8 (length shape) bytes (each_bytes IsDimension dimension_bytes dimension_are shape are))

-- ---- nodes

kind_of_bytes : (kind : NodeKind) → IsKind kind → OfBytes (kind_block kind)
unfolding kind_block
kind_of_bytes Group is = table_of_bytes (kind_parts Group) tt
kind_of_bytes (Array shape names manifests) is =
    table_of_bytes (kind_parts (Array shape names manifests)) (shape_has shape is.shape_is, (part_if_has names_part names (names_if_have names is.names_are), (manifests_have manifests is.manifests_are, tt)))

data_has : (bytes : List ℕ) → AreBytes bytes → HasBytes (bytes_part bytes)
data_has bytes are = offset_has (vector_block 1 (length bytes) bytes) (vector_of_bytes 1 (length bytes) bytes are)

node_of_bytes : (node : NodeRow) → IsNode node → OfBytes (node_block node)
node_of_bytes node is =
    table_of_bytes (node_parts node)
    (inline_has 1 node.id.0 is.id.1, (text_has node.path is.text, (data_has node.user_data is.user_data, (scalar_has 1 (type_of node.kind), (offset_has (kind_block node.kind) (kind_of_bytes node.kind is.kind), tt)))))

nodes_have : (nodes : List NodeRow) → AllByRecursion IsNode nodes → HasBytes (nodes_part nodes)
nodes_have nodes are = offset_has (tables_block (map node_block nodes)) (tables_of_bytes IsNode node_block node_of_bytes nodes are)

-- ---- the snapshot

info_are : (file : ManifestInfo) → IsInfo file → AreBytes (info_bytes file)
info_are file is =
    let size = to_le_bytes w64 file.size in
    let refs = to_le_bytes w32 file.refs in
    bytes_both (info_head file.id) (info_tail file.size file.refs) (bytes_both file.id.0 (zeros 4) is.id.1 (zeros_are 4)) (bytes_both size (refs ++ zeros 4) (number_bytes w64 file.size) (bytes_both refs (zeros 4) (number_bytes w32 file.refs) (zeros_are 4)))

files_have : (files : List ManifestInfo) → AllByRecursion IsInfo files → HasBytes (files_part files)
files_have files are =
    let bytes = flat_map info_bytes files in
    offset_has (vector_block 8 (length files) bytes) (vector_of_bytes 8 (length files) bytes (each_bytes IsInfo info_bytes info_are files are))

prop_of_bytes : (prop : List ℕ × List ℕ) → IsProperty prop → OfBytes (prop_block prop)
prop_of_bytes prop is = table_of_bytes (prop_parts prop) (text_has prop.0 is.name, (text_has prop.1 is.value, tt))

props_have : (props : List (List ℕ × List ℕ)) → AllByRecursion IsProperty props → HasBytes (props_part props)
props_have props are = offset_has (tables_block (map prop_block props)) (tables_of_bytes IsProperty prop_block prop_of_bytes props are)

props_if_have : (props : List (List ℕ × List ℕ)) → AllByRecursion IsProperty props → IfSome (some_props props) (λ x. HasBytes (props_part x))
props_if_have [] are = tt
props_if_have (prop ∷ props) are = props_have (prop ∷ props) are

parent_has : (parent : Option Id12) → IfSome parent IsId12 → IfSome parent (λ id. HasBytes (id12_part id))
parent_has None is = tt
parent_has (Some id) is = inline_has 1 id.0 is.1

snapshot_of_bytes : (s : SnapshotFile) → IsSnapshot s → OfBytes (snapshot_block s)
unfolding snapshot_block
snapshot_of_bytes s is =
    table_of_bytes (snapshot_parts s)
    (inline_has 1 s.id.0 is.id.1, (part_if_has id12_part s.parent (parent_has s.parent is.parent), (nodes_have s.nodes is.nodes, (scalar_has 8 s.flushed_at, (text_has s.message is.message, (part_if_has props_part (some_props s.props) (props_if_have s.props is.props.each), (files_have s.manifest_files is.files, tt)))))))

header_are : AreBytes (header kinds.Snapshot)
unfolding header
header_are = bytes_tested (header kinds.Snapshot) refl

pub written_bytes : (s : SnapshotFile) → IsSnapshot s → list_all (λ n. ltb n 256) (snapshot_bytes s) ≡ true
unfolding snapshot_bytes
written_bytes s is = bytes_pass (header kinds.Snapshot ++ payload (snapshot_block s)) (bytes_both (header kinds.Snapshot) (payload (snapshot_block s)) header_are (payload_of_bytes (snapshot_block s) (snapshot_of_bytes s is)))
