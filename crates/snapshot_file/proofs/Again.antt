-- A snapshot that was written is read again.
use Rattle.std.proofs.Common.{◌≡◌, ℕ, ◌+◌, ◌^◌, ◌≤◌, ◌<◌, lit<, lit≤, Result, List, [], ◌∷◌, ◌++◌, length, map, take, drop, append_assoc, Option, None, Some, Ok, refl, sym, ap, ◌∙◌, arith}
use Rattle.std.specs.Prelude.{IfSome, option_map}
use Rattle.std.specs.List.{AllByRecursion}
use Rattle.std.specs.Int.{w32, w64, from_le_bytes}
use Rattle.std.proofs.lemmas.Nat.{from_le_bytes-to_le_bytes_4, from_le_bytes-to_le_bytes_8}
use Rattle.std.proofs.lemmas.List.{length-append, take_at, drop_at, drop-drop}
use Rattle.ice_ids.specs.declared.Id12.{Id12}
use Rattle.flat_tables.specs.declared.header.Kind.TheVariants as kinds
use Rattle.flat_tables.specs.declared.fault.FileFault.{FileFault}
use Rattle.flat_tables.specs.Places.{TableIn, VectorIn, struct_of, item_of}
use Rattle.flat_tables.specs.Rows.{each, in_order, Ascends}
use Rattle.flat_tables.specs.Layout.{zeros, part_if, payload}
use Rattle.flat_tables.proofs.Files.{file_again}
use Rattle.flat_tables.proofs.Loop.{ReadsFrom, ordered_reads, rows_again, at_most_ok}
use Rattle.ice_ids.specs.Text.{IsId12}
use Rattle.file_fields.specs.Fields.{id12_part}
use Rattle.file_fields.proofs.Again.{ordered_again, id12_again}
use Rattle.flat_tables.proofs.Again.{IsField, IsTable, SlotRead, eight, inline_field, offset_field, scalar_field, absent_field, root_again, struct_again, struct_absent, scalar_again, text_again, field_if, structs_again, tables_again, tables_behind, EachBehind}
use Rattle.snapshot_file.specs.declared.nodes.NodeRow.{NodeRow}
use Rattle.snapshot_file.specs.declared.snapshot.ManifestInfo.{ManifestInfo}
use Rattle.snapshot_file.specs.declared.snapshot.SnapshotFile.{SnapshotFile}
use Rattle.snapshot_file.specs.Nodes.{node_of, node_at}
use Rattle.snapshot_file.specs.Snapshots.{node_limit, node_key, file_key, nodes_in, nodes_of, info_of, info_at, files_in, files_of, id_if, rest_of, payload_of, snapshot_of}
use Rattle.snapshot_file.specs.Layout.{node_parts, nodes_part, info_head, info_tail, info_bytes, props_part, some_props, files_part, snapshot_parts, snapshot_block, snapshot_bytes, IsWritable, IsNode, IsInfo, IsSnapshot}
use Rattle.snapshot_file.proofs.Infos.{info_bytes_long}
use Rattle.snapshot_file.proofs.NodesAgain.{node_fields, node_again}
use Rattle.snapshot_file.proofs.PropsAgain.{props_again}

-- ---- nodes

-- what a node asks doesn't depend on those before it
each_node : (front nodes : List NodeRow) → AllByRecursion IsNode nodes → EachBehind (λ before node. IsNode node) front nodes
each_node front [] are = tt
each_node front (node ∷ nodes) are = (are.0, each_node (front ++ node ∷ []) nodes are.1)

nodes_again : (t : TableIn) (nodes : List NodeRow) → length t.bytes < 2 ^ 32 → AllByRecursion IsNode nodes → length nodes ≤ node_limit → Ascends node_key None nodes → SlotRead t 2 (nodes_part nodes) → nodes_of t ≡ Ok nodes
unfolding nodes_of node_at
nodes_again t nodes small are few ascend slot =
    let v = tables_again t 2 node_parts nodes small slot in
    let reads = tables_behind node_parts (λ before. node_of (length before)) (λ before node. IsNode node) (λ before node is. node_fields node is) (λ before node table is parts. node_again (length before) node table is parts) v.vector [] nodes 0 v.end refl v.small (each_node [] nodes are) v.tables in
    let ordered = ordered_reads node_key 2 (each (node_at v.vector)) [] nodes None refl reads ascend in
    let again : nodes_in v.vector ≡ Ok nodes = rows_again (in_order node_key 2 (each (node_at v.vector))) nodes v.vector.count v.count ordered in
    rw (v.is, at_most_ok node_limit v.vector.count (length nodes) v.count few, again) refl

-- ---- manifest files

info_back : (file : ManifestInfo) → IsInfo file → info_of (info_bytes file) ≡ file
info_back file is =
    let head = info_head file.id in
    let tail = info_tail file.size file.refs in
    let len : length head ≡ 16 = omega (arith, length-append file.id.0 (zeros 4), is.id.0) in
    let id : take 12 (info_bytes file) ≡ file.id.0 = ap (take 12) (append_assoc file.id.0 (zeros 4) tail) ∙ take_at file.id.0 (zeros 4 ++ tail) 12 is.id.0 in
    let behind : drop 16 (info_bytes file) ≡ tail = drop_at head tail 16 len in
    let size : from_le_bytes w64 (take 8 (drop 16 (info_bytes file))) ≡ file.size = ap (λ (bytes : List ℕ). from_le_bytes w64 (take 8 bytes)) behind ∙ from_le_bytes-to_le_bytes_8 file.size is.size in
    let further : drop 24 (info_bytes file) ≡ drop 8 tail = sym (drop-drop 8 16 (info_bytes file)) ∙ ap (drop 8) behind in
    let refs : from_le_bytes w32 (take 4 (drop 24 (info_bytes file))) ≡ file.refs = ap (λ (bytes : List ℕ). from_le_bytes w32 (take 4 bytes)) further ∙ from_le_bytes-to_le_bytes_4 file.refs is.refs in
    rw (id, size, refs) refl

files_sized : (files : List ManifestInfo) → AllByRecursion IsInfo files → AllByRecursion (λ file. length (info_bytes file) ≡ 32) files
files_sized [] are = tt
files_sized (file ∷ files) are = (info_bytes_long file are.0, files_sized files are.1)

files_read : (v : VectorIn) (files : List ManifestInfo) (i : ℕ) → AllByRecursion IsInfo files → ReadsFrom (λ (j : ℕ). let r : Result (List ℕ) FileFault = Ok (item_of v j) in r) i (map info_bytes files) → ReadsFrom (info_at v) i files
files_read v [] i are reads = tt
files_read v (file ∷ files) i are reads =
    let here : item_of v i ≡ info_bytes file = cc in
    let is : info_of (item_of v i) ≡ file = ap info_of here ∙ info_back file are.0 in
    (ap (λ (x : ManifestInfo). Ok x) is, files_read v files (i + 1) are.1 reads.1)

files_again : (t : TableIn) (files : List ManifestInfo) → length t.bytes < 2 ^ 32 → AllByRecursion IsInfo files → Ascends file_key None files → SlotRead t 6 (files_part files) → files_of t ≡ Ok files
unfolding files_of
files_again t files small are ascend slot =
    let v = structs_again t 6 8 32 info_bytes files (lit< tt) (files_sized files are) small slot in
    let again : files_in v.vector ≡ Ok files = ordered_again file_key 6 (info_at v.vector) files v.vector.count v.count (files_read v.vector files 0 are v.reads) ascend in
    rw (v.is, again) refl

-- ---- the snapshot

abbrev bytes_if : Option Id12 → Option (List ℕ)
bytes_if id = option_map (λ i. i.0) id

parent_again : (t : TableIn) (parent : Option Id12) → IfSome parent IsId12 → SlotRead t 1 (part_if id12_part parent) → struct_of t 1 12 ≡ Ok (bytes_if parent)
parent_again t None is slot = struct_absent t 1 12 slot
parent_again t (Some id) is slot = struct_again t 1 1 12 id.0 is.0 slot

parent_back : (parent : Option Id12) → id_if (bytes_if parent) ≡ parent
parent_back None = refl
parent_back (Some id) = refl

parent_field : (parent : Option Id12) → IfSome parent IsId12 → IsField (part_if id12_part parent)
parent_field None is = absent_field
parent_field (Some id) is = inline_field 1 id.0 (lit≤ tt) (omega (arith, is.0))

snapshot_fields : (s : SnapshotFile) → IsSnapshot s → IsTable (snapshot_parts s)
snapshot_fields s is = record { fields = (inline_field 1 s.id.0 (lit≤ tt) (omega (arith, is.id.0)), (parent_field s.parent is.parent, (offset_field _, (scalar_field 8 s.flushed_at (lit≤ tt), (offset_field _, (field_if props_part (some_props s.props) (λ some. offset_field _), (offset_field _, tt))))))); few = lit≤ tt }

payload_again : (s : SnapshotFile) → IsSnapshot s → IsWritable s → length (payload (snapshot_block s)) < 2 ^ 32 → payload_of (payload (snapshot_block s)) ≡ Ok s
unfolding payload_of rest_of snapshot_block
payload_again s is can small =
    let root = root_again (snapshot_parts s) (snapshot_fields s is) small in
    let t = root.table in
    let p = root.parts in
    let s1 = p.slots.1 in
    let s2 = s1.1 in
    let s3 = s2.1 in
    let s4 = s3.1 in
    let s5 = s4.1 in
    let s6 = s5.1 in
    let id = id12_again t 0 s.id is.id.0 p.slots.0 in
    let parent = parent_again t s.parent is.parent s1.0 in
    let nodes = nodes_again t s.nodes p.small is.nodes can.few can.nodes s2.0 in
    let flushed_at = scalar_again t 3 8 s.flushed_at (eight s.flushed_at is.flushed_at) s3.0 in
    let message = text_again t 4 s.message is.message p.small s4.0 in
    let props = props_again t s.props p.small is.props s5.0 in
    let files = files_again t s.manifest_files p.small is.files can.files s6.0 in
    rw (root.is, id, parent, nodes, flushed_at, message, props, files, parent_back s.parent, can.listed) refl

pub snapshot_again : (s : SnapshotFile) → IsSnapshot s → IsWritable s → length (payload (snapshot_block s)) ≤ 268435417 → snapshot_of (snapshot_bytes s) ≡ Ok s
unfolding snapshot_of snapshot_bytes
snapshot_again s is can fits = file_again kinds.Snapshot payload_of (payload (snapshot_block s)) s fits (payload_again s is can (omega arith))
