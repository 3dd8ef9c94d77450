-- What a file stands for never tells want of memory.
use Rattle.std.proofs.Common.{◌≡◌, ◌≢◌, ℕ, ◌==◌, List, [], length, Option, None, Some, Ok, Err}
use Rattle.flat_tables.specs.declared.header.Kind.TheVariants as kinds
use Rattle.flat_tables.specs.declared.fault.FileFault.{FileFault}
use Rattle.flat_tables.specs.declared.fault.FileFault.TheVariants.{NoMemory, Property, Path, NodeKind, Unlisted}
use Rattle.flat_tables.specs.Places.{TableIn, VectorIn, root_of, struct_of, scalar_of, text_of, child_of, vector_of, all_of, table_of}
use Rattle.flat_tables.specs.Rows.{flat, required, at_most, each, in_order}
use Rattle.ice_ids.specs.declared.Id8.{Id8}
use Rattle.file_fields.specs.Fields.{id8_of, id12_of}
use Rattle.file_fields.proofs.NoMemory.{Told, bind_told, cond_told, flat_told, required_told, optional_rows_told, on_some_told, at_most_told, in_order_told, rows_told, id8_told, id12_told, file_told, told_fault}
use Rattle.zarr_path.specs.Paths.{is_path}
use Rattle.snapshot_file.specs.declared.nodes.NodeKind.{NodeKind as TheKind}
use Rattle.snapshot_file.specs.declared.nodes.NodeKind.TheVariants.{Group}
use Rattle.snapshot_file.specs.declared.snapshot.SnapshotFile.{SnapshotFile}
use Rattle.snapshot_file.specs.Nodes.{manifest_of, manifest_at, manifests_in, manifests_of, name_at, names_in, names_of, shape_of, array_of, kind_of, proper_path, known_kind, row_of, node_of, node_at}
use Rattle.snapshot_file.specs.Props.{prop_limit, is_prop, prop_key}
use Rattle.snapshot_file.specs.Snapshots.{node_limit, node_key, file_key, nodes_in, nodes_of, property_of, property_at, properties_in, few_properties_in, properties_of, info_at, files_in, files_of, first_unlisted, unless_unlisted, parent_of, rest_of, payload_of, snapshot_of}

-- ---- arrays

manifest_told : (t : TableIn) → Told (manifest_of t)
unfolding manifest_of
manifest_told t =
    bind_told (id12_of t 0) _ (id12_told t 0) (λ id.
    bind_told (required 1 (vector_of t 1 8)) _ (required_told 1 (vector_of t 1 8)) (λ extents. tt))

manifest_at_told : (v : VectorIn) (at : ℕ) → Told (manifest_at v at)
unfolding manifest_at
manifest_at_told v at = bind_told (flat (table_of v at)) manifest_of (flat_told (table_of v at)) manifest_told

manifests_in_told : (v : VectorIn) → Told (manifests_in v)
manifests_in_told v = rows_told (each (manifest_at v)) [] v.count (λ before. manifest_at_told v (length before))

manifests_told : (t : TableIn) → Told (manifests_of t)
unfolding manifests_of
manifests_told t = optional_rows_told (vector_of t 2 4) manifests_in manifests_in_told

name_at_told : (v : VectorIn) (at : ℕ) → Told (name_at v at)
unfolding name_at
name_at_told v at = bind_told (flat (table_of v at)) (λ t. flat (text_of t 0)) (flat_told (table_of v at)) (λ t. flat_told (text_of t 0))

names_in_told : (v : VectorIn) → Told (names_in v)
names_in_told v = rows_told (each (name_at v)) [] v.count (λ before. name_at_told v (length before))

names_told : (t : TableIn) → Told (names_of t)
unfolding names_of
names_told t = bind_told (flat (vector_of t 1 4)) _ (flat_told (vector_of t 1 4)) (λ names. on_some_told names names_in names_in_told)

shape_told : (t : TableIn) → Told (shape_of t)
unfolding shape_of
shape_told t = bind_told (required 0 (vector_of t 0 16)) _ (required_told 0 (vector_of t 0 16)) (λ shape. tt)

array_told : (t : TableIn) → Told (array_of t)
unfolding array_of
array_told t =
    bind_told (shape_of t) _ (shape_told t) (λ shape.
    bind_told (names_of t) _ (names_told t) (λ names.
    bind_told (manifests_of t) _ (manifests_told t) (λ manifests. tt)))

-- ---- nodes

kind_told : (type : ℕ) (t : TableIn) → Told (kind_of type t)
unfolding kind_of
kind_told type t = cond_told (type == 1) _ _ (bind_told (array_of t) _ (array_told t) (λ kind. tt)) (cond_told (type == 2) (Ok (Some Group)) (Ok None) tt tt)

known_told : (at : ℕ) (kind : Option TheKind) → Told (known_kind at kind)
known_told at None = λ e. cc
known_told at (Some kind) = tt

row_told : (at : ℕ) (id : Id8) (path text : List ℕ) (kind : Option TheKind) → Told (row_of at id path text kind)
row_told at id path text kind =
    bind_told (proper_path at path) _ (cond_told (is_path path) (Ok path) (Err (Path at)) tt (λ e. cc)) (λ proper.
    bind_told (known_kind at kind) _ (known_told at kind) (λ known. tt))

node_told : (at : ℕ) (t : TableIn) → Told (node_of at t)
unfolding node_of
node_told at t =
    bind_told (id8_of t 0) _ (id8_told t 0) (λ id.
    bind_told (required 1 (text_of t 1)) _ (required_told 1 (text_of t 1)) (λ path.
    bind_told (required 2 (vector_of t 2 1)) _ (required_told 2 (vector_of t 2 1)) (λ text.
    bind_told (required 3 (scalar_of t 3 1)) _ (required_told 3 (scalar_of t 3 1)) (λ type.
    bind_told (required 4 (child_of t 4)) _ (required_told 4 (child_of t 4)) (λ table.
    bind_told (kind_of type table) _ (kind_told type table) (λ kind. row_told at id path (all_of text) kind))))))

node_at_told : (v : VectorIn) (at : ℕ) → Told (node_at v at)
unfolding node_at
node_at_told v at = bind_told (flat (table_of v at)) (node_of at) (flat_told (table_of v at)) (node_told at)

nodes_in_told : (v : VectorIn) → Told (nodes_in v)
nodes_in_told v = rows_told (in_order node_key 2 (each (node_at v))) [] v.count (λ before. in_order_told node_key 2 (each (node_at v)) before (node_at_told v (length before)))

nodes_told : (t : TableIn) → Told (nodes_of t)
unfolding nodes_of
nodes_told t =
    bind_told (required 2 (vector_of t 2 4)) _ (required_told 2 (vector_of t 2 4)) (λ v.
    bind_told (at_most node_limit v.count) _ (at_most_told node_limit v.count) (λ few. nodes_in_told v))

-- ---- properties and manifest files

property_told : (at : ℕ) (t : TableIn) → Told (property_of at t)
unfolding property_of
property_told at t =
    bind_told (required 0 (text_of t 0)) _ (required_told 0 (text_of t 0)) (λ name.
    bind_told (required 1 (text_of t 1)) _ (required_told 1 (text_of t 1)) (λ value.
    cond_told (is_prop (name, value)) (Ok (name, value)) (Err (Property at)) tt (λ e. cc)))

property_at_told : (v : VectorIn) (at : ℕ) → Told (property_at v at)
unfolding property_at
property_at_told v at = bind_told (flat (table_of v at)) (property_of at) (flat_told (table_of v at)) (property_told at)

properties_in_told : (v : VectorIn) → Told (properties_in v)
properties_in_told v = rows_told (in_order prop_key 5 (each (property_at v))) [] v.count (λ before. in_order_told prop_key 5 (each (property_at v)) before (property_at_told v (length before)))

few_properties_told : (v : VectorIn) → Told (few_properties_in v)
few_properties_told v = bind_told (at_most prop_limit v.count) _ (at_most_told prop_limit v.count) (λ few. properties_in_told v)

properties_told : (t : TableIn) → Told (properties_of t)
unfolding properties_of
properties_told t = optional_rows_told (vector_of t 5 4) few_properties_in few_properties_told

files_in_told : (v : VectorIn) → Told (files_in v)
files_in_told v = rows_told (in_order file_key 6 (each (info_at v))) [] v.count (λ before. in_order_told file_key 6 (each (info_at v)) before tt)

files_told : (t : TableIn) → Told (files_of t)
unfolding files_of
files_told t = optional_rows_told (vector_of t 6 32) files_in files_in_told

-- ---- the file

parent_told : (t : TableIn) → Told (parent_of t)
parent_told t = bind_told (flat (struct_of t 1 12)) _ (flat_told (struct_of t 1 12)) (λ parent. tt)

rest_told : (t : TableIn) → Told (rest_of t)
unfolding rest_of
rest_told t =
    bind_told (required 3 (scalar_of t 3 8)) _ (required_told 3 (scalar_of t 3 8)) (λ flushed_at.
    bind_told (required 4 (text_of t 4)) _ (required_told 4 (text_of t 4)) (λ message.
    bind_told (properties_of t) _ (properties_told t) (λ props.
    bind_told (files_of t) _ (files_told t) (λ files. tt))))

listed_told : (at : Option ℕ) (snapshot : SnapshotFile) → Told (unless_unlisted at snapshot)
listed_told None snapshot = tt
listed_told (Some at) snapshot = λ e. cc

payload_told : (payload : List ℕ) → Told (payload_of payload)
unfolding payload_of
payload_told payload =
    bind_told (flat (root_of payload)) _ (flat_told (root_of payload)) (λ t.
    bind_told (id12_of t 0) _ (id12_told t 0) (λ id.
    bind_told (parent_of t) _ (parent_told t) (λ parent.
    bind_told (nodes_of t) _ (nodes_told t) (λ nodes.
    bind_told (rest_of t) _ (rest_told t) (λ rest. listed_told (first_unlisted rest.1.1.1 nodes) _)))))

snapshot_told : (file : List ℕ) → Told (snapshot_of file)
unfolding snapshot_of
snapshot_told file = file_told kinds.Snapshot payload_of file payload_told

-- the fault of a file is no want of memory
pub never_memory : (file : List ℕ) (fault : FileFault) → snapshot_of file ≡ Err fault → fault ≢ NoMemory
never_memory file fault is = told_fault (snapshot_of file) fault (snapshot_told file) is
