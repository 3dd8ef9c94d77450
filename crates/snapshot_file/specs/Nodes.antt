-- What the tables of a snapshot's nodes say. (Icechunk specification version 1,
-- "Snapshot"; which slot has what is own.)
use Rattle.std.specs.Prelude.{ℕ, ◌==◌, if◌then◌else◌, List, [], map, take}
use Rattle.std.specs.Prelude.{drop, Option, Some, None, Result, Ok, Err}
use Rattle.std.specs.Int.{w32, w64, from_le_bytes}
use Rattle.ice_ids.specs.declared.Id8.{Id8}
use Rattle.zarr_path.specs.Paths.{is_path}
use Rattle.flat_tables.specs.declared.fault.FileFault.{FileFault}
use Rattle.flat_tables.specs.declared.fault.FileFault.TheVariants as faults
use Rattle.flat_tables.specs.Step.{◌>>=◌, on_some}
use Rattle.file_fields.specs.Fields.{id8_of, id12_of}
use Rattle.flat_tables.specs.Places.{TableIn, VectorIn, scalar_of, text_of, child_of}
use Rattle.flat_tables.specs.Places.{vector_of, items_of, all_of, table_of}
use Rattle.flat_tables.specs.Rows.{flat, required, optional_rows, rows, each}
use Rattle.snapshot_file.specs.declared.nodes.ManifestRef.{ManifestRef}
use Rattle.snapshot_file.specs.declared.nodes.NodeKind.{NodeKind}
use Rattle.snapshot_file.specs.declared.nodes.NodeKind.TheVariants.{Group, Array}
use Rattle.snapshot_file.specs.declared.nodes.NodeRow.{NodeRow}

-- two numbers of 64 bits: the length of a dimension, and that of a chunk in it
abbrev pub dimension_of : List ℕ → ℕ × ℕ
dimension_of bytes = (from_le_bytes w64 (take 8 bytes), from_le_bytes w64 (drop 8 bytes))

-- two numbers of 32 bits: the first index that is held in a dimension, and the one behind the last
abbrev pub extent_of : List ℕ → ℕ × ℕ
extent_of bytes = (from_le_bytes w32 (take 4 bytes), from_le_bytes w32 (drop 4 bytes))

-- table ManifestRef
unfoldable pub manifest_of : TableIn → Result ManifestRef FileFault
manifest_of t = do
  id ← id12_of t 0
  extents ← required 1 (vector_of t 1 8)
  Ok (record { id = id; extents = map extent_of (items_of extents) })

unfoldable pub manifest_at : VectorIn → ℕ → Result ManifestRef FileFault
manifest_at v i = flat (table_of v i) >>= manifest_of

abbrev pub manifests_in : VectorIn → Result (List ManifestRef) FileFault
manifests_in v = rows (each (manifest_at v)) [] v.count

unfoldable pub manifests_of : TableIn → Result (List ManifestRef) FileFault
manifests_of t = optional_rows (vector_of t 2 4) manifests_in

-- table DimensionName: a dimension may have no name
unfoldable pub name_at : VectorIn → ℕ → Result (Option (List ℕ)) FileFault
name_at v i = flat (table_of v i) >>= λ t. flat (text_of t 0)

abbrev pub names_in : VectorIn → Result (List (Option (List ℕ))) FileFault
names_in v = rows (each (name_at v)) [] v.count

unfoldable pub names_of : TableIn → Result (Option (List (Option (List ℕ)))) FileFault
names_of t = flat (vector_of t 1 4) >>= λ names. on_some names names_in

unfoldable pub shape_of : TableIn → Result (List (ℕ × ℕ)) FileFault
shape_of t = do
  shape ← required 0 (vector_of t 0 16)
  Ok (map dimension_of (items_of shape))

-- table ArrayNodeData
unfoldable pub array_of : TableIn → Result NodeKind FileFault
array_of t = do
  shape ← shape_of t
  names ← names_of t
  manifests ← manifests_of t
  Ok (Array shape names manifests)

-- what a node is by the number of its type: 1 for an array, 2 for a group, whose table has no
-- slots; nothing where the number is another, and then the table isn't looked at
unfoldable pub kind_of : ℕ → TableIn → Result (Option NodeKind) FileFault
kind_of type t =
    if type == 1 then (array_of t >>= λ kind. Ok (Some kind)) else
    if type == 2 then Ok (Some Group) else Ok None

abbrev pub proper_path : ℕ → List ℕ → Result (List ℕ) FileFault
proper_path at path = if is_path path then Ok path else Err (faults.Path at)

abbrev pub known_kind : ℕ → Option NodeKind → Result NodeKind FileFault
known_kind at None = Err (faults.NodeKind at)
known_kind at (Some kind) = Ok kind

-- node number `at` by what its slots have: its path, then its type
abbrev pub row_of : ℕ → Id8 → (path text : List ℕ) → Option NodeKind → Result NodeRow FileFault
row_of at id path text kind = do
  _ ← proper_path at path
  known ← known_kind at kind
  Ok (record { id = id; path = path; user_data = text; kind = known })

-- table NodeSnapshot, of node number `at`: all its slots, then its path, then its type
unfoldable pub node_of : ℕ → TableIn → Result NodeRow FileFault
node_of at t = do
  id ← id8_of t 0
  path ← required 1 (text_of t 1)
  text ← required 2 (vector_of t 2 1)
  type ← required 3 (scalar_of t 3 1)
  table ← required 4 (child_of t 4)
  kind ← kind_of type table
  row_of at id path (all_of text) kind

unfoldable pub node_at : VectorIn → ℕ → Result NodeRow FileFault
node_at v i = flat (table_of v i) >>= node_of i
