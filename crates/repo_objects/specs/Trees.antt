-- The tree of a snapshot, by what was put. (Icechunk specification version 1, "Snapshots",
-- "Manifests", "Chunks"; which manifest of a node's list has a chunk is own.)
use Rattle.std.specs.Prelude.{◌≡◌, ℕ, ◌+◌, nat_le, if◌then◌else◌, List, [], length, take}
use Rattle.std.specs.Prelude.{drop, map, Option, Some, None, option_and_then, IsSome}
use Rattle.std.specs.Option.{unwrap_or}
use Rattle.std.specs.List.{Contains}
use Rattle.std.specs.FinMap.{FinMap, from_entries}
use Rattle.ice_ids.specs.declared.Id12.{Id12}
use Rattle.zarr_path.specs.Paths.{path_cmp}
use Rattle.zarr_meta.specs.declared.views.ArrayView.{ArrayView}
use Rattle.zarr_tree.specs.Nodes.{Node, array_in}
use Rattle.zarr_tree.specs.Trees.{Tree, IsWellFormed}
use Rattle.snapshot_file.specs.declared.nodes.ManifestRef.{ManifestRef}
use Rattle.snapshot_file.specs.declared.nodes.NodeRow.{NodeRow}
use Rattle.snapshot_file.specs.Snapshots.{manifests_named}
use Rattle.manifest_file.specs.declared.manifest.Place.{Place}
use Rattle.manifest_file.specs.declared.manifest.Place.TheVariants.{Inline, Object}
use Rattle.manifest_file.specs.declared.manifest.ManifestFile.{ManifestFile}
use Rattle.manifest_file.specs.declared.manifest.ArrayRefs.{ArrayRefs}
use Rattle.manifest_file.specs.declared.manifest.ChunkRef.{ChunkRef}
use Rattle.held_manifest.specs.LookUp.{Listed, chunk_place}
pub use Rattle.held_snapshot.specs.LookUp.{row_at}
use Rattle.repo_objects.specs.Readings.{manifest_by}

-- ---- nodes

-- the node of a row
abbrev pub node_of : NodeRow → Node
node_of row = record { id = row.id; text = row.user_data }

-- the nodes of rows, by their paths
abbrev pub nodes_in : List NodeRow → FinMap path_cmp Node
nodes_in rows = from_entries (map (λ row. (row.path, node_of row)) rows)

-- ---- chunks

-- the bytes of manifests and of objects with chunks, as they were put
pub record Puts : Type 0 where
  pub manifest : Id12 → Option (List ℕ)
  pub chunk : Id12 → Option (List ℕ)

-- a part of an object
abbrev pub part_of : (offset size : ℕ) → List ℕ → Option (List ℕ)
part_of offset size bytes =
    if nat_le (offset + size) (length bytes) then Some (take size (drop offset bytes)) else None

-- the bytes at a place
abbrev pub bytes_at : Puts → Place → Option (List ℕ)
bytes_at puts (Inline bytes) = Some bytes
bytes_at puts (Object id offset size) = option_and_then (part_of offset size) (puts.chunk id)

-- a manifest that was put, and that reads as one
abbrev pub manifest_put : Puts → Id12 → Option ManifestFile
manifest_put puts id = option_and_then (manifest_by id) (puts.manifest id)

-- what one store of puts has of readable manifests and of objects with chunks, another has too
pub record Extends (p q : Puts) : Type 0 where
  pub manifests : (id : Id12) (m : ManifestFile) → manifest_put p id ≡ Some m
      → manifest_put q id ≡ Some m
  pub chunks : (id : Id12) (bytes : List ℕ) → p.chunk id ≡ Some bytes → q.chunk id ≡ Some bytes

-- an unreadable manifest counts as one without chunks
abbrev pub or_empty : Id12 → Option ManifestFile → ManifestFile
or_empty id manifest = unwrap_or manifest (record { id = id; arrays = [] })

-- the manifests that an array names, each with its extents there
abbrev pub listed : Puts → List ManifestRef → List Listed
listed puts manifests = map (λ m. (m.extents, or_empty m.id (manifest_put puts m.id))) manifests

-- where a row's chunk is, if it is an array's
abbrev pub place_in : Puts → NodeRow → List ℕ → Option ArrayView → Option Place
place_in puts row i None = None
place_in puts row i (Some array) =
    chunk_place (length array.shape) row.id i (listed puts (manifests_named row.kind))

abbrev pub place_under : Puts → NodeRow → List ℕ → Option Place
place_under puts row i = place_in puts row i (array_in row.user_data)

abbrev pub chunk_under : Puts → List ℕ → Option NodeRow → Option (List ℕ)
chunk_under puts i None = None
chunk_under puts i (Some row) = option_and_then (bytes_at puts) (place_under puts row i)

-- ---- what is named

-- rows name a manifest
pub record NamesManifest (rows : List NodeRow) (id : Id12) : Type 0 where
  pub row : NodeRow
  pub among : Contains rows row
  pub manifest : ManifestRef
  pub named : Contains (manifests_named row.kind) manifest
  pub is : manifest.id ≡ id

-- a manifest has a chunk in an object
pub record NamesChunk (manifest : ManifestFile) (id : Id12) : Type 0 where
  pub array : ArrayRefs
  pub among : Contains manifest.arrays array
  pub chunk : ChunkRef
  pub has : Contains array.refs chunk
  pub offset : ℕ
  pub size : ℕ
  pub is : chunk.place ≡ Object id offset size

-- ---- trees

-- the tree of a snapshot's rows
abbrev pub tree_under : Puts → List NodeRow → Tree
tree_under puts rows = record {
  nodes = nodes_in rows;
  chunk = λ p i. chunk_under puts i (row_at rows p);
}

-- all that the rows name was put and is readable: their manifests, and the
-- bytes at the places of their chunks
pub record IsReadable (puts : Puts) (rows : List NodeRow) : Type 0 where
  pub manifests : (p : List ℕ) (row : NodeRow) (m : ManifestRef) → row_at rows p ≡ Some row
      → Contains (manifests_named row.kind) m → IsSome (manifest_put puts m.id)
  pub chunks : (p i : List ℕ) (row : NodeRow) (place : Place) → row_at rows p ≡ Some row
      → place_under puts row i ≡ Some place → IsSome (bytes_at puts place)

-- the rows have a tree: all is readable, and it is well formed
pub record HasTree (puts : Puts) (rows : List NodeRow) : Type 0 where
  pub readable : IsReadable puts rows
  pub well_formed : IsWellFormed (tree_under puts rows)
