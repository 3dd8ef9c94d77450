-- The rows of a snapshot: whether they are a tree's, and the manifests that they name. (Zarr v3
-- core specification, "Hierarchy"; that ids are distinct is own.)
use Rattle.std.specs.Prelude.{ℕ, not, ◌&&◌, ◌||◌, if◌then◌else◌, Bool, false}
use Rattle.std.specs.Prelude.{List, [], ◌∷◌, ◌++◌, length, map, Option, Some, None}
use Rattle.std.specs.List.{list_any, flat_map}
use Rattle.ice_ids.specs.declared.Id8.{Id8}
use Rattle.ice_ids.specs.Text.{same_id8}
use Rattle.zarr_path.specs.Paths.{same_path, root, parent_of}
use Rattle.zarr_meta.specs.declared.views.ArrayView.{ArrayView}
use Rattle.zarr_tree.specs.Nodes.{array_in, chunk_length}
use Rattle.snapshot_file.specs.declared.nodes.ManifestRef.{ManifestRef}
use Rattle.snapshot_file.specs.declared.nodes.NodeRow.{NodeRow}
use Rattle.snapshot_file.specs.Snapshots.{manifests_named}
use Rattle.held_snapshot.specs.LookUp.{is_array, row_at}
use Rattle.intact.specs.declared.visits.FileVisit.{FileVisit}

-- ---- a tree's rows
abbrev pub has_node : List NodeRow → Id8 → Bool
has_node rows id = list_any (λ row. same_id8 row.id id) rows

abbrev pub is_group_row : Option NodeRow → Bool
is_group_row None = false
is_group_row (Some row) = not (is_array row.kind)

-- the path is `/`, or a group stands at its parent
abbrev pub stands : List NodeRow → List ℕ → Bool
stands rows path = same_path path root || is_group_row (row_at rows (parent_of path))

-- a row among `rows`, behind `earlier` ones: its id is none of theirs, and its path stands
abbrev pub is_well : (rows earlier : List NodeRow) → NodeRow → Bool
is_well rows earlier row = not (has_node earlier row.id) && stands rows row.path

-- the number of the first row that isn't well, where `left` come behind `earlier`
unfoldable pub unwell_behind : (rows earlier left : List NodeRow) → Option ℕ
unwell_behind rows earlier [] = None
unwell_behind rows earlier (row ∷ left) =
    if is_well rows earlier row then unwell_behind rows (earlier ++ row ∷ []) left
    else Some (length earlier)

abbrev pub first_unwell : List NodeRow → Option ℕ
first_unwell rows = unwell_behind rows [] rows

-- ---- manifests
-- how many bytes a chunk of a node has; only an array has chunks
abbrev pub want_in : Option ArrayView → ℕ
want_in None = 0
want_in (Some array) = chunk_length array

abbrev pub want_of : NodeRow → ℕ
want_of row = want_in (array_in row.user_data)

-- the manifests that a row names, each for the row's node
abbrev pub file_for : NodeRow → ManifestRef → FileVisit
file_for row manifest = record { manifest = manifest.id; node = row.id; want = want_of row }

abbrev pub files_of_row : NodeRow → List FileVisit
files_of_row row = map (λ manifest. file_for row manifest) (manifests_named row.kind)

-- ... and those that rows name, in their order
abbrev pub files_of : List NodeRow → List FileVisit
files_of rows = flat_map (λ row. files_of_row row) rows
