-- What the kind of an array has, the row at a path, and a manifest by its id. (Icechunk
-- specification version 1, "Snapshot"; the words are own.)
use Rattle.std.specs.Prelude.{ℕ, Bool, true, false, List, position, find, Option, None, Some}
use Rattle.std.specs.List.{list_any}
use Rattle.ice_ids.specs.declared.Id12.{Id12}
use Rattle.ice_ids.specs.Text.{same_id12}
use Rattle.zarr_path.specs.Paths.{same_path}
use Rattle.snapshot_file.specs.declared.nodes.NodeKind.{NodeKind}
use Rattle.snapshot_file.specs.declared.nodes.NodeKind.TheVariants.{Group, Array}
use Rattle.snapshot_file.specs.declared.nodes.NodeRow.{NodeRow}
use Rattle.snapshot_file.specs.declared.snapshot.ManifestInfo.{ManifestInfo}

abbrev pub is_array : NodeKind → Bool
is_array Group = false
is_array (Array shape names manifests) = true

-- the shape and the names of an array
abbrev pub shape_named : NodeKind → Option (List (ℕ × ℕ))
shape_named Group = None
shape_named (Array shape names manifests) = Some shape

abbrev pub names_named : NodeKind → Option (List (Option (List ℕ)))
names_named Group = None
names_named (Array shape names manifests) = names

-- the number of the row at a path, and that row
abbrev pub row_place : List NodeRow → List ℕ → Option ℕ
row_place rows path = position (λ row. same_path row.path path) rows

abbrev pub row_at : List NodeRow → List ℕ → Option NodeRow
row_at rows path = find (λ row. same_path row.path path) rows

-- what the snapshot says of the manifest with an id, and whether it says anything
abbrev pub file_with : List ManifestInfo → Id12 → Option ManifestInfo
file_with files id = find (λ file. same_id12 file.id id) files

abbrev pub has_file : List ManifestInfo → Id12 → Bool
has_file files id = list_any (λ file. same_id12 file.id id) files
