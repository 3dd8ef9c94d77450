-- The snapshot that a commit writes: its base's rows under changes on nodes, and the new lists of
-- manifests of arrays whose chunks changed. (Icechunk specification version 1, "Snapshots"; that a
-- row's slots beside its manifests are written from its text is own.)
use Rattle.std.specs.Prelude.{ℕ, Bool, if◌then◌else◌, List, [], ◌∷◌, ◌++◌, map, zip}
use Rattle.std.specs.Prelude.{find, Option, Some, None, option_map, option_and_then}
use Rattle.std.specs.List.{filter, filter_map, list_any}
use Rattle.std.specs.Str.{bytes_eq, is_utf8}
use Rattle.std.specs.FinMap.{entries, from_entries, values}
use Rattle.ice_ids.specs.declared.Id8.{Id8}
use Rattle.ice_ids.specs.declared.Id12.{Id12}
use Rattle.ice_ids.specs.Text.{same_id8, same_id12, id12_cmp}
use Rattle.zarr_path.specs.Paths.{same_path}
use Rattle.zarr_meta.specs.declared.views.ArrayView.{ArrayView}
use Rattle.zarr_tree.specs.Nodes.{Node, array_in}
use Rattle.zarr_tree.specs.Held.{Held, Rows, nodes_over}
use Rattle.snapshot_file.specs.declared.nodes.ManifestRef.{ManifestRef}
use Rattle.snapshot_file.specs.declared.nodes.NodeKind.{NodeKind}
use Rattle.snapshot_file.specs.declared.nodes.NodeKind.TheVariants.{Group, Array}
use Rattle.snapshot_file.specs.declared.nodes.NodeRow.{NodeRow}
use Rattle.snapshot_file.specs.declared.snapshot.ManifestInfo.{ManifestInfo}
use Rattle.snapshot_file.specs.declared.snapshot.SnapshotFile.{SnapshotFile}
use Rattle.snapshot_file.specs.Snapshots.{manifests_named}
use Rattle.repo_objects.specs.Trees.{nodes_in, row_at}
use Rattle.changed_snapshot.specs.declared.new_snapshot.NewManifest.{NewManifest}
use Rattle.changed_snapshot.specs.declared.new_snapshot.NewList.{NewList}
use Rattle.changed_snapshot.specs.declared.new_snapshot.Stamp.{Stamp}

-- ---- new lists

-- the list of a new manifest, if there is one
abbrev pub refs_of : Option NewManifest → List ManifestRef
refs_of None = []
refs_of (Some m) = record { id = m.id; extents = m.extents } ∷ []

-- the new list of the array at a path, if it has one
abbrev pub new_list : List NewList → (path : List ℕ) → Option (List ManifestRef)
new_list news p = option_map (λ new. refs_of new.manifest) (find (λ new. same_path new.path p) news)

-- lists stand in the order of their paths' bytes
abbrev pub list_key : NewList → List ℕ
list_key new = new.path

-- ---- rows

-- the manifests that a row has for the node of this id: its own, where it is that node's
abbrev pub manifests_for : Id8 → Option NodeRow → List ManifestRef
manifests_for id None = []
manifests_for id (Some row) = if same_id8 row.id id then manifests_named row.kind else []

-- the manifests that the base has for the node at a path
abbrev pub own_manifests : List NodeRow → (path : List ℕ) → (node : Id8) → List ManifestRef
own_manifests rows p id = manifests_for id (row_at rows p)

-- a name is text, as each is that was read
abbrev pub name_of : List ℕ → Option (List ℕ)
name_of name = if is_utf8 name then Some name else None

abbrev pub names_of : List (Option (List ℕ)) → List (Option (List ℕ))
names_of names = map (option_and_then name_of) names

-- what a row says of a node whose text says this, and whose chunks these manifests have
abbrev pub kind_of : Option ArrayView → List ManifestRef → NodeKind
kind_of None manifests = Group
kind_of (Some array) manifests =
    Array (zip array.shape array.chunks) (option_map names_of array.names) manifests

-- a row of a node, which keeps these manifests
abbrev pub row_of : (path : List ℕ) → Node → List ManifestRef → NodeRow
row_of p n manifests = record {
  id = n.id;
  path = p;
  user_data = n.text;
  kind = kind_of (array_in n.text) manifests;
}

-- the base's own row, where it is that of the same node: as it is where the text is the
-- same, and else with the new text
abbrev pub row_from : (path : List ℕ) → Node → Option NodeRow → NodeRow
row_from p n None = row_of p n []
row_from p n (Some row) =
    if same_id8 row.id n.id
    then (if bytes_eq row.user_data n.text then row else row_of p n (manifests_named row.kind))
    else row_of p n []

-- with the new list, if it has one
abbrev pub row_over : (path : List ℕ) → Node → (old : Option NodeRow)
    → (new : Option (List ManifestRef)) → NodeRow
row_over p n old None = row_from p n old
row_over p n old (Some manifests) = row_of p n manifests

-- the rows of nodes, over these rows and with the new lists
abbrev pub rows_of : List NewList → List NodeRow → Rows → List NodeRow
rows_of news rows nodes =
    map (λ node. row_over node.0 node.1 (row_at rows node.0) (new_list news node.0)) nodes

-- the rows of a tree's nodes under what is held, with the new lists
unfoldable pub rows_over : {P : Type 0} → Held P → List NewList → List NodeRow → List NodeRow
rows_over h news rows = rows_of news rows (entries (nodes_over h (nodes_in rows)))

-- ---- files

-- what a snapshot says of a new manifest
abbrev pub info_of : NewManifest → ManifestInfo
info_of m = record { id = m.id; size = m.size; refs = m.refs }

abbrev pub infos_of : List NewList → List ManifestInfo
infos_of news = filter_map (λ new. option_map info_of new.manifest) news

-- the new manifests and these, in the order of their ids; of two of one id the first
abbrev pub files_with : List ManifestInfo → List NewList → List ManifestInfo
files_with files news =
    values (from_entries {R = id12_cmp} (map (λ file. (file.id, file)) (infos_of news ++ files)))

-- whether rows name a manifest
abbrev pub names_in : List NodeRow → Id12 → Bool
names_in rows id = list_any
    (λ row. list_any (λ manifest. same_id12 manifest.id id) (manifests_named row.kind)) rows

-- the manifests that rows name
abbrev pub files_over : List ManifestInfo → List NodeRow → List ManifestInfo
files_over files rows = filter (λ file. names_in rows file.id) files

-- ---- the snapshot

-- the snapshot of a base's rows and manifests under what is held, with the new lists
abbrev pub snapshot_over : {P : Type 0} → Held P → List NewList → List NodeRow → List ManifestInfo
    → Stamp → (message : List ℕ) → (props : List (List ℕ × List ℕ)) → SnapshotFile
snapshot_over h news rows files stamp message props = record {
  id = stamp.id;
  parent = Some stamp.parent;
  nodes = rows_over h news rows;
  flushed_at = stamp.flushed_at;
  message = message;
  props = props;
  manifest_files = files_over (files_with files news) (rows_over h news rows);
}
