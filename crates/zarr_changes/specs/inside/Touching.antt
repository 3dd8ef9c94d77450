-- What is touched, as the code gathers it; no public contract cites this.
use Rattle.std.specs.Prelude.{◌≡◌, ℕ, Bool, ◌&&◌, ◌||◌, if◌then◌else◌, List, [], ◌∷◌, map, is_some}
use Rattle.std.specs.List.{filter, list_any}
use Rattle.std.specs.FinMap.{FinMap, get, entries}
use Rattle.zarr_path.specs.Paths.{path_cmp}
use Rattle.zarr_tree.specs.Nodes.{Node, is_metadata, is_group, is_array}
use Rattle.zarr_tree.specs.Changes.{is_gone, has_id}
use Rattle.zarr_tree.specs.Touched.{lists}
use Rattle.zarr_tree.specs.Held.{Held, HeldEntry, Rows, meta_in, nodes_over}
use Rattle.zarr_tree.specs.Held.{ids_of, indices_of, indices_in_order}
use Rattle.ice_ids.specs.declared.Id8.{Id8}
use Rattle.zarr_tree.specs.declared.lists.ArrayChunks.{ArrayChunks}
use Rattle.zarr_changes.specs.declared.net.Kinds.{Kinds}
use Rattle.zarr_changes.specs.declared.net.KindLists.{KindLists}
use Rattle.zarr_changes.specs.Edits.{with_id}
use Rattle.zarr_changes.specs.Sets.{has_chunks}

abbrev pub no_kinds : Kinds
no_kinds = record { groups = []; arrays = [] }

-- the id of one more node, by its kind
abbrev pub with_kind : Kinds → Node → Kinds
with_kind kinds n = record {
  groups = if is_group n.text then with_id kinds.groups n.id else kinds.groups;
  arrays = if is_array n.text then with_id kinds.arrays n.id else kinds.arrays;
}

abbrev pub with_kinds : Kinds → Rows → Kinds
with_kinds kinds [] = kinds
with_kinds kinds (row ∷ rows) = with_kinds (with_kind kinds row.1) rows

-- these are the ids of the rows, by their kinds
abbrev pub IsOf : Kinds → Rows → Type 0
IsOf kinds rows = (kinds.groups ≡ ids_of is_group rows) × (kinds.arrays ≡ ids_of is_array rows)

-- these lists are the ids of the rows, by their kinds
abbrev pub AreOf : KindLists → Rows → Type 0
AreOf ids rows = (ids.groups ≡ ids_of is_group rows) × (ids.arrays ≡ ids_of is_array rows)

-- whether a row has metadata
abbrev pub has_metadata : Rows → Bool
has_metadata rows = list_any (λ row. is_metadata row.1.text) rows

-- whether a node of a tree stays with another text
abbrev pub is_updated : {P : Type 0} → Held P → FinMap path_cmp Node → List ℕ × Node → Bool
is_updated h nodes row =
    has_id row.1.id (get (nodes_over h nodes) row.0) && is_some (meta_in h.metas row.1.id)

-- whether a node of a tree is gone or stays with another text
abbrev pub touches_own : {P : Type 0} → Held P → FinMap path_cmp Node → Bool
touches_own h nodes =
    list_any (λ row. is_metadata row.1.text
    && (is_gone (lists h.dropped) nodes row.0 || is_updated h nodes row)) (entries nodes)

-- the rows of nodes that have entries
abbrev pub with_entries : {P : Type 0} → List (HeldEntry P) → Rows → Rows
with_entries entries rows = filter (λ row. has_chunks entries row.1.id) rows

-- arrays, and the indices of their entries
abbrev pub chunk_lists : {P : Type 0} → List (HeldEntry P) → List Id8 → List ArrayChunks
chunk_lists entries ids =
    map (λ id. record { node = id; chunks = indices_in_order (indices_of entries id) }) ids
