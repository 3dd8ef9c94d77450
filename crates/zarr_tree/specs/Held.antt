-- Changes as a session holds them: finite lists, with the places of chunks. (Own.)
use Rattle.std.specs.Prelude.{ℕ, Bool, ◌&&◌, List, map, Option, is_some}
use Rattle.std.specs.Prelude.{option_map, option_and_then, find}
use Rattle.std.specs.FinMap.{FinMap, get, entries, keys, from_entries}
use Rattle.std.specs.List.{filter, list_any}
use Rattle.ice_ids.specs.declared.Id8.{Id8}
use Rattle.ice_ids.specs.Text.{same_id8, id8_cmp}
use Rattle.zarr_path.specs.Indices.{index_cmp}
use Rattle.zarr_path.specs.Paths.{path_cmp}
use Rattle.zarr_tree.specs.declared.lists.Touched.{Touched}
use Rattle.zarr_tree.specs.Nodes.{Node, is_group, is_array, same_numbers}
use Rattle.zarr_tree.specs.Changes.{Changes, is_gone, nodes_after, has_id}
use Rattle.zarr_tree.specs.Touched.{lists}

-- an entry for a chunk: the array, the index, and where the bytes are, or that none is held
abbrev pub HeldEntry : Type 0 → Type 0
HeldEntry P = Id8 × List ℕ × Option P

-- the four parts of changes; a P tells where the bytes of a chunk are
pub record Held (P : Type 0) : Type 0 where
  pub dropped : List Id8
  pub added : FinMap path_cmp Node
  pub metas : List (Id8 × List ℕ)
  pub chunks : List (HeldEntry P)

-- the text of a node, and the entry of a chunk: each time the first one
abbrev pub meta_in : List (Id8 × List ℕ) → Id8 → Option (List ℕ)
meta_in rows id = option_map (λ row. row.1) (find (λ row. same_id8 row.0 id) rows)

abbrev pub entry_in : {P : Type 0} → List (HeldEntry P) → Id8 → List ℕ → Option (Option P)
entry_in rows id i =
    option_map (λ row. row.2) (find (λ row. same_id8 row.0 id && same_numbers row.1 i) rows)

-- the changes that are held, where this tells what bytes are at a place
abbrev pub changes_of : {P : Type 0} → (P → Option (List ℕ)) → Held P → Changes
changes_of bytes_at h = record {
  dropped = lists h.dropped;
  added = h.added;
  metas = meta_in h.metas;
  chunks = λ id i. option_map (λ place. option_and_then bytes_at place) (entry_in h.chunks id i);
}

-- the nodes of a tree under what is held; no chunk is looked at
abbrev pub nodes_over : {P : Type 0} → Held P → FinMap path_cmp Node → FinMap path_cmp Node
nodes_over h nodes = nodes_after h.added (lists h.dropped) (meta_in h.metas) nodes

-- ---- what is touched

-- these in their strict order, each once
abbrev pub ids_in_order : List Id8 → List Id8
ids_in_order ids = keys (from_entries {R = id8_cmp} (map (λ id. (id, tt {0})) ids))

abbrev pub indices_in_order : List (List ℕ) → List (List ℕ)
indices_in_order indices = keys (from_entries {R = index_cmp} (map (λ i. (i, tt {0})) indices))

abbrev pub Rows : Type 0
Rows = List (List ℕ × Node)

-- the ids of nodes of a kind
abbrev pub ids_of : (kind : List ℕ → Bool) → Rows → List Id8
ids_of kind rows = ids_in_order (map (λ row. row.1.id) (filter (λ row. kind row.1.text) rows))

-- the nodes of a tree that are gone, and those that stay with another text
abbrev pub gone_rows : {P : Type 0} → Held P → FinMap path_cmp Node → Rows
gone_rows h nodes = filter (λ row. is_gone (lists h.dropped) nodes row.0) (entries nodes)

abbrev pub updated_rows : {P : Type 0} → Held P → FinMap path_cmp Node → Rows
updated_rows h nodes =
    filter (λ row. has_id row.1.id (get (nodes_over h nodes) row.0)
    && is_some (meta_in h.metas row.1.id)) (entries nodes)

-- the indices of an array's entries, and the nodes of the new tree that have entries
abbrev pub indices_of : {P : Type 0} → List (HeldEntry P) → Id8 → List (List ℕ)
indices_of rows id = map (λ row. row.1) (filter (λ row. same_id8 row.0 id) rows)

abbrev pub written_rows : {P : Type 0} → Held P → FinMap path_cmp Node → Rows
written_rows h nodes =
    filter (λ row. list_any (λ entry. same_id8 entry.0 row.1.id) h.chunks)
    (entries (nodes_over h nodes))

-- what is touched of the nodes of a tree
abbrev pub touched : {P : Type 0} → Held P → FinMap path_cmp Node → Touched
touched h nodes = record {
  new_groups = ids_of is_group (entries h.added);
  new_arrays = ids_of is_array (entries h.added);
  deleted_groups = ids_of is_group (gone_rows h nodes);
  deleted_arrays = ids_of is_array (gone_rows h nodes);
  updated_arrays = ids_of is_array (updated_rows h nodes);
  updated_groups = ids_of is_group (updated_rows h nodes);
  updated_chunks = map
      (λ id. record { node = id; chunks = indices_in_order (indices_of h.chunks id) })
      (ids_of is_array (written_rows h nodes));
}
