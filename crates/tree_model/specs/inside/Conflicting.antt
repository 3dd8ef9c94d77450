-- Whether a case is a conflict, as the code tests it; no public contract cites this. Our changes as
-- they are held, the lists of the later commit, and the nodes before it and after it.
use Rattle.std.specs.Prelude.{ℕ, Bool, false, not, ◌&&◌, ◌||◌, ◌==◌, List}
use Rattle.std.specs.Prelude.{length, Option, Some, None, is_some, is_none}
use Rattle.std.specs.List.{list_any}
use Rattle.std.specs.FinMap.{FinMap, get, entries}
use Rattle.ice_ids.specs.declared.Id8.{Id8}
use Rattle.ice_ids.specs.Text.{same_id8}
use Rattle.zarr_path.specs.Paths.{path_cmp, same_path, root, parent_of, is_beneath}
use Rattle.zarr_tree.specs.declared.cases.Case.{Case}
use Rattle.zarr_tree.specs.declared.cases.Case.TheVariants as case
use Rattle.zarr_tree.specs.declared.lists.Touched.{Touched}
use Rattle.zarr_tree.specs.Nodes.{Node, is_group, is_array}
use Rattle.zarr_tree.specs.Changes.{is_gone, has_id}
use Rattle.zarr_tree.specs.Touched.{lists, lists_chunk, lists_new, lists_updated}
use Rattle.zarr_tree.specs.Held.{Held, meta_in, entry_in, nodes_over}
use Rattle.zarr_tree.specs.Conflicts.{same_node}
use Rattle.tree_model.specs.inside.Listing.{has_chunks}

abbrev pub Map : Type 0
Map = FinMap path_cmp Node

abbrev pub Lists : Type 0
Lists = Held (List ℕ)

abbrev pub is_taken : Lists → (after : Map) → (path : List ℕ) → Bool
is_taken h u p =
    is_some (get h.added p) && (is_some (get u p) && not (is_gone (lists h.dropped) u p))

abbrev pub is_orphan : Lists → (before after : Map) → (path : List ℕ) → Bool
is_orphan h t u p =
    is_some (get h.added p)
    && (not (same_path p root)
    && (not (is_some (get h.added (parent_of p)))
    && not (same_node (get t (parent_of p)) (get u (parent_of p)))))

abbrev pub takes_away : Lists → (before after : Map) → (path : List ℕ) → Id8 → Bool
takes_away h t u p id = not (has_id id (get (nodes_over h t) p)) && has_id id (get u p)

abbrev pub has_listed : Touched → Id8 → Bool
has_listed s id =
    list_any (λ array. same_id8 array.node id && not (length array.chunks == 0)) s.updated_chunks

abbrev pub has_new_beneath : Touched → Map → (path : List ℕ) → Bool
has_new_beneath s u p = list_any (λ row. is_beneath p row.0 && lists_new s row.1.id) (entries u)

abbrev pub drops_array : Lists → Touched → (before after : Map) → (path : List ℕ) → Node → Bool
drops_array h s t u p n =
    is_array n.text
    && ((lists s.updated_arrays n.id || has_listed s n.id) && takes_away h t u p n.id)

abbrev pub drops_group : Lists → Touched → (before after : Map) → (path : List ℕ) → Node → Bool
drops_group h s t u p n =
    is_group n.text
    && ((lists s.updated_groups n.id || has_new_beneath s u p) && takes_away h t u p n.id)

abbrev pub is_twice : Lists → Touched → (index : List ℕ) → Node → Bool
is_twice h s i n =
    is_array n.text && (is_some (entry_in h.chunks n.id i) && lists_chunk s.updated_chunks n.id i)

abbrev pub at_node : Case → Lists → Touched → (before after : Map) → (path : List ℕ) → Node → Bool
at_node case.ZarrMetadataDoubleUpdate h s t u p n =
    is_some (meta_in h.metas n.id) && lists_updated s n.id
at_node case.ZarrMetadataUpdateOfDeletedArray h s t u p n =
    is_some (meta_in h.metas n.id) && lists s.deleted_arrays n.id
at_node case.ZarrMetadataUpdateOfDeletedGroup h s t u p n =
    is_some (meta_in h.metas n.id) && lists s.deleted_groups n.id
at_node case.ChunksUpdatedInDeletedArray h s t u p n =
    (is_array n.text && has_chunks h.chunks n.id) && lists s.deleted_arrays n.id
at_node case.ChunksUpdatedInUpdatedArray h s t u p n =
    (is_array n.text && has_chunks h.chunks n.id) && lists s.updated_arrays n.id
at_node case.DeleteOfUpdatedArray h s t u p n = drops_array h s t u p n
at_node case.DeleteOfUpdatedGroup h s t u p n = drops_group h s t u p n
at_node k h s t u p n = false

-- at a path where this node stood before, if there was one
abbrev pub at_path : Case → Lists → Touched → (before after : Map) → (path : List ℕ)
    → Option (List ℕ) → Option Node → Bool
at_path k h s t u p i None = false
at_path k h s t u p None (Some n) = at_node k h s t u p n
at_path case.ChunkDoubleUpdate h s t u p (Some i) (Some n) = is_twice h s i n
at_path k h s t u p (Some i) (Some n) = false

abbrev pub is_conflict : Case → Lists → Touched → (before after : Map) → (path : List ℕ)
    → Option (List ℕ) → Bool
is_conflict case.NewNodeConflictsWithExistingNode h s t u p i = is_none i && is_taken h u p
is_conflict case.NewNodeInInvalidGroup h s t u p i = is_none i && is_orphan h t u p
is_conflict k h s t u p i = at_path k h s t u p i (get t p)
