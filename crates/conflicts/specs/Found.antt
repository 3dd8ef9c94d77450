-- The conflicts of changes with a later commit, one behind another. (What conflicts is said by
-- `zarr_tree`'s `IsConflict`; here it is put in order, which is own.)
use Rattle.std.specs.Prelude.{ℕ, Bool, false, not, ◌&&◌, ◌||◌, ◌==◌, if◌then◌else◌}
use Rattle.std.specs.Prelude.{List, [], ◌∷◌, ◌++◌, map, length, Some, None, is_some}
use Rattle.std.specs.Ordering.{is_lt}
use Rattle.std.specs.List.{list_any, filter, flat_map}
use Rattle.std.specs.FinMap.{FinMap, get, keys, entries}
use Rattle.ice_ids.specs.declared.Id8.{Id8}
use Rattle.zarr_path.specs.Paths.{path_cmp, same_path, root, parent_of, is_beneath}
use Rattle.manifest_file.specs.declared.manifest.Place.{Place}
use Rattle.zarr_tree.specs.declared.cases.Case.{Case}
use Rattle.zarr_tree.specs.declared.cases.Case.TheVariants as case
use Rattle.zarr_tree.specs.declared.cases.Conflict.{Conflict}
use Rattle.zarr_tree.specs.declared.lists.Touched.{Touched}
use Rattle.zarr_tree.specs.Nodes.{Node, is_group, is_array}
use Rattle.zarr_tree.specs.Changes.{is_gone, has_id}
use Rattle.zarr_tree.specs.Touched.{lists, lists_new, lists_updated}
use Rattle.zarr_tree.specs.Held.{Held, Rows, meta_in, entry_in, nodes_over}
use Rattle.zarr_tree.specs.Conflicts.{same_node}
use Rattle.zarr_changes.specs.Sets.{has_chunks}
use Rattle.held_log.specs.LookUp.{chunks_listed}

-- what is held of our changes, the lists of one later commit, and the nodes before it and after it
pub record Sides : Type 0 where
  pub held : Held Place
  pub theirs : Touched
  pub before : FinMap path_cmp Node
  pub after : FinMap path_cmp Node

-- ---- added nodes

-- whether the later tree has a node at an added path that our changes leave there
abbrev pub is_taken : Sides → (path : List ℕ) → Bool
is_taken s p = is_some (get s.after p) && not (is_gone (lists s.held.dropped) s.after p)

-- whether an added path's parent isn't added, and isn't in the later tree what it was
abbrev pub is_orphan : Sides → (path : List ℕ) → Bool
is_orphan s p =
    not (same_path p root)
    && (not (is_some (get s.held.added (parent_of p)))
    && not (same_node (get s.before (parent_of p)) (get s.after (parent_of p))))

abbrev pub if_so : Bool → Case → (path : List ℕ) → List Conflict
if_so b k p = if b then record { case = k; path = p; index = None } ∷ [] else []

-- the conflicts of an added path
abbrev pub of_added : Sides → (path : List ℕ) → List Conflict
of_added s p =
    if_so (is_taken s p) case.NewNodeConflictsWithExistingNode p
    ++ if_so (is_orphan s p) case.NewNodeInInvalidGroup p

-- ---- nodes of the tree before the commit

-- the later tree's nodes that are listed as new, and whether there is one beneath a path
abbrev pub new_rows : Touched → FinMap path_cmp Node → Rows
new_rows theirs after = filter (λ row. lists_new theirs row.1.id) (entries after)

abbrev pub has_new_beneath : Sides → (path : List ℕ) → Bool
has_new_beneath s p = list_any (λ row. is_beneath p row.0) (new_rows s.theirs s.after)

-- whether our changes take a node away that the later tree still has
abbrev pub takes_away : Sides → (path : List ℕ) → Id8 → Bool
takes_away s p id =
    not (has_id id (get (nodes_over s.held s.before) p)) && has_id id (get s.after p)

-- whether a case without an index holds of a node and its path
abbrev pub holds : Case → Sides → (path : List ℕ) → Node → Bool
holds case.ZarrMetadataDoubleUpdate s p n =
    is_some (meta_in s.held.metas n.id) && lists_updated s.theirs n.id
holds case.ZarrMetadataUpdateOfDeletedArray s p n =
    is_some (meta_in s.held.metas n.id) && lists s.theirs.deleted_arrays n.id
holds case.ZarrMetadataUpdateOfDeletedGroup s p n =
    is_some (meta_in s.held.metas n.id) && lists s.theirs.deleted_groups n.id
holds case.ChunksUpdatedInDeletedArray s p n =
    is_array n.text && (has_chunks s.held.chunks n.id && lists s.theirs.deleted_arrays n.id)
holds case.ChunksUpdatedInUpdatedArray s p n =
    is_array n.text && (has_chunks s.held.chunks n.id && lists s.theirs.updated_arrays n.id)
holds case.DeleteOfUpdatedArray s p n =
    is_array n.text
    && ((lists s.theirs.updated_arrays n.id
    || not (length (chunks_listed s.theirs.updated_chunks n.id) == 0))
    && takes_away s p n.id)
holds case.DeleteOfUpdatedGroup s p n =
    is_group n.text
    && (takes_away s p n.id && (lists s.theirs.updated_groups n.id || has_new_beneath s p))
holds k s p n = false

-- the chunks of a node that both sides wrote
abbrev pub twice : Sides → Node → List (List ℕ)
twice s n =
    if is_array n.text
    then filter (λ i. is_some (entry_in s.held.chunks n.id i))
    (chunks_listed s.theirs.updated_chunks n.id)
    else []

-- the conflicts of a case
abbrev pub of_case : Sides → (path : List ℕ) → Node → Case → List Conflict
of_case s p n case.ChunkDoubleUpdate =
    map (λ i. record { case = case.ChunkDoubleUpdate; path = p; index = Some i }) (twice s n)
of_case s p n k = if_so (holds k s p n) k p

-- the cases about a node of the tree before the commit
abbrev pub node_cases : List Case
node_cases =
    case.ZarrMetadataDoubleUpdate ∷ case.ZarrMetadataUpdateOfDeletedArray
    ∷ case.ZarrMetadataUpdateOfDeletedGroup ∷ case.ChunkDoubleUpdate
    ∷ case.ChunksUpdatedInDeletedArray ∷ case.ChunksUpdatedInUpdatedArray
    ∷ case.DeleteOfUpdatedArray ∷ case.DeleteOfUpdatedGroup ∷ []

-- the conflicts of a row
abbrev pub of_row : Sides → List ℕ × Node → List Conflict
of_row s row = flat_map (λ k. of_case s row.0 row.1 k) node_cases

-- ---- all in the order of their paths

-- of rows in order, those that stand before a path, and the others
abbrev pub rows_before : (path : List ℕ) → Rows → Rows
rows_before p [] = []
rows_before p (row ∷ rows) = if is_lt (path_cmp row.0 p) then row ∷ rows_before p rows else []

abbrev pub rows_from : (path : List ℕ) → Rows → Rows
rows_from p [] = []
rows_from p (row ∷ rows) = if is_lt (path_cmp row.0 p) then rows_from p rows else row ∷ rows

-- the conflicts of added paths and of rows
abbrev pub found_in : Sides → (added : List (List ℕ)) → Rows → List Conflict
found_in s [] rows = flat_map (of_row s) rows
found_in s (p ∷ ps) rows =
    flat_map (of_row s) (rows_before p rows) ++ (of_added s p ++ found_in s ps (rows_from p rows))

unfoldable pub found : Sides → List Conflict
found s = found_in s (keys s.held.added) (entries s.before)
