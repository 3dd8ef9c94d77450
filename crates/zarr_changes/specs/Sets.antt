-- What the calls of a change set answer. (Own.)
use Rattle.std.specs.Prelude.{◌≡◌, ℕ, Bool, not, ◌&&◌, ◌==◌, nat_le, if◌then◌else◌, List, length}
use Rattle.std.specs.Prelude.{map, Option, Some, None, is_some, option_map, Result, Ok, Err}
use Rattle.std.specs.List.{filter, filter_map, list_any}
use Rattle.std.specs.FinMap.{FinMap, get, len, keys, entries}
use Rattle.zarr_path.specs.Paths.{path_cmp, same_path, root, parent_of, is_beneath}
use Rattle.zarr_tree.specs.declared.edit.EditFault.{EditFault}
use Rattle.zarr_tree.specs.declared.edit.EditFault.TheVariants.{NodeExists, NoParent, Full}
use Rattle.zarr_tree.specs.declared.edit.EditFault.TheVariants.{NoNode, FrozenField, NotArray}
use Rattle.zarr_tree.specs.declared.edit.EditFault.TheVariants.{OutOfGrid, ChunkLength, NoMemory}
use Rattle.zarr_tree.specs.Nodes.{Node, is_array, array_in, frozen_change, in_grid, chunk_length}
use Rattle.zarr_tree.specs.Edits.{is_group_at, at_node, at_array, most_nodes}
use Rattle.ice_ids.specs.declared.Id8.{Id8}
use Rattle.ice_ids.specs.Text.{same_id8}
use Rattle.zarr_tree.specs.Held.{Held, HeldEntry, Rows, written_rows}
use Rattle.zarr_meta.specs.declared.views.ArrayView.{ArrayView}
use Rattle.manifest_file.specs.declared.manifest.Place.{Place}
use Rattle.manifest_file.specs.declared.manifest.Place.TheVariants.{Inline, Object}
use Rattle.zarr_changes.specs.declared.chunks.ChunkAt.{ChunkAt}
use Rattle.zarr_changes.specs.declared.chunks.ChangedArray.{ChangedArray}
use Rattle.zarr_changes.specs.declared.keys.ChangeKeys.{ChangeKeys}

-- the edit is entered, or refused for this reason, and then what is held stays; it also stays where
-- memory runs out, which may come instead
abbrev pub Enters : {P : Type 0} → (refusal : Option EditFault) → (entered : Held P)
    → (before : Held P) → Result (Unit {0}) EditFault → (after : Held P) → Type 0
Enters refusal entered before (Ok done) after = (refusal ≡ None) × (after ≡ entered)
Enters refusal entered before (Err NoMemory) after = after ≡ before
Enters refusal entered before (Err fault) after = (refusal ≡ Some fault) × (after ≡ before)

-- why no node can be added at a path to a tree with these nodes
abbrev pub add_refusal : FinMap path_cmp Node → (path : List ℕ) → Option EditFault
add_refusal nodes p =
    if is_some (get nodes p) then Some NodeExists else
    (if not (same_path p root) && not (is_group_at (get nodes (parent_of p)))
    then Some NoParent else
    (if nat_le most_nodes (len nodes) then Some Full else
    None))

-- why the node at a path can't have another text, or be taken away
abbrev pub text_refusal : FinMap path_cmp Node → (path text : List ℕ) → Option EditFault
text_refusal nodes p text =
    at_node (get nodes p) (λ n. option_map FrozenField (frozen_change n.text text))

abbrev pub drop_refusal : FinMap path_cmp Node → (path : List ℕ) → Option EditFault
drop_refusal nodes p = at_node (get nodes p) (λ n. None)

-- how many bytes a place has
abbrev pub length_of : Place → ℕ
length_of (Inline bytes) = length bytes
length_of (Object id offset len) = len

-- why the node at a path can't hold so many bytes as the chunk of this index, or
-- can't be without a chunk there
abbrev pub set_refusal : FinMap path_cmp Node → (path index : List ℕ) → (len : ℕ) → Option EditFault
set_refusal nodes p i len =
    at_node (get nodes p) (λ n.
    at_array (array_in n.text) (λ array.
    if not (in_grid array i) then Some OutOfGrid else
    (if not (len == chunk_length array) then Some (ChunkLength (chunk_length array) len) else
    None)))

abbrev pub unset_refusal : FinMap path_cmp Node → (path index : List ℕ) → Option EditFault
unset_refusal nodes p i =
    at_node (get nodes p) (λ n.
    at_array (array_in n.text) (λ array.
    if not (in_grid array i) then Some OutOfGrid else
    None))

-- the id of the array at a path, and how many bytes its chunk of this index has
abbrev pub chunk_in : Id8 → (index : List ℕ) → Option ArrayView → Result ChunkAt EditFault
chunk_in id i None = Err NotArray
chunk_in id i (Some array) =
    if in_grid array i then Ok (record { node = id; bytes = chunk_length array }) else Err OutOfGrid

abbrev pub chunk_of_node : (index : List ℕ) → Option Node → Result ChunkAt EditFault
chunk_of_node i None = Err NoNode
chunk_of_node i (Some n) = chunk_in n.id i (array_in n.text)

abbrev pub chunk_found : FinMap path_cmp Node → (path index : List ℕ) → Result ChunkAt EditFault
chunk_found nodes p i = chunk_of_node i (get nodes p)

-- the array at a path takes so many bytes as its chunk of this index, and has
-- this id; or this is why it doesn't
abbrev pub FindsArray : FinMap path_cmp Node → (path index : List ℕ) → (len : ℕ)
    → Result Id8 EditFault → Type 0
FindsArray nodes p i len (Ok id) =
    (set_refusal nodes p i len ≡ None) × (option_map (λ (n : Node). n.id) (get nodes p) ≡ Some id)
FindsArray nodes p i len (Err fault) = set_refusal nodes p i len ≡ Some fault

-- the paths of rows beneath a path, and whether they are arrays'
abbrev pub beneath_in : Rows → (path : List ℕ) → List (List ℕ × Bool)
beneath_in rows p =
    map (λ row. (row.0, is_array row.1.text)) (filter (λ row. is_beneath p row.0) rows)

abbrev pub rows_beneath : FinMap path_cmp Node → (path : List ℕ) → List (List ℕ × Bool)
rows_beneath nodes p = beneath_in (entries nodes) p

-- the entries of an array: indices, and where their chunks are, if they
-- are held; and whether it has any
abbrev pub chunks_of : {P : Type 0} → List (HeldEntry P) → Id8 → List (List ℕ × Option P)
chunks_of rows id = map (λ row. (row.1, row.2)) (filter (λ row. same_id8 row.0 id) rows)

abbrev pub has_chunks : {P : Type 0} → List (HeldEntry P) → Id8 → Bool
has_chunks rows id = list_any (λ row. same_id8 row.0 id) rows

-- the arrays of the new tree that have entries, in the order of their paths
abbrev pub array_of_row : List ℕ × Node → Option ChangedArray
array_of_row row =
    option_map (λ array. record { path = row.0; node = row.1.id; rank = length array.shape })
    (array_in row.1.text)

abbrev pub changed_arrays : {P : Type 0} → Held P → FinMap path_cmp Node → List ChangedArray
changed_arrays h nodes = filter_map array_of_row (written_rows h nodes)

-- what is held, without texts and places
abbrev pub keys_held : {P : Type 0} → Held P → ChangeKeys
keys_held h = record {
  dropped = h.dropped;
  added = keys h.added;
  metas = map (λ row. row.0) h.metas;
  chunks = map (λ row. (row.0, row.1)) h.chunks;
}
