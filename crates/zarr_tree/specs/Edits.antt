-- Single edits of a tree, and why a tree doesn't take one. (Own; where nodes may stand: Zarr v3
-- core specification, "Hierarchy".)
use Rattle.std.specs.Prelude.{ℕ, Bool, false, not, ◌&&◌, ◌==◌, nat_le, if◌then◌else◌, List}
use Rattle.std.specs.Prelude.{length, Option, Some, None, is_some, option_map, Result, Ok, Err}
use Rattle.std.specs.FinMap.{FinMap, get, insert, retain_keys, len}
use Rattle.ice_ids.specs.declared.Id8.{Id8}
use Rattle.zarr_path.specs.Paths.{path_cmp, same_path, root, is_within, parent_of}
use Rattle.zarr_meta.specs.declared.views.ArrayView.{ArrayView}
use Rattle.zarr_tree.specs.declared.edit.EditFault.{EditFault}
use Rattle.zarr_tree.specs.declared.edit.EditFault.TheVariants.{NodeExists, NoParent, Full}
use Rattle.zarr_tree.specs.declared.edit.EditFault.TheVariants.{NoNode, FrozenField, NotArray}
use Rattle.zarr_tree.specs.declared.edit.EditFault.TheVariants.{OutOfGrid, ChunkLength}
use Rattle.zarr_tree.specs.Nodes.{Node, is_group, array_in, frozen_change}
use Rattle.zarr_tree.specs.Nodes.{in_grid, chunk_length, same_numbers}
use Rattle.zarr_tree.specs.Trees.{Tree, node_at}

-- a new node with its id and the text of its metadata; another text for a node; a node and all
-- beneath it taken away; a chunk's bytes; no chunk
pub data Edit : Type 0 where
  Add : (path : List ℕ) → Id8 → (text : List ℕ) → Edit
  SetMeta : (path text : List ℕ) → Edit
  Drop : (path : List ℕ) → Edit
  Set : (path index bytes : List ℕ) → Edit
  Unset : (path index : List ℕ) → Edit

-- the most nodes that a tree may have
abbrev pub most_nodes : ℕ
most_nodes = 65536

abbrev pub is_group_at : Option Node → Bool
is_group_at None = false
is_group_at (Some n) = is_group n.text

-- of the node at a path, if there is one
abbrev pub at_node : Option Node → (Node → Option EditFault) → Option EditFault
at_node None why = Some NoNode
at_node (Some n) why = why n

-- of the array that a node is, if it is one
abbrev pub at_array : Option ArrayView → (ArrayView → Option EditFault) → Option EditFault
at_array None why = Some NotArray
at_array (Some array) why = why array

-- why a tree doesn't take an edit: the first reason in the order of the lines
abbrev pub refusal : Tree → Edit → Option EditFault
refusal t (Add p id text) =
    if is_some (node_at t p) then Some NodeExists else
    (if not (same_path p root) && not (is_group_at (node_at t (parent_of p)))
    then Some NoParent else
    (if nat_le most_nodes (len t.nodes) then Some Full else
    None))
refusal t (SetMeta p text) =
    at_node (node_at t p) (λ n.
    option_map FrozenField (frozen_change n.text text))
refusal t (Drop p) =
    at_node (node_at t p) (λ n.
    None)
refusal t (Set p i bytes) =
    at_node (node_at t p) (λ n.
    at_array (array_in n.text) (λ array.
    if not (in_grid array i) then Some OutOfGrid else
    (if not (length bytes == chunk_length array)
    then Some (ChunkLength (chunk_length array) (length bytes)) else
    None)))
refusal t (Unset p i) =
    at_node (node_at t p) (λ n.
    at_array (array_in n.text) (λ array.
    if not (in_grid array i) then Some OutOfGrid else
    None))

-- whether a chunk's place is this one
abbrev pub is_place : (path index : List ℕ) → List ℕ → List ℕ → Bool
is_place p i q j = same_path q p && same_numbers j i

-- the node with another text
abbrev pub with_text : List ℕ → Node → Node
with_text text n = record n { text = text }

-- a map with a node at a path, if there is one to put there
abbrev pub put_some : FinMap path_cmp Node → List ℕ → Option Node → FinMap path_cmp Node
put_some nodes p None = nodes
put_some nodes p (Some n) = insert nodes p n

-- the tree that an edit leaves, where it isn't refused
abbrev pub edited : Tree → Edit → Tree
edited t (Add p id text) = record t { nodes = insert t.nodes p (record { id = id; text = text }) }
edited t (SetMeta p text) =
    record t { nodes = put_some t.nodes p (option_map (with_text text) (get t.nodes p)) }
edited t (Drop p) = record {
  nodes = retain_keys t.nodes (λ q. not (is_within p q));
  chunk = λ q j. if is_within p q then None else t.chunk q j;
}
edited t (Set p i bytes) =
    record t { chunk = λ q j. if is_place p i q j then Some bytes else t.chunk q j }
edited t (Unset p i) = record t { chunk = λ q j. if is_place p i q j then None else t.chunk q j }

-- this value, unless it is refused
abbrev pub unless : {A : Type 0} → Option EditFault → A → Result A EditFault
unless None x = Ok x
unless (Some fault) x = Err fault

-- one edit on a tree
abbrev pub change : Tree → Edit → Result Tree EditFault
change t e = unless (refusal t e) (edited t e)
