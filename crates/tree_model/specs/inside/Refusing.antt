-- Why edits are refused, by the node at their path; no public contract cites this.
use Rattle.std.specs.Prelude.{ℕ, not, ◌&&◌, ◌==◌, nat_le, List, if◌then◌else◌}
use Rattle.std.specs.Prelude.{Option, Some, None, is_some, option_map, Result, Ok, Err}
use Rattle.std.specs.FinMap.{FinMap, get, len}
use Rattle.zarr_path.specs.Paths.{path_cmp, same_path, root, parent_of}
use Rattle.zarr_tree.specs.declared.edit.EditFault.{EditFault}
use Rattle.zarr_tree.specs.declared.edit.EditFault.TheVariants.{NodeExists, NoParent, Full}
use Rattle.zarr_tree.specs.declared.edit.EditFault.TheVariants.{FrozenField, ChunkLength}
use Rattle.zarr_tree.specs.Nodes.{Node, frozen_change}
use Rattle.zarr_tree.specs.Edits.{is_group_at, at_node, most_nodes}
use Rattle.tree_model.specs.inside.Lengths.{length_at}

abbrev pub place_refusal : FinMap path_cmp Node → (path : List ℕ) → Option EditFault
place_refusal nodes p =
    if not (same_path p root) && not (is_group_at (get nodes (parent_of p))) then Some NoParent else
    (if nat_le most_nodes (len nodes) then Some Full else
    None)

abbrev pub add_refusal : FinMap path_cmp Node → (path : List ℕ) → Option EditFault
add_refusal nodes p = if is_some (get nodes p) then Some NodeExists else place_refusal nodes p

abbrev pub meta_refusal : (text : List ℕ) → Option Node → Option EditFault
meta_refusal text there = at_node there (λ n. option_map FrozenField (frozen_change n.text text))

abbrev pub drop_refusal : Option Node → Option EditFault
drop_refusal there = at_node there (λ n. None)

-- of the number of bytes that a chunk has, or why it has none
abbrev pub other_length : (got : ℕ) → Result ℕ EditFault → Option EditFault
other_length got (Ok want) = if got == want then None else Some (ChunkLength want got)
other_length got (Err fault) = Some fault

abbrev pub set_refusal : (index : List ℕ) → (got : ℕ) → Option Node → Option EditFault
set_refusal i got there = other_length got (length_at i there)

abbrev pub any_length : Result ℕ EditFault → Option EditFault
any_length (Ok want) = None
any_length (Err fault) = Some fault

abbrev pub unset_refusal : (index : List ℕ) → Option Node → Option EditFault
unset_refusal i there = any_length (length_at i there)
