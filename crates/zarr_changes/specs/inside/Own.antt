-- Nodes of a tree that stay under what is held; no public contract cites this.
use Rattle.std.specs.Prelude.{List, ℕ, Bool, not, ◌&&◌, nat_le}
use Rattle.std.specs.Prelude.{if◌then◌else◌, Option, None, Some, option_map}
use Rattle.std.specs.List.{list_any, filter}
use Rattle.std.specs.FinMap.{FinMap, get, len}
use Rattle.ice_ids.specs.declared.Id8.{Id8}
use Rattle.ice_ids.specs.Text.{same_id8}
use Rattle.zarr_path.specs.Paths.{path_cmp, is_within, same_path, root, parent_of}
use Rattle.zarr_tree.specs.declared.edit.EditFault.{EditFault}
use Rattle.zarr_tree.specs.declared.edit.EditFault.TheVariants.{NoParent, Full}
use Rattle.zarr_tree.specs.Edits.{is_group_at, most_nodes}
use Rattle.zarr_tree.specs.Nodes.{Node}
use Rattle.zarr_tree.specs.Changes.{is_gone, patched}
use Rattle.zarr_tree.specs.Touched.{lists}
use Rattle.zarr_tree.specs.Held.{Held, Rows, HeldEntry, meta_in}

-- the tree's node at a path with its other text, if it isn't gone
abbrev pub own_node : {P : Type 0} → Held P → FinMap path_cmp Node → (path : List ℕ) → Option Node
own_node h nodes p =
    if is_gone (lists h.dropped) nodes p then None
    else option_map (patched (meta_in h.metas)) (get nodes p)

-- why no node can be added at a path where none stands
abbrev pub place_refusal : FinMap path_cmp Node → (path : List ℕ) → Option EditFault
place_refusal nodes p =
    if not (same_path p root) && not (is_group_at (get nodes (parent_of p))) then Some NoParent else
    (if nat_le most_nodes (len nodes) then Some Full else
    None)

-- whether one of the rows at or beneath a path has this id
abbrev pub within_rows : Rows → (path : List ℕ) → Id8 → Bool
within_rows rows p id = list_any (λ row. is_within p row.0 && same_id8 row.1.id id) rows

-- the other texts but those of these nodes
abbrev pub texts_left : {P : Type 0} → Held P → (gone : Id8 → Bool) → List (Id8 × List ℕ)
texts_left h gone = filter (λ row. not (gone row.0)) h.metas

-- and the entries but those of these nodes
abbrev pub chunks_left : {P : Type 0} → Held P → (gone : Id8 → Bool) → List (HeldEntry P)
chunks_left h gone = filter (λ entry. not (gone entry.0)) h.chunks
