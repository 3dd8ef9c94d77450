-- When what code and model answer is alike (own).
use Rattle.std.specs.Prelude.{ℕ, ◌&&◌, Bool, true, false, List, Option, Some, None, bytes_eq}
use Rattle.std.specs.List.{list_all}
use Rattle.std.specs.FinMap.{FinMap, get}
use Rattle.ice_ids.specs.Text.{same_id8}
use Rattle.zarr_path.specs.Paths.{path_cmp}
use Rattle.zarr_tree.specs.Nodes.{Node}
use Rattle.zarr_tree.specs.Trees.{Tree}
use Rattle.zarr_tree.specs.Held.{HeldEntry, entry_in}
use Rattle.manifest_file.specs.declared.manifest.Place.{Place}
use Rattle.manifest_file.specs.declared.manifest.Place.TheVariants.{Inline}

abbrev pub same_node : Node → Node → Bool
same_node a b = same_id8 a.id b.id && bytes_eq a.text b.text

abbrev pub same_found : Option Node → Option Node → Bool
same_found (Some a) (Some b) = same_node a b
same_found None None = true
same_found a b = false

-- at each path two maps have the same node, or none
abbrev pub same_nodes : (paths : List (List ℕ)) → FinMap path_cmp Node → FinMap path_cmp Node → Bool
same_nodes paths t u = list_all (λ path. same_found (get t path) (get u path)) paths

abbrev pub same_chunk : Option (List ℕ) → Option (List ℕ) → Bool
same_chunk (Some a) (Some b) = bytes_eq a b
same_chunk None None = true
same_chunk a b = false

-- at each path two trees have the same node, and at each index the same chunk, or none
abbrev pub same_at : (indices : List (List ℕ)) → Tree → Tree → (path : List ℕ) → Bool
same_at indices t u path =
    same_found (get t.nodes path) (get u.nodes path)
    && list_all (λ i. same_chunk (t.chunk path i) (u.chunk path i)) indices

abbrev pub same_trees : (paths indices : List (List ℕ)) → Tree → Tree → Bool
same_trees paths indices t u = list_all (λ path. same_at indices t u path) paths

-- the bytes at a place are these
abbrev pub same_bytes : Option Place → Option (List ℕ) → Bool
same_bytes (Some (Inline a)) (Some b) = bytes_eq a b
same_bytes None None = true
same_bytes a b = false

abbrev pub same_entry : Option (Option Place) → Option (Option (List ℕ)) → Bool
same_entry (Some a) (Some b) = same_bytes a b
same_entry None None = true
same_entry a b = false

-- at each index a node has the same entry, or none
abbrev pub same_entries : (indices : List (List ℕ)) → List (HeldEntry Place)
    → List (HeldEntry (List ℕ)) → Option Node → Bool
same_entries indices held entries (Some node) =
    list_all (λ i. same_entry (entry_in held node.id i) (entry_in entries node.id i)) indices
same_entries indices held entries None = true

-- so has each node of a tree
abbrev pub same_chunks : (paths indices : List (List ℕ)) → List (HeldEntry Place)
    → List (HeldEntry (List ℕ)) → FinMap path_cmp Node → Bool
same_chunks paths indices held entries nodes =
    list_all (λ path. same_entries indices held entries (get nodes path)) paths
