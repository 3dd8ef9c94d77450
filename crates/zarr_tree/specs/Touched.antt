-- What changes touch of a tree. (Icechunk specification version 1,
-- "Transaction log": the lists of ids.)
use Rattle.std.specs.Prelude.{◌≡◌, ◌↔◌, ◌⊎◌, ℕ, ◌==◌, Bool, true, false, ◌&&◌}
use Rattle.std.specs.Prelude.{◌||◌, List, [], ◌∷◌, length, map, Some, is_some}
use Rattle.std.specs.FinMap.{get}
use Rattle.std.specs.List.{list_any, list_all, AllByRecursion}
use Rattle.std.specs.List.Sorted.{IsStrictlySortedBy}
use Rattle.ice_ids.specs.declared.Id8.{Id8}
use Rattle.ice_ids.specs.Text.{same_id8, id8_cmp}
use Rattle.zarr_path.specs.Indices.{index_cmp}
use Rattle.zarr_tree.specs.declared.lists.ArrayChunks.{ArrayChunks}
pub use Rattle.zarr_tree.specs.declared.lists.Touched.{Touched}
use Rattle.zarr_tree.specs.Nodes.{Node, is_group, is_array, same_numbers}
use Rattle.zarr_tree.specs.Trees.{Tree, node_at}
use Rattle.zarr_tree.specs.Changes.{Changes, is_gone, has_id, apply}

-- whether a list has an id, an index, or a chunk of an array
abbrev pub lists : List Id8 → Id8 → Bool
lists ids id = list_any (λ other. same_id8 other id) ids

abbrev pub lists_index : List (List ℕ) → List ℕ → Bool
lists_index indices i = list_any (λ other. same_numbers other i) indices

abbrev pub lists_chunk : List ArrayChunks → Id8 → List ℕ → Bool
lists_chunk arrays id i =
    list_any (λ array. same_id8 array.node id && lists_index array.chunks i) arrays

abbrev pub lists_new : Touched → Id8 → Bool
lists_new s id = lists s.new_groups id || lists s.new_arrays id

abbrev pub lists_deleted : Touched → Id8 → Bool
lists_deleted s id = lists s.deleted_groups id || lists s.deleted_arrays id

abbrev pub lists_updated : Touched → Id8 → Bool
lists_updated s id = lists s.updated_arrays id || lists s.updated_groups id

-- whether no list has an entry
abbrev pub is_untouched : Touched → Bool
is_untouched s =
    list_all (λ ids. length ids == 0)
    (s.new_groups ∷ s.new_arrays ∷ s.deleted_groups ∷ s.deleted_arrays ∷ s.updated_arrays
    ∷ s.updated_groups ∷ [])
    && length s.updated_chunks == 0

-- the lists stand in strict order, arrays by the ids of their nodes
abbrev pub IdsAscend : List Id8 → Type 0
IdsAscend ids = IsStrictlySortedBy id8_cmp ids

abbrev pub IndicesAscend : List (List ℕ) → Type 0
IndicesAscend indices = IsStrictlySortedBy index_cmp indices

pub record IsOrdered (s : Touched) : Type 0 where
  pub new_groups : IdsAscend s.new_groups
  pub new_arrays : IdsAscend s.new_arrays
  pub deleted_groups : IdsAscend s.deleted_groups
  pub deleted_arrays : IdsAscend s.deleted_arrays
  pub updated_arrays : IdsAscend s.updated_arrays
  pub updated_groups : IdsAscend s.updated_groups
  pub arrays : IdsAscend (map (λ array. array.node) s.updated_chunks)
  pub chunks : AllByRecursion (λ (array : ArrayChunks). IndicesAscend array.chunks) s.updated_chunks

-- ---- what the lists are to have; `kind` is `is_group` or `is_array`

-- a node that is added
pub record IsNew (c : Changes) (kind : List ℕ → Bool) (id : Id8) : Type 0 where
  pub path : List ℕ
  pub node : Node
  pub added : get c.added path ≡ Some node
  pub same : node.id ≡ id
  pub kind_of : kind node.text ≡ true

-- a node of the tree that is gone: it was dropped, or is beneath one that was
pub record IsDeleted (c : Changes) (t : Tree) (kind : List ℕ → Bool) (id : Id8) : Type 0 where
  pub path : List ℕ
  pub node : Node
  pub found : node_at t path ≡ Some node
  pub same : node.id ≡ id
  pub kind_of : kind node.text ≡ true
  pub gone : is_gone c.dropped t.nodes path ≡ true

-- a node of the tree that stays, with another text
pub record IsUpdated (c : Changes) (t : Tree) (kind : List ℕ → Bool) (id : Id8) : Type 0 where
  pub path : List ℕ
  pub node : Node
  pub found : node_at t path ≡ Some node
  pub same : node.id ≡ id
  pub kind_of : kind node.text ≡ true
  pub stays : has_id id (node_at (apply c t) path) ≡ true
  pub updated : is_some (c.metas id) ≡ true

-- an entry, whatever its bytes, at an array of the new tree
pub record IsUpdatedChunk (c : Changes) (t : Tree) (id : Id8) (i : List ℕ) : Type 0 where
  pub path : List ℕ
  pub node : Node
  pub found : node_at (apply c t) path ≡ Some node
  pub same : node.id ≡ id
  pub kind_of : is_array node.text ≡ true
  pub entry : is_some (c.chunks id i) ≡ true

-- the lists have what the changes touch of the tree, and nothing else
pub record Touches (c : Changes) (t : Tree) (s : Touched) : Type 0 where
  pub new_groups : (id : Id8) → (lists s.new_groups id ≡ true) ↔ IsNew c is_group id
  pub new_arrays : (id : Id8) → (lists s.new_arrays id ≡ true) ↔ IsNew c is_array id
  pub deleted_groups : (id : Id8) → (lists s.deleted_groups id ≡ true) ↔ IsDeleted c t is_group id
  pub deleted_arrays : (id : Id8) → (lists s.deleted_arrays id ≡ true) ↔ IsDeleted c t is_array id
  pub updated_arrays : (id : Id8) → (lists s.updated_arrays id ≡ true) ↔ IsUpdated c t is_array id
  pub updated_groups : (id : Id8) → (lists s.updated_groups id ≡ true) ↔ IsUpdated c t is_group id
  pub updated_chunks : (id : Id8) (i : List ℕ)
      → (lists_chunk s.updated_chunks id i ≡ true) ↔ IsUpdatedChunk c t id i

-- ---- in what two trees differ

-- the lists tell all in which a later tree differs. A node that stands at its path in one of
-- the trees alone is listed as new or as deleted. Of a node in both, its text is the same, or
-- it is listed as updated or as new; and each chunk of an array in both is the same, or that
-- chunk is listed, or the array as new
pub record DiffersIn (s : Touched) (earlier later : Tree) : Type 0 where
  pub new : (p : List ℕ) (n : Node) → node_at later p ≡ Some n
      → has_id n.id (node_at earlier p) ≡ false → lists_new s n.id ≡ true
  pub deleted : (p : List ℕ) (n : Node) → node_at earlier p ≡ Some n
      → has_id n.id (node_at later p) ≡ false → lists_deleted s n.id ≡ true
  pub updated : (p : List ℕ) (m n : Node) → node_at earlier p ≡ Some m
      → node_at later p ≡ Some n → m.id ≡ n.id
      → (n.text ≡ m.text) ⊎ ((lists_updated s n.id || lists_new s n.id) ≡ true)
  pub chunks : (p i : List ℕ) (m n : Node) → node_at earlier p ≡ Some m → node_at later p ≡ Some n
      → m.id ≡ n.id → is_array n.text ≡ true
      → (later.chunk p i ≡ earlier.chunk p i)
      ⊎ ((lists_chunk s.updated_chunks n.id i || lists_new s n.id) ≡ true)
