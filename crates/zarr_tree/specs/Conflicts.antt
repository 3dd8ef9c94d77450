-- What changes conflict with in a later commit. (The names are those of Icechunk's conflict
-- detector; the conditions are own.)
use Rattle.std.specs.Prelude.{◌≡◌, ◌≢◌, ◌⊎◌, ℕ, Bool, true, false}
use Rattle.std.specs.Prelude.{if◌then◌else◌, List, Option, Some, None, is_some}
use Rattle.std.specs.FinMap.{get}
use Rattle.ice_ids.specs.declared.Id8.{Id8}
use Rattle.zarr_path.specs.Paths.{root, is_within, parent_of}
use Rattle.zarr_tree.specs.declared.cases.Case.{Case}
use Rattle.zarr_tree.specs.declared.cases.Case.TheVariants as case
use Rattle.zarr_tree.specs.Nodes.{Node, is_group, is_array}
use Rattle.zarr_tree.specs.Trees.{Tree, node_at}
use Rattle.zarr_tree.specs.Changes.{Changes, is_gone, has_id, apply}
use Rattle.zarr_tree.specs.Touched.{Touched, lists, lists_chunk, lists_new, lists_updated}

-- whether there are two nodes, and both have one id
abbrev pub same_node : Option Node → Option Node → Bool
same_node None n = false
same_node (Some m) n = has_id m.id n

pub record HasEntry (c : Changes) (id : Id8) : Type 0 where
  pub index : List ℕ
  pub entry : is_some (c.chunks id index) ≡ true

pub record HasChunkListed (s : Touched) (id : Id8) : Type 0 where
  pub index : List ℕ
  pub listed : lists_chunk s.updated_chunks id index ≡ true

-- a node beneath a path that is listed as new
pub record HasNewBeneath (s : Touched) (u : Tree) (p : List ℕ) : Type 0 where
  pub path : List ℕ
  pub node : Node
  pub beneath : is_within p path ≡ true
  pub apart : p ≢ path
  pub found : node_at u path ≡ Some node
  pub listed : lists_new s node.id ≡ true

-- a node that the changes take away, and that the later tree still has; nodes keep their paths
abbrev pub TakesAway : Changes → (t u : Tree) → List ℕ → Node → Type 0
TakesAway c t u p n =
    (has_id n.id (node_at (apply c t) p) ≡ false) × (has_id n.id (node_at u p) ≡ true)

-- the cases about a node n of the tree before the commit, and its path p: what each is exactly for
abbrev pub AtNode : Case → Changes → Touched → (t u : Tree) → List ℕ
    → Option (List ℕ) → Node → Type 0
AtNode case.ZarrMetadataDoubleUpdate c s t u p None n =
    (is_some (c.metas n.id) ≡ true) × (lists_updated s n.id ≡ true)
AtNode case.ZarrMetadataUpdateOfDeletedArray c s t u p None n =
    (is_some (c.metas n.id) ≡ true) × (lists s.deleted_arrays n.id ≡ true)
AtNode case.ZarrMetadataUpdateOfDeletedGroup c s t u p None n =
    (is_some (c.metas n.id) ≡ true) × (lists s.deleted_groups n.id ≡ true)
AtNode case.ChunkDoubleUpdate c s t u p (Some i) n =
    (is_array n.text ≡ true) × (is_some (c.chunks n.id i) ≡ true)
    × (lists_chunk s.updated_chunks n.id i ≡ true)
AtNode case.ChunksUpdatedInDeletedArray c s t u p None n =
    (is_array n.text ≡ true) × HasEntry c n.id × (lists s.deleted_arrays n.id ≡ true)
AtNode case.ChunksUpdatedInUpdatedArray c s t u p None n =
    (is_array n.text ≡ true) × HasEntry c n.id × (lists s.updated_arrays n.id ≡ true)
AtNode case.DeleteOfUpdatedArray c s t u p None n =
    (is_array n.text ≡ true) × TakesAway c t u p n
    × ((lists s.updated_arrays n.id ≡ true) ⊎ HasChunkListed s n.id)
AtNode case.DeleteOfUpdatedGroup c s t u p None n =
    (is_group n.text ≡ true) × TakesAway c t u p n
    × ((lists s.updated_groups n.id ≡ true) ⊎ HasNewBeneath s u p)
AtNode k c s t u p i n = ⊥

-- an added node whose path a node of the later tree has that the changes leave there
abbrev pub IsTaken : Changes → Tree → List ℕ → Type 0
IsTaken c u p =
    (is_some (get c.added p) ≡ true) × (is_some (node_at u p) ≡ true)
    × (is_gone c.dropped u.nodes p ≡ false)

-- an added node whose parent isn't added, and isn't in the later tree what it was
abbrev pub IsOrphan : Changes → (t u : Tree) → List ℕ → Type 0
IsOrphan c t u p =
    (is_some (get c.added p) ≡ true) × (p ≢ root) × (get c.added (parent_of p) ≡ None)
    × (same_node (node_at t (parent_of p)) (node_at u (parent_of p)) ≡ false)

-- what conflicts: our changes; the lists of one later commit; the tree before it, and after it
abbrev pub IsConflict : Changes → Touched → (t u : Tree) → Case → List ℕ → Option (List ℕ) → Type 0
IsConflict c s t u case.NewNodeConflictsWithExistingNode p None = IsTaken c u p
IsConflict c s t u case.NewNodeConflictsWithExistingNode p (Some i) = ⊥
IsConflict c s t u case.NewNodeInInvalidGroup p None = IsOrphan c t u p
IsConflict c s t u case.NewNodeInInvalidGroup p (Some i) = ⊥
IsConflict c s t u k p i = (n : Node) × (node_at t p ≡ Some n) × AtNode k c s t u p i n

abbrev pub NoConflict : Changes → Touched → (t u : Tree) → Type 0
NoConflict c s t u = (k : Case) (p : List ℕ) (i : Option (List ℕ)) → ¬ IsConflict c s t u k p i

-- the cases that no policy solves
abbrev pub is_hard : Case → Bool
is_hard case.ChunkDoubleUpdate = false
is_hard case.DeleteOfUpdatedArray = false
is_hard case.DeleteOfUpdatedGroup = false
is_hard k = true

abbrev pub NoHardConflict : Changes → Touched → (t u : Tree) → Type 0
NoHardConflict c s t u =
    (k : Case) (p : List ℕ) (i : Option (List ℕ)) → is_hard k ≡ true → ¬ IsConflict c s t u k p i

-- the changes without the entries that are given up
abbrev pub without : Changes → (out : Id8 → List ℕ → Bool) → Changes
without c out = record c { chunks = λ id i. if out id i then None else c.chunks id i }

-- changes add no id that other changes add
abbrev pub AddsUnlike : (c other : Changes) → Type 0
AddsUnlike c other =
    (p : List ℕ) (n : Node) → get c.added p ≡ Some n → (q : List ℕ) (m : Node)
    → get other.added q ≡ Some m → m.id ≢ n.id

-- the ids that changes add are absent from other changes
abbrev pub IsApart : (c other : Changes) → Type 0
IsApart c other =
    (p : List ℕ) (n : Node) → get c.added p ≡ Some n
    → (other.dropped n.id ≡ false)
    × ((q : List ℕ) (m : Node) → get other.added q ≡ Some m → m.id ≢ n.id)
