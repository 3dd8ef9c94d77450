-- Trees of nodes and chunks. (Zarr v3 core specification, "Hierarchy".)
use Rattle.std.specs.Prelude.{◌≡◌, ◌≢◌, ℕ, true, List, Option, Some, None}
use Rattle.std.specs.FinMap.{FinMap, empty, get}
use Rattle.zarr_path.specs.Paths.{path_cmp, root, is_path, parent_of}
use Rattle.zarr_tree.specs.Nodes.{Node, is_metadata, is_group, Fits}

-- a finite map from paths to nodes, and the bytes of the chunk that is held at a path and an index
pub record Tree : Type 0 where
  pub nodes : FinMap path_cmp Node
  pub chunk : (path index : List ℕ) → Option (List ℕ)

-- the tree without a node
abbrev pub no_tree : Tree
no_tree = record { nodes = empty; chunk = λ path index. None }

-- the node at a path
abbrev pub node_at : Tree → List ℕ → Option Node
node_at t p = get t.nodes p

-- a group stands at the path
pub record HasGroup (t : Tree) (p : List ℕ) : Type 0 where
  pub node : Node
  pub found : node_at t p ≡ Some node
  pub group : is_group node.text ≡ true

-- an array stands at the path, and may hold this chunk
pub record HasArray (t : Tree) (p i : List ℕ) (bytes : List ℕ) : Type 0 where
  pub node : Node
  pub found : node_at t p ≡ Some node
  pub fits : Fits node.text i (Some bytes)

-- each node stands at a path and has metadata, node ids are distinct, each path but `/` has a group
-- of the tree as its parent, and each chunk stands at an array that may hold it
pub record IsWellFormed (t : Tree) : Type 0 where
  pub named : (p : List ℕ) (n : Node) → node_at t p ≡ Some n → is_path p ≡ true
  pub readable : (p : List ℕ) (n : Node) → node_at t p ≡ Some n → is_metadata n.text ≡ true
  pub distinct : (p q : List ℕ) (m n : Node) → node_at t p ≡ Some m
      → node_at t q ≡ Some n → m.id ≡ n.id → p ≡ q
  pub parents : (p : List ℕ) (n : Node) → node_at t p ≡ Some n → p ≢ root → HasGroup t (parent_of p)
  pub chunks : (p i : List ℕ) (bytes : List ℕ) → t.chunk p i ≡ Some bytes → HasArray t p i bytes
