-- Rows of paths and nodes, in the order of the paths. (Own.)
use Rattle.std.specs.Prelude.{ℕ, List, map, String, T}
use Rattle.std.specs.Borrow.{Bor}
use Rattle.std.specs.Global.{Global}
use Rattle.std.specs.List.{list_all}
use Rattle.std.specs.FinMap.{is_sorted}
use Rattle.std.specs.String.{string_bytes}
use Rattle.zarr_path.specs.Paths.{path_cmp, is_path}
use Rattle.zarr_tree.specs.declared.nodes.Found.{Found}
use Rattle.zarr_tree.specs.Nodes.{Node}
use Rattle.zarr_tree.specs.Held.{Rows}

-- what a node that was found in a tree stands for
abbrev pub node_found : Found → Node
node_found found = record { id = found.id; text = found.meta.now.text }

-- a path that was found, and its node
abbrev pub row_found : Bor (List ℕ) × Found → List ℕ × Node
row_found row = (row.0.now, node_found row.1)

-- the paths of rows rise, and are paths
abbrev pub IsInOrder : Rows → Type 0
IsInOrder rows = T (is_sorted path_cmp rows)

abbrev pub ArePaths : Rows → Type 0
ArePaths rows = T (list_all (λ row. is_path row.0) rows)

-- the paths of nodes, as bytes, and the nodes: the rows of a map that code keeps
abbrev pub node_rows : List (String Global × Node) → Rows
node_rows nodes = map (λ e. (string_bytes e.0, e.1)) nodes
