-- Rows put into a map one after another; no public contract cites this.
use Rattle.std.specs.Prelude.{ℕ, Bool, if◌then◌else◌, List, [], ◌∷◌}
use Rattle.std.specs.FinMap.{FinMap, insert}
use Rattle.zarr_path.specs.Paths.{path_cmp}
use Rattle.zarr_tree.specs.Nodes.{Node}
use Rattle.zarr_tree.specs.Held.{Rows}

-- a row, as it is changed, unless its path is gone
abbrev pub put_row : (gone : List ℕ → Bool) → (Node → Node) → FinMap path_cmp Node → List ℕ × Node
    → FinMap path_cmp Node
put_row gone changed nodes row = if gone row.0 then nodes else insert nodes row.0 (changed row.1)

abbrev pub put_kept : (gone : List ℕ → Bool) → (Node → Node) → FinMap path_cmp Node → Rows
    → FinMap path_cmp Node
put_kept gone changed nodes [] = nodes
put_kept gone changed nodes (row ∷ rows) =
    put_kept gone changed (put_row gone changed nodes row) rows
