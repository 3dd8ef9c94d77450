-- The cells of an array. (Zarr v3 core specification, "Regular
-- grids", "fill_value"; `bytes` codec.)
use Rattle.std.specs.Prelude.{ℕ, ℤ, List, map, Option, option_map, option_and_then}
use Rattle.zarr_meta.specs.declared.views.ArrayView.{ArrayView}
use Rattle.zarr_grid.specs.Cells.{chunk_of}
use Rattle.zarr_tree.specs.Nodes.{array_in}
use Rattle.zarr_tree.specs.Trees.{Tree, node_at}
use Rattle.region_cells.specs.Boxes.{box_cells}
use Rattle.region_cells.specs.Walks.{number_held}

-- the array at a path of a tree
abbrev pub array_of_tree : Tree → (path : List ℕ) → Option ArrayView
array_of_tree t path = option_and_then (λ n. array_in n.text) (node_at t path)

-- the number of a cell: that of its element in its chunk, or the fill
-- value where that chunk isn't held
abbrev pub cell_number : Tree → (path : List ℕ) → ArrayView → (cell : List ℕ) → ℤ
cell_number t path array cell =
    number_held array.kind array.big array.fill array.chunks cell
    (t.chunk path (chunk_of array.chunks cell))

-- the numbers of a box of an array, in C order
abbrev pub cells_of : Tree → (path from to : List ℕ) → Option (List ℤ)
cells_of t path from to =
    option_map (λ array. map (cell_number t path array) (box_cells from to)) (array_of_tree t path)
