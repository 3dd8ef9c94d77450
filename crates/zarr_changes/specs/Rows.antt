-- Rows of paths and nodes, in the order of the paths. (Own.)
use Rattle.std.specs.Prelude.{ℕ, Bool, true, List, [], ◌∷◌, ◌++◌}
use Rattle.std.specs.Prelude.{map, drop, not, Option, Some, None}
use Rattle.std.specs.Borrow.{Bor}
use Rattle.std.specs.List.{filter}
use Rattle.std.specs.FinMap.{FinMap, entries, from_entries}
use Rattle.zarr_path.specs.Paths.{path_cmp, is_path}
use Rattle.zarr_tree.specs.declared.nodes.Found.{Found}
use Rattle.zarr_tree.specs.Nodes.{Node}
use Rattle.zarr_tree.specs.Rows.{row_found}
use Rattle.zarr_tree.specs.Changes.{is_gone, patched}
use Rattle.zarr_tree.specs.Touched.{lists}
use Rattle.zarr_tree.specs.Held.{Held, Rows, meta_in}

-- the nodes of both lists, by their paths: at a path of both the first one's
abbrev pub overlay : Rows → Rows → FinMap path_cmp Node
overlay first second = from_entries (first ++ second)

-- the rows of a tree that stay, from row number `at` on, with their other texts
abbrev pub own_rows : {P : Type 0} → Held P → FinMap path_cmp Node → (at : ℕ) → Rows
own_rows h nodes at =
    map (λ row. (row.0, patched (meta_in h.metas) row.1))
    (filter (λ row. not (is_gone (lists h.dropped) nodes row.0)) (drop at (entries nodes)))

-- a row, if there is one, and the others
abbrev pub rows_from : Option (Bor (List ℕ) × Found) → Rows → Rows
rows_from None rest = []
rows_from (Some row) rest = row_found row ∷ rest

-- whether the row, if there is one, is at a path
abbrev pub is_named : Option (Bor (List ℕ) × Found) → Bool
is_named None = true
is_named (Some row) = is_path row.0.now
