-- Boxes of cells: those from one cell on to below another, along each dimension. (Own.)
use Rattle.std.specs.Prelude.{ℕ, zero, suc, ◌-◌, ◌^◌, ◌≤◌, ◌<◌, List, [], ◌∷◌, map, zip}
use Rattle.std.specs.List.{flat_map}
use Rattle.zarr_meta.specs.Grids.{product}
use Rattle.zarr_grid.specs.Cells.{c_order}

-- so many numbers, one after another
abbrev pub numbers_from : ℕ → (count : ℕ) → List ℕ
numbers_from n zero = []
numbers_from n (suc count) = n ∷ numbers_from (suc n) count

-- the cells of a box in C order
abbrev pub box_cells : (from to : List ℕ) → List (List ℕ)
box_cells [] to = [] ∷ []
box_cells (a ∷ from) [] = [] ∷ []
box_cells (a ∷ from) (b ∷ to) =
    flat_map (λ n. map (λ cell. n ∷ cell) (box_cells from to)) (numbers_from a (b - a))

-- how long it is along each dimension, and how many cells it has
abbrev pub lengths_of : (from to : List ℕ) → List ℕ
lengths_of from to = map (λ p. p.1 - p.0) (zip from to)

abbrev pub count_of : (from to : List ℕ) → ℕ
count_of from to = product (lengths_of from to)

-- it has this cell
abbrev pub IsInBox : (from to cell : List ℕ) → Type 0
IsInBox [] [] [] = Unit {0}
IsInBox (a ∷ from) (b ∷ to) (n ∷ cell) = (a ≤ n) × (n < b) × IsInBox from to cell
IsInBox from to cell = ⊥

-- how many of its cells stand before this one in C order
abbrev pub place_in_box : (from to cell : List ℕ) → ℕ
place_in_box from to cell = c_order (lengths_of from to) (map (λ p. p.1 - p.0) (zip from cell))

-- a box and a chunk, with a number for each dimension; a chunk has no more elements
-- along one than its length may say
abbrev pub IsBoxOver : (from to chunks index : List ℕ) → Type 0
IsBoxOver [] [] [] [] = Unit {0}
IsBoxOver (a ∷ from) (b ∷ to) (n ∷ chunks) (i ∷ index) =
    (1 ≤ n) × (n < 2 ^ 32) × IsBoxOver from to chunks index
IsBoxOver from to chunks index = ⊥
