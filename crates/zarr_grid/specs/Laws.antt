-- What holds of cells, chunks and grids.
use Rattle.std.specs.Prelude.{◌≡◌, ℕ, ◌<◌, ◌≤◌, ◌*◌, List, All, length, map, zip, IsTrue}
use Rattle.zarr_meta.specs.Grids.{product, are_below, is_in_grid}
use Rattle.zarr_grid.specs.Cells.{chunk_of, place_of, IsCellAt}

-- each cell has a place within its chunk
abbrev pub WithinLaw : Type 0
WithinLaw =
    (chunks cell : List ℕ) → length cell ≡ length chunks → All (λ n. 1 ≤ n) chunks
    → place_of chunks cell < product chunks

-- each place of a chunk is that of exactly one cell
abbrev pub OneCellLaw : Type 0
OneCellLaw =
    (chunks index : List ℕ) (place : ℕ) → length index ≡ length chunks → All (λ n. 1 ≤ n) chunks
    → place < product chunks
    → (cell : List ℕ) × IsCellAt chunks index place cell
    × ((other : List ℕ) → IsCellAt chunks index place other → other ≡ cell)

-- the cells of an array lie in the chunks of its grid
abbrev pub InGridLaw : Type 0
InGridLaw =
    (shape chunks cell : List ℕ) → length shape ≡ length chunks → All (λ n. 1 ≤ n) chunks
    → IsTrue (are_below cell shape)
    → IsTrue (is_in_grid shape chunks (chunk_of chunks cell))

-- and each chunk of the grid has a cell of the array, its first one
abbrev pub FirstCellLaw : Type 0
FirstCellLaw =
    (shape chunks index : List ℕ) → length shape ≡ length chunks → All (λ n. 1 ≤ n) chunks
    → IsTrue (is_in_grid shape chunks index)
    → IsTrue (are_below (map (λ p. p.0 * p.1) (zip index chunks)) shape)
