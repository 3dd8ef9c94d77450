-- Boxes that lie in an array. (Own; Zarr v3 core specification, "Regular grids".)
use Rattle.std.specs.Prelude.{◌≡◌, ℕ, ◌≤◌, ◌==◌, ◌&&◌, nat_le, if◌then◌else◌, Bool}
use Rattle.std.specs.Prelude.{List, length, Option, Some, None, Result, Ok, Err}
use Rattle.std.specs.List.{All}
use Rattle.zarr_meta.specs.declared.views.ArrayView.{ArrayView}
use Rattle.zarr_meta.specs.Grids.{has_grid, chunk_bytes, most_chunk_bytes}
use Rattle.zarr_meta.specs.Kinds.{size_of}
use Rattle.store_api.specs.declared.machines.Refusal.{Refusal}
use Rattle.store_api.specs.declared.machines.Refusal.TheVariants.{Region}
use Rattle.store_api.specs.declared.machines.RegionFault.TheVariants.{OutOfShape, Large}
use Rattle.region_cells.specs.Boxes.{count_of, IsBoxOver}
use Rattle.region_cells.specs.Walks.{is_in_shape, count_within, most_cells, AreGridded}

-- how many cells a box of an array has: OutOfShape, Large
abbrev pub cells_counted : Option ℕ → Result ℕ Refusal
cells_counted None = Err (Region Large)
cells_counted (Some count) = Ok count

abbrev pub box_count : ArrayView → (from to : List ℕ) → Result ℕ Refusal
box_count array from to =
    if is_in_shape array.shape from to then cells_counted (count_within from to)
    else Err (Region OutOfShape)

-- chunks of some length divide the array, and the box lies in it and has so
-- many cells, which aren't too many
abbrev pub is_box_of : ArrayView → (from to : List ℕ) → (count : ℕ) → Bool
is_box_of array from to count =
    has_grid (size_of array.kind) array.shape array.chunks && is_in_shape array.shape from to
    && nat_le count most_cells && count == count_of from to

-- So it has with each chunk's index a number for each dimension; chunks have elements along
-- each of them, and aren't long.
pub record IsBoxOf (array : ArrayView) (from to : List ℕ) (count : ℕ) : Type 0 where
  pub counted : count ≡ count_of from to
  pub few : count ≤ most_cells
  pub gridded : AreGridded array.chunks from to
  pub over : (index : List ℕ) → length index ≡ length array.chunks
      → IsBoxOver from to array.chunks index
  pub positive : All (λ n. 1 ≤ n) array.chunks
  pub small : chunk_bytes (size_of array.kind) array.chunks ≤ most_chunk_bytes
