-- The part of a box that lies in one chunk. (Own; Zarr v3 core specification, "Regular grids".)
use Rattle.std.specs.Prelude.{◌≡◌, ℕ, ℤ, pos, Bool, ◌≢◌, List, length, get_or}
use Rattle.zarr_meta.specs.declared.kinds.IntKind.{IntKind}
use Rattle.zarr_grid.specs.Cells.{chunk_of, place_of}
use Rattle.region_cells.specs.Numbers.{number_of, bytes_of, element_at}
use Rattle.region_cells.specs.Boxes.{IsInBox, place_in_box}

-- the number at a cell's place among those of a box
abbrev pub cell_in : (from to cell : List ℕ) → List ℤ → ℤ
cell_in from to cell numbers = get_or numbers (place_in_box from to cell) (pos 0)

-- the number of a cell's element in its chunk
abbrev pub number_in_chunk : IntKind → (big : Bool) → (chunks cell bytes : List ℕ) → ℤ
number_in_chunk kind big chunks cell bytes =
    number_of kind big (element_at kind (place_of chunks cell) bytes)

-- The numbers of a box after those were read that stand in this chunk: each of its cells has the
-- number there, each other one stays.
pub record ReadsPart (kind : IntKind) (big : Bool) (from to chunks index bytes : List ℕ)
    (old new : List ℤ) : Type 0 where
  pub same_length : length new ≡ length old
  pub inside : (cell : List ℕ) → IsInBox from to cell → chunk_of chunks cell ≡ index
      → cell_in from to cell new ≡ number_in_chunk kind big chunks cell bytes
  pub outside : (cell : List ℕ) → IsInBox from to cell → chunk_of chunks cell ≢ index
      → cell_in from to cell new ≡ cell_in from to cell old

-- The bytes of a chunk after those of the box's numbers were written that stand in it: each
-- of its cells in the box has the given number, each other element keeps its bytes, also one
-- that lies behind the array's edge.
pub record WritesPart (kind : IntKind) (big : Bool) (from to chunks index : List ℕ)
    (numbers : List ℤ) (old new : List ℕ) : Type 0 where
  pub same_length : length new ≡ length old
  pub inside : (cell : List ℕ) → IsInBox from to cell → chunk_of chunks cell ≡ index
      → element_at kind (place_of chunks cell) new
      ≡ bytes_of kind big (cell_in from to cell numbers)
  pub outside : (cell : List ℕ) → length cell ≡ length chunks
      → (IsInBox from to cell → ⊥) → chunk_of chunks cell ≡ index
      → element_at kind (place_of chunks cell) new ≡ element_at kind (place_of chunks cell) old
