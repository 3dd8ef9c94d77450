-- The chunks that a box meets, and what reading them comes to. (Own; Zarr v3 core
-- specification, "Regular grids".)
use Rattle.std.specs.Prelude.{◌≡◌, ℕ, zero, suc, ◌++◌, ◌==◌, ◌+◌, ◌*◌, ◌-◌, ◌/◌, ◌%◌, ◌^◌, ◌≤◌}
use Rattle.std.specs.Prelude.{◌<◌, ◌&&◌, nat_le, nat_lt, true, false, if◌then◌else◌, Bool, ℤ}
use Rattle.std.specs.Prelude.{pos, List, [], ◌∷◌, length, map, zip, get_or, Option, Some, None}
use Rattle.std.specs.List.{list_all, flat_map}
use Rattle.zarr_meta.specs.declared.kinds.IntKind.{IntKind}
use Rattle.zarr_meta.specs.Kinds.{is_in_range}
use Rattle.zarr_meta.specs.Grids.{grid_of, product}
use Rattle.zarr_grid.specs.Cells.{chunk_of}
use Rattle.region_cells.specs.Parts.{number_in_chunk, cell_in}
use Rattle.region_cells.specs.Numbers.{bytes_of, element_at}
use Rattle.region_cells.specs.Boxes.{numbers_from, box_cells, count_of}

-- a box of an array of this shape
abbrev pub are_at_most : List ℕ → List ℕ → Bool
are_at_most numbers limits = list_all (λ p. nat_le p.0 p.1) (zip numbers limits)

abbrev pub is_in_shape : (shape from to : List ℕ) → Bool
is_in_shape shape from to =
    length from == length shape && length to == length shape && are_at_most from to
    && are_at_most to shape

-- own: the most cells of a box
abbrev pub most_cells : ℕ
most_cells = 1048576

abbrev pub count_within : (from to : List ℕ) → Option ℕ
count_within from to =
    if nat_le (count_of from to) most_cells then Some (count_of from to) else None

-- the first chunk along each dimension that a box with cells meets, and
-- what stands behind the last one
abbrev pub firsts_of : (chunks from : List ℕ) → List ℕ
firsts_of chunks from = chunk_of chunks from

abbrev pub ends_of : (chunks to : List ℕ) → List ℕ
ends_of chunks to = grid_of to chunks

-- the chunks that a box meets, in order of their indices
abbrev pub chunks_met : (chunks from to : List ℕ) → List (List ℕ)
chunks_met chunks from to =
    if count_of from to == 0 then [] else box_cells (firsts_of chunks from) (ends_of chunks to)

-- the cell of a box at this place
abbrev pub cell_at : (from to : List ℕ) → (place : ℕ) → List ℕ
cell_at [] to place = []
cell_at (a ∷ from) [] place = []
cell_at (a ∷ from) (b ∷ to) place =
    (a + place / count_of from to) ∷ cell_at from to (place % count_of from to)

-- along each dimension a chunk has elements, and the box ends before 2^32 chunks
abbrev pub AreGridded : (chunks from to : List ℕ) → Type 0
AreGridded [] [] [] = Unit {0}
AreGridded (n ∷ chunks) (a ∷ from) (b ∷ to) =
    (1 ≤ n) × (b ≤ n * (2 ^ 32 - 1)) × AreGridded chunks from to
AreGridded chunks from to = ⊥

-- the first number that the type doesn't hold
pub record IsFirstOutside (kind : IntKind) (numbers : List ℤ) (at : ℕ) : Type 0 where
  pub within : at < length numbers
  pub outside : is_in_range kind (get_or numbers at (pos 0)) ≡ false
  pub before : (k : ℕ) → k < at → is_in_range kind (get_or numbers k (pos 0)) ≡ true

-- whether two indices are the same
abbrev pub is_same : List ℕ → List ℕ → Bool
is_same [] [] = true
is_same [] (y ∷ ys) = false
is_same (x ∷ xs) [] = false
is_same (x ∷ xs) (y ∷ ys) = x == y && is_same xs ys

-- The numbers of a box after those were read that stand in this chunk, whose bytes these are.
abbrev pub with_part : IntKind → (big : Bool)
    → (from to chunks index bytes : List ℕ) → List ℤ → List ℤ
with_part kind big from to chunks index bytes numbers =
    map (λ p. if is_same (chunk_of chunks p.0) index then number_in_chunk kind big chunks p.0 bytes
    else p.1) (zip (box_cells from to) numbers)

-- the same of a chunk that may not be held: it leaves them
abbrev pub with_chunk : IntKind → (big : Bool) → (from to chunks index : List ℕ)
    → Option (List ℕ) → List ℤ → List ℤ
with_chunk kind big from to chunks index None numbers = numbers
with_chunk kind big from to chunks index (Some bytes) numbers =
    with_part kind big from to chunks index bytes numbers

-- and of chunks one after another, where each has these bytes, or isn't held
abbrev pub with_chunks : IntKind → (big : Bool) → (from to chunks : List ℕ)
    → (List ℕ → Option (List ℕ)) → (met : List (List ℕ)) → List ℤ → List ℤ
with_chunks kind big from to chunks held [] numbers = numbers
with_chunks kind big from to chunks held (index ∷ met) numbers =
    with_chunks kind big from to chunks held met
    (with_chunk kind big from to chunks index (held index) numbers)

-- the number of a cell: that of its element in its chunk, or the fill
-- value where the chunk isn't held
abbrev pub number_held : IntKind → (big : Bool) → (fill : ℤ)
    → (chunks cell : List ℕ) → Option (List ℕ) → ℤ
number_held kind big fill chunks cell None = fill
number_held kind big fill chunks cell (Some bytes) = number_in_chunk kind big chunks cell bytes

-- ---- chunks that are written
-- so many times the same bytes
abbrev pub repeated : (bytes : List ℕ) → (count : ℕ) → List ℕ
repeated bytes zero = []
repeated bytes (suc count) = bytes ++ repeated bytes count

-- the bytes of a chunk each of whose elements has this number
abbrev pub filled : IntKind → (big : Bool) → (number : ℤ) → (count : ℕ) → List ℕ
filled kind big number count = repeated (bytes_of kind big number) count

-- the cell whose element stands at this place of a chunk
abbrev pub chunk_cell : (chunks index : List ℕ) → (place : ℕ) → List ℕ
chunk_cell [] index place = []
chunk_cell (n ∷ chunks) [] place = []
chunk_cell (n ∷ chunks) (i ∷ index) place =
    (i * n + place / product chunks) ∷ chunk_cell chunks index (place % product chunks)

-- whether a box has this cell
abbrev pub is_in_box : (from to cell : List ℕ) → Bool
is_in_box [] [] [] = true
is_in_box (a ∷ from) (b ∷ to) (n ∷ cell) = nat_le a n && nat_lt n b && is_in_box from to cell
is_in_box from to cell = false

-- the bytes of a chunk after the numbers of a box were written that stand in it: an element whose
-- cell is in the box has its number's bytes, each other one keeps its own
abbrev pub written_at : IntKind → (big : Bool) → (from to : List ℕ) → List ℤ → (bytes : List ℕ)
    → (place : ℕ) → (cell : List ℕ) → List ℕ
written_at kind big from to numbers bytes place cell =
    if is_in_box from to cell then bytes_of kind big (cell_in from to cell numbers)
    else element_at kind place bytes

abbrev pub with_written : IntKind → (big : Bool) → (from to chunks index : List ℕ) → List ℤ
    → (bytes : List ℕ) → List ℕ
with_written kind big from to chunks index numbers bytes =
    flat_map (λ place. written_at kind big from to numbers bytes place
    (chunk_cell chunks index place)) (numbers_from 0 (product chunks))
