-- Laws of boxes.
use Rattle.std.specs.Prelude.{◌≡◌, ◌<◌, ℕ, ℤ, Bool, true, List, length, map, replicate, Option}
use Rattle.zarr_meta.specs.declared.kinds.IntKind.{IntKind}
use Rattle.zarr_meta.specs.Kinds.{size_of, is_in_range}
use Rattle.zarr_meta.specs.Grids.{chunk_bytes}
use Rattle.zarr_grid.specs.Cells.{chunk_of}
use Rattle.region_cells.specs.Boxes.{box_cells, count_of, IsInBox, IsBoxOver}
use Rattle.region_cells.specs.Numbers.{number_of, bytes_of, element_at}
use Rattle.region_cells.specs.Parts.{ReadsPart, WritesPart, cell_in}
use Rattle.region_cells.specs.Walks.{AreGridded, chunks_met, with_part}
use Rattle.region_cells.specs.Walks.{with_chunks, number_held, filled, with_written}

-- numbers that each cell of a box has at its place are those of its cells in C order
abbrev pub WholeLaw : Type 0
WholeLaw =
    (f : List ℕ → ℤ) (from to : List ℕ) (numbers : List ℤ) → length from ≡ length to
    → length numbers ≡ count_of from to
    → ((cell : List ℕ) → IsInBox from to cell → cell_in from to cell numbers ≡ f cell)
    → numbers ≡ map f (box_cells from to)

-- what reading a part of a box comes to is told whole
abbrev pub PartLaw : Type 0
PartLaw =
    (kind : IntKind) (big : Bool) (from to chunks index bytes : List ℕ) (old new : List ℤ)
    → length from ≡ length to → length old ≡ count_of from to
    → ReadsPart kind big from to chunks index bytes old new
    → new ≡ with_part kind big from to chunks index bytes old

-- Where the numbers of a box were the fill value, and then the chunks that it meets were
-- read, one after another, each cell has the number of its element in its chunk, or the
-- fill value where that isn't held.
abbrev pub BoxLaw : Type 0
BoxLaw =
    (kind : IntKind) (big : Bool) (fill : ℤ)
    (chunks from to : List ℕ) (held : List ℕ → Option (List ℕ))
    → AreGridded chunks from to
    → with_chunks kind big from to chunks held (chunks_met chunks from to)
    (replicate (count_of from to) fill)
    ≡ map (λ cell. number_held kind big fill chunks cell (held (chunk_of chunks cell)))
    (box_cells from to)

-- a number of the type is that of its own bytes
abbrev pub NumberLaw : Type 0
NumberLaw =
    (kind : IntKind) (big : Bool) (number : ℤ) → is_in_range kind number ≡ true
    → number_of kind big (bytes_of kind big number) ≡ number

-- what writing a part of a box comes to is told whole
abbrev pub WrittenLaw : Type 0
WrittenLaw =
    (kind : IntKind) (big : Bool) (from to chunks index : List ℕ)
    (numbers : List ℤ) (old new : List ℕ)
    → IsBoxOver from to chunks index → length old ≡ chunk_bytes (size_of kind) chunks
    → WritesPart kind big from to chunks index numbers old new
    → new ≡ with_written kind big from to chunks index numbers old

-- each element of a chunk that was filled has the number's bytes
abbrev pub FilledLaw : Type 0
FilledLaw =
    (kind : IntKind) (big : Bool) (number : ℤ) (count place : ℕ) → place < count
    → element_at kind place (filled kind big number count) ≡ bytes_of kind big number
