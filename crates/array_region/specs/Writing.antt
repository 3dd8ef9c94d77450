-- What writing a box of numbers does: of each chunk that it meets, in order of their indices, the
-- bytes are read, unless the box covers it, and the chunk is set with the box's numbers. (Zarr v3
-- core specification, "Chunks", "fill_value"; own.)
use Rattle.std.specs.Prelude.{ℕ, suc, ℤ, ◌+◌, ◌*◌, ◌==◌, ◌&&◌, nat_le, nat_lt}
use Rattle.std.specs.Prelude.{true, false, if◌then◌else◌, Bool, List, [], ◌∷◌}
use Rattle.std.specs.Prelude.{length, Option, Some, None, option_map, Result, Ok, Err}
use Rattle.std.specs.List.{list_all}
use Rattle.ice_ids.specs.declared.Id8.{Id8}
use Rattle.zarr_meta.specs.declared.kinds.IntKind.{IntKind}
use Rattle.zarr_meta.specs.declared.views.ArrayView.{ArrayView}
use Rattle.zarr_meta.specs.Grids.{product}
use Rattle.zarr_meta.specs.Kinds.{is_in_range}
use Rattle.zarr_tree.specs.Nodes.{chunk_length}
use Rattle.store_api.specs.declared.machines.Refusal.{Refusal}
use Rattle.store_api.specs.declared.machines.Refusal.TheVariants.{ReadOnly, Region}
use Rattle.store_api.specs.declared.machines.RegionFault.TheVariants.{CellCount, CellRange}
use Rattle.store_api.specs.Program.{Done}
use Rattle.store_api.specs.Running.{Program, ◌>>=◌}
use Rattle.session.specs.declared.chunks.Value.{Value}
use Rattle.session.specs.declared.chunks.Value.TheVariants.{Bytes, Fill}
use Rattle.session.specs.Sessions.{SessionState, writes}
use Rattle.session.specs.Chunks.{set_program}
use Rattle.session.specs.Arrays.{array_at}
use Rattle.region_cells.specs.Walks.{chunks_met, filled, with_written}
use Rattle.array_region.specs.Planning.{box_count}
use Rattle.array_region.specs.Reading.{Kept, Chunk, keeping, chunk_kept, Reads, fits}

-- ---- a chunk
-- whether all cells of a chunk lie in the box; at an array's edge they don't
abbrev pub is_covered : (from to chunks index : List ℕ) → Bool
is_covered [] [] [] [] = true
is_covered (a ∷ from) (b ∷ to) (n ∷ chunks) (i ∷ index) =
    nat_le a (i * n) && nat_le (i * n + n) b && is_covered from to chunks index
is_covered from to chunks index = false

-- the chunk as it was; one that is covered isn't read
abbrev pub old_chunk : SessionState → Reads → (index : List ℕ) → Kept → Program Chunk
old_chunk s r index kept =
    if is_covered r.from r.to r.array.chunks index then keeping kept Fill
    else chunk_kept s r.path (chunk_length r.array) r.node index kept

-- "fill_value": the bytes of a chunk, those of the fill value where it isn't held
abbrev pub bytes_read : ArrayView → Value → List ℕ
bytes_read array Fill = filled array.kind array.big array.fill (product array.chunks)
bytes_read array (Bytes bytes) = bytes

-- the bytes with those of the box's numbers; bytes that are no chunk of the array stay
abbrev pub with_numbers : Reads → (index : List ℕ) → List ℤ → (bytes : List ℕ) → List ℕ
with_numbers r index numbers bytes =
    if fits r index bytes numbers
    then with_written r.array.kind r.array.big r.from r.to r.array.chunks index numbers bytes
    else bytes

-- own: what isn't a list of bytes is no chunk
abbrev pub as_bytes : List ℕ → List ℕ
as_bytes bytes = if list_all (λ n. nat_lt n 256) bytes then bytes else []

abbrev pub bytes_put : Reads → (index : List ℕ) → List ℤ → Value → List ℕ
bytes_put r index numbers value = as_bytes (with_numbers r index numbers (bytes_read r.array value))

-- ---- a box
-- where `old` reads the chunks as they were
unfoldable pub write_chunks : (old : List ℕ → Kept → Program Chunk) → SessionState → Reads → List ℤ
    → Kept → (met : List (List ℕ)) → Program SessionState
write_chunks old s r numbers kept [] = Done (Ok s)
write_chunks old s r numbers kept (index ∷ met) =
    old index kept
    >>= λ chunk. set_program s r.path index (bytes_put r index numbers chunk.0)
    >>= λ t. write_chunks old t r numbers chunk.1 met

-- the first number that the type doesn't hold, from a place on
abbrev pub outside_from : IntKind → List ℤ → (at : ℕ) → Option ℕ
outside_from kind [] at = None
outside_from kind (number ∷ numbers) at =
    if is_in_range kind number then outside_from kind numbers (suc at) else Some at

-- why these can't be the numbers of so many cells: CellCount, CellRange
abbrev pub cells_refused : IntKind → (count : ℕ) → List ℤ → Option Refusal
cells_refused kind count numbers =
    if length numbers == count
    then option_map (λ at. Region (CellRange at)) (outside_from kind numbers 0)
    else Some (Region (CellCount count (length numbers)))

abbrev pub unless_why : {A : Type 0} → Option Refusal → Program A → Program A
unless_why None p = p
unless_why (Some why) p = Done (Err why)

abbrev pub write_box : SessionState → Reads → List ℤ → Result ℕ Refusal → Program SessionState
write_box s r numbers (Err why) = Done (Err why)
write_box s r numbers (Ok count) =
    unless_why (cells_refused r.array.kind count numbers)
    (write_chunks (old_chunk s r) s r numbers None (chunks_met r.array.chunks r.from r.to))

abbrev pub write_array : SessionState → (path from to : List ℕ) → List ℤ
    → Result (Id8 × ArrayView) Refusal → Program SessionState
write_array s path from to numbers (Err why) = Done (Err why)
write_array s path from to numbers (Ok found) =
    write_box s (record { node = found.0; array = found.1; path = path; from = from; to = to })
    numbers (box_count found.1 from to)

-- The session in which the cells of a box have these numbers, or the first refusal:
-- ReadOnly, NoNode, NotArray, OutOfShape, Large, CellCount, CellRange, and then
-- refusals of what is got and put.
unfoldable pub region_set_program : SessionState → (path from to : List ℕ) → List ℤ
    → Program SessionState
region_set_program s path from to numbers =
    if writes s then write_array s path from to numbers (array_at s path) else Done (Err ReadOnly)
