-- The payloads of files, and ids, indices and bytes in their tables: how ids and indices are
-- read, and the layout of all three. (Icechunk specification version 1: ids are structs of
-- bytes, indices are vectors of u32.)
use Rattle.std.specs.Prelude.{◌≡◌, ◌<◌, ◌^◌, ℕ, List, length, map, Result, Ok}
use Rattle.std.specs.List.{flat_map, AllByRecursion}
use Rattle.std.specs.Int.{w32, from_le_bytes, to_le_bytes}
use Rattle.ice_ids.specs.declared.Id8.{Id8}
use Rattle.ice_ids.specs.declared.Id12.{Id12}
use Rattle.flat_tables.specs.declared.header.Kind.{Kind}
use Rattle.flat_tables.specs.declared.fault.FileFault.{FileFault}
use Rattle.flat_tables.specs.File.{file_of}
use Rattle.flat_tables.specs.Step.{◌>>=◌}
use Rattle.flat_tables.specs.Places.{TableIn, struct_of, vector_of, items_of}
use Rattle.flat_tables.specs.Rows.{required}
use Rattle.flat_tables.specs.Layout.{Part, inline, offset_to, vector_block}

-- the payload of a file of a kind
abbrev pub payload_in : Kind → List ℕ → Result (List ℕ) FileFault
payload_in kind file = file_of kind (λ payload. Ok payload) file

-- ids stand in the order of their bytes, indices in that of their numbers
abbrev pub id_key : Id8 → List ℕ
id_key id = id.0

abbrev pub index_key : List ℕ → List ℕ
index_key index = index

-- the node id, the object id and the index in a slot, which must be there
unfoldable pub id8_of : TableIn → ℕ → Result Id8 FileFault
id8_of t slot = do
  bytes ← required slot (struct_of t slot 8)
  Ok (record { 0 = bytes })

unfoldable pub id12_of : TableIn → ℕ → Result Id12 FileFault
id12_of t slot = do
  bytes ← required slot (struct_of t slot 12)
  Ok (record { 0 = bytes })

unfoldable pub index_of : TableIn → ℕ → Result (List ℕ) FileFault
index_of t slot = do
  v ← required slot (vector_of t slot 4)
  Ok (map (from_le_bytes w32) (items_of v))

-- their fields, and that of bytes
abbrev pub id8_part : Id8 → Part
id8_part id = inline 1 id.0

abbrev pub id12_part : Id12 → Part
id12_part id = inline 1 id.0

abbrev pub index_part : List ℕ → Part
index_part index = offset_to (vector_block 4 (length index) (flat_map (to_le_bytes w32) index))

abbrev pub bytes_part : List ℕ → Part
bytes_part bytes = offset_to (vector_block 1 (length bytes) bytes)

-- what the types say of them
abbrev pub IsId8 : Id8 → Type 0
IsId8 id = length id.0 ≡ 8

abbrev pub IsId12 : Id12 → Type 0
IsId12 id = length id.0 ≡ 12

abbrev pub IsIndex : List ℕ → Type 0
IsIndex index = AllByRecursion (λ n. n < 2 ^ 32) index
