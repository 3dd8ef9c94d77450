-- What the payload of a manifest says. (Icechunk specification version 1, "Manifests"; which slot
-- has what, that lists stand in order, and the limit are own.)
use Rattle.std.specs.Prelude.{ℕ, ◌+◌, List, [], length, sum_by, Option, Some, None, Result, Ok, Err}
use Rattle.flat_tables.specs.declared.header.Kind.TheVariants as kinds
use Rattle.flat_tables.specs.declared.fault.FileFault.{FileFault}
use Rattle.flat_tables.specs.declared.fault.FileFault.TheVariants.{VirtualRef, RefKind}
use Rattle.flat_tables.specs.Step.{◌>>=◌}
use Rattle.flat_tables.specs.Places.{TableIn, VectorIn, root_of, struct_of}
use Rattle.flat_tables.specs.Places.{scalar_of, text_of, vector_of, all_of, table_of}
use Rattle.flat_tables.specs.Rows.{flat, required, optional, at_most, rows, each, in_order}
use Rattle.flat_tables.specs.File.{file_of}
use Rattle.file_fields.specs.Fields.{id_key, index_key, id8_of, id12_of, index_of}
use Rattle.manifest_file.specs.declared.manifest.Place.{Place}
use Rattle.manifest_file.specs.declared.manifest.Place.TheVariants.{Inline, Object}
use Rattle.manifest_file.specs.declared.manifest.ChunkRef.{ChunkRef}
use Rattle.manifest_file.specs.declared.manifest.ArrayRefs.{ArrayRefs}
use Rattle.manifest_file.specs.declared.manifest.ManifestFile.{ManifestFile}

-- own: the chunks of all arrays are no more than so many
abbrev pub refs_limit : ℕ
refs_limit = 4194304

abbrev pub refs_of : List ArrayRefs → ℕ
refs_of arrays = sum_by (λ a. length a.refs) arrays

-- chunks stand in the order of their indices, arrays in that of their ids
abbrev pub ref_key : ChunkRef → List ℕ
ref_key chunk = index_key chunk.index

abbrev pub array_key : ArrayRefs → List ℕ
array_key array = id_key array.node

-- where element `at` has its bytes: no other place, and either in the manifest or in an object
abbrev pub place_of : ℕ → Option (List ℕ) → Option VectorIn → ℕ → ℕ → Option (List ℕ)
    → Result Place FileFault
place_of at (Some location) inline offset size object = Err (VirtualRef at)
place_of at None (Some inline) offset size None = Ok (Inline (all_of inline))
place_of at None None offset size (Some id) = Ok (Object (record { 0 = id }) offset size)
place_of at None (Some inline) offset size (Some id) = Err (RefKind at)
place_of at None None offset size None = Err (RefKind at)

-- table ChunkRef from slot 1 on: bytes, offset, length, object, another place
unfoldable pub place_in : TableIn → ℕ → Result Place FileFault
place_in t at = do
  inline ← flat (vector_of t 1 1)
  offset ← optional 0 (scalar_of t 2 8)
  size ← optional 0 (scalar_of t 3 8)
  object ← flat (struct_of t 4 12)
  location ← flat (text_of t 5)
  place_of at location inline offset size object

unfoldable pub ref_of : ℕ → TableIn → Result ChunkRef FileFault
ref_of at t = do
  index ← index_of t 0
  place ← place_in t at
  Ok (record { index = index; place = place })

unfoldable pub ref_at : VectorIn → ℕ → Result ChunkRef FileFault
ref_at v at = flat (table_of v at) >>= ref_of at

abbrev pub refs_in : VectorIn → Result (List ChunkRef) FileFault
refs_in v = rows (in_order ref_key 1 (each (ref_at v))) [] v.count

-- table ArrayManifest, where so many chunks came before
unfoldable pub array_of : ℕ → TableIn → Result ArrayRefs FileFault
array_of before t = do
  node ← id8_of t 0
  v ← required 1 (vector_of t 1 4)
  _ ← at_most refs_limit (before + v.count)
  refs ← refs_in v
  Ok (record { node = node; refs = refs })

unfoldable pub array_at : VectorIn → ℕ → ℕ → Result ArrayRefs FileFault
array_at v at before = flat (table_of v at) >>= array_of before

-- the array behind these
abbrev pub array_behind : VectorIn → List ArrayRefs → Result ArrayRefs FileFault
array_behind v arrays = array_at v (length arrays) (refs_of arrays)

abbrev pub arrays_in : VectorIn → Result (List ArrayRefs) FileFault
arrays_in v = rows (in_order array_key 1 (array_behind v)) [] v.count

-- table Manifest: what the payload says, or its first fault
unfoldable pub payload_of : List ℕ → Result ManifestFile FileFault
payload_of payload = do
  t ← flat (root_of payload)
  id ← id12_of t 0
  v ← required 1 (vector_of t 1 4)
  arrays ← arrays_in v
  Ok (record { id = id; arrays = arrays })

-- the manifest that a file stands for, or the file's first fault
unfoldable pub manifest_of : List ℕ → Result ManifestFile FileFault
manifest_of file = file_of kinds.Manifest payload_of file
