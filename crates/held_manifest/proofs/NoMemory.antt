-- What a file stands for never tells want of memory.
use Rattle.std.proofs.Common.{◌≡◌, ◌≢◌, ℕ, ◌+◌, List, [], length, Option, None, Some, Err}
use Rattle.flat_tables.specs.declared.header.Kind.TheVariants as kinds
use Rattle.flat_tables.specs.declared.fault.FileFault.{FileFault}
use Rattle.flat_tables.specs.declared.fault.FileFault.TheVariants.{NoMemory}
use Rattle.flat_tables.specs.Places.{TableIn, VectorIn, root_of, struct_of, scalar_of, text_of, vector_of, table_of}
use Rattle.flat_tables.specs.Rows.{flat, required, optional, at_most, each, in_order}
use Rattle.file_fields.specs.Fields.{id8_of, id12_of, index_of}
use Rattle.file_fields.proofs.NoMemory.{Told, bind_told, flat_told, required_told, optional_told, at_most_told, in_order_told, rows_told, id8_told, id12_told, index_told, file_told, told_fault}
use Rattle.manifest_file.specs.Manifests.{refs_limit, refs_of, ref_key, array_key, place_of, place_in, ref_of, ref_at, refs_in, array_of, array_at, array_behind, arrays_in, payload_of, manifest_of}

-- ---- chunks

place_told : (at : ℕ) (location : Option (List ℕ)) (inline : Option VectorIn) (offset size : ℕ) (object : Option (List ℕ)) → Told (place_of at location inline offset size object)
place_told at (Some location) inline offset size object = λ e. cc
place_told at None (Some inline) offset size None = tt
place_told at None None offset size (Some id) = tt
place_told at None (Some inline) offset size (Some id) = λ e. cc
place_told at None None offset size None = λ e. cc

place_in_told : (t : TableIn) (at : ℕ) → Told (place_in t at)
unfolding place_in
place_in_told t at =
    bind_told (flat (vector_of t 1 1)) _ (flat_told (vector_of t 1 1)) (λ inline.
    bind_told (optional 0 (scalar_of t 2 8)) _ (optional_told 0 (scalar_of t 2 8)) (λ offset.
    bind_told (optional 0 (scalar_of t 3 8)) _ (optional_told 0 (scalar_of t 3 8)) (λ size.
    bind_told (flat (struct_of t 4 12)) _ (flat_told (struct_of t 4 12)) (λ object.
    bind_told (flat (text_of t 5)) _ (flat_told (text_of t 5)) (λ location.
    place_told at location inline offset size object)))))

ref_told : (at : ℕ) (t : TableIn) → Told (ref_of at t)
unfolding ref_of
ref_told at t = bind_told (index_of t 0) _ (index_told t 0) (λ index. bind_told (place_in t at) _ (place_in_told t at) (λ place. tt))

ref_at_told : (v : VectorIn) (at : ℕ) → Told (ref_at v at)
unfolding ref_at
ref_at_told v at = bind_told (flat (table_of v at)) (ref_of at) (flat_told (table_of v at)) (ref_told at)

refs_told : (v : VectorIn) → Told (refs_in v)
refs_told v = rows_told (in_order ref_key 1 (each (ref_at v))) [] v.count (λ before. in_order_told ref_key 1 (each (ref_at v)) before (ref_at_told v (length before)))

-- ---- arrays

array_told : (before : ℕ) (t : TableIn) → Told (array_of before t)
unfolding array_of
array_told before t =
    bind_told (id8_of t 0) _ (id8_told t 0) (λ node.
    bind_told (required 1 (vector_of t 1 4)) _ (required_told 1 (vector_of t 1 4)) (λ v.
    bind_told (at_most refs_limit (before + v.count)) _ (at_most_told refs_limit (before + v.count)) (λ few.
    bind_told (refs_in v) _ (refs_told v) (λ refs. tt))))

array_at_told : (v : VectorIn) (at before : ℕ) → Told (array_at v at before)
unfolding array_at
array_at_told v at before = bind_told (flat (table_of v at)) (array_of before) (flat_told (table_of v at)) (array_told before)

arrays_told : (v : VectorIn) → Told (arrays_in v)
arrays_told v = rows_told (in_order array_key 1 (array_behind v)) [] v.count (λ before. in_order_told array_key 1 (array_behind v) before (array_at_told v (length before) (refs_of before)))

-- ---- the file

payload_told : (payload : List ℕ) → Told (payload_of payload)
unfolding payload_of
payload_told payload =
    bind_told (flat (root_of payload)) _ (flat_told (root_of payload)) (λ t.
    bind_told (id12_of t 0) _ (id12_told t 0) (λ id.
    bind_told (required 1 (vector_of t 1 4)) _ (required_told 1 (vector_of t 1 4)) (λ v.
    bind_told (arrays_in v) _ (arrays_told v) (λ arrays. tt))))

manifest_told : (file : List ℕ) → Told (manifest_of file)
unfolding manifest_of
manifest_told file = file_told kinds.Manifest payload_of file payload_told

-- the fault of a file is no want of memory
pub never_memory : (file : List ℕ) (fault : FileFault) → manifest_of file ≡ Err fault → fault ≢ NoMemory
never_memory file fault is = told_fault (manifest_of file) fault (manifest_told file) is
